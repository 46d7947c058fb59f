-- Each write takes the beginning of what is left.
use Rattle.std.proofs.Common.{◌++◌, take}
use Rattle.std.proofs.KnownBytes.{Appends-trans}
use Rattle.md_io.proofs.Writing.{written-more}
use Rattle.md_io.proofs.system.write_whole.Goals as goal

pub loop-rest-preserved : goal.loop-rest-preserved
loop-rest-preserved g c =
    let (done, more) = c.loop-rest.invariant in
    let rest = c.loop-rest.rest.now in
    let n = c.in-Some.n in
    (done ++ take n rest, (written-more _ done rest n more.0, Appends-trans _ _ _ _ _ more.1 c.in-Some.ensures.some))
