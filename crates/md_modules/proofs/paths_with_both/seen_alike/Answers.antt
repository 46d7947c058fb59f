use Rattle.md_modules.proofs.BothPaths.{alike_seen, alike_missed}
use Rattle.md_modules.proofs.paths_with_both.seen_alike.Goals as goal

pub returns-then-joined : goal.returns-then-joined
returns-then-joined g c =
    alike_missed c.row-near.ensures.graph c.args.u c.args.v _ _ c.row-near.ensures.set c.row.ensures.set _ _ _ c.args.joined c.if-joined.true c.vertices.ensures.set c.minus.ensures.value c.minus-then-joined.ensures.value

pub returns : goal.returns
returns g c =
    alike_seen c.row-near.ensures.graph c.args.u c.args.v _ _ c.row-near.ensures.set c.row-2.ensures.set _ c.args.joined c.if-joined.false c.and.ensures.value
