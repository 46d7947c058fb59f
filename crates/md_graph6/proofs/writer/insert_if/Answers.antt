use Rattle.std.proofs.Common.{arith, ap, ◌∙◌}
use Rattle.std.specs.FinSet as set
use Rattle.std.proofs.lemmas.Bool.Decides.{nat_tests}
use Rattle.md_graph.proofs.SetLaws.{contains-insert}
use Rattle.md_graph6.proofs.writer.insert_if.Goals as goal

pub returns-then-wanted : goal.returns-then-wanted
returns-then-wanted g c = λ k.
    let e = ap (λ s. set.contains s k) c.insert.ensures.changed ∙ contains-insert c.args.column.now c.args.i k in
    grind (arith, nat_tests, e, c.if-wanted.true)
