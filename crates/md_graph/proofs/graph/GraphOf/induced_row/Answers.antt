use Rattle.std.proofs.Common.{◌∙◌, sym}
use Rattle.md_graph.proofs.RowLemmas.{induced_dead, induced_row_is}
use Rattle.md_graph.proofs.graph.GraphOf.induced_row.Goals as goal

pub returns-then-not-has : goal.returns-then-not-has
returns-then-not-has g c =
    induced_dead c.self.invariant.0 c.self.view_is c.args.names.now c.args.v (sym c.has.ensures.value ∙ c.if-not-has.true) (c.copy.ensures.value ∙ c.self.invariant.1.empty)

pub returns : goal.returns
returns g c =
    induced_row_is c.self.invariant.0 c.self.view_is c.args.names.now c.args.v (sym c.has.ensures.value ∙ c.if-not-has.false) _ c.row-row.ensures.set _ c.and.ensures.value
