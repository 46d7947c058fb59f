use Rattle.std.proofs.Common.{◌∙◌, sym}
use Rattle.md_graph.proofs.RowLemmas.{complement_dead, complement_row_is}
use Rattle.md_graph.proofs.graph.GraphOf.complement_row.Goals as goal

pub returns-then-not-has : goal.returns-then-not-has
returns-then-not-has g c = record {
  value =
      complement_dead c.self.invariant.0 c.self.view_is c.args.v (sym c.has.ensures.value ∙ c.if-not-has.true) (c.copy.ensures.value ∙ c.self.invariant.1.empty);
}

pub returns : goal.returns
returns g c = record {
  value =
      complement_row_is c.self.invariant.0 c.self.view_is c.args.v (c.self.invariant.0.names c.args.v (sym c.has.ensures.value ∙ c.if-not-has.false)) (sym c.has.ensures.value ∙ c.if-not-has.false) _ c.index.ensures _ c.minus-others.ensures.value _ c.remove.ensures.changed;
}
