use Rattle.std.proofs.Common.{arith, ◌∙◌, sym}
use Rattle.std.proofs.lemmas.Bool.{le-ltb}
use Rattle.md_graph.proofs.RowLemmas.{bit_is, no_edge}
use Rattle.md_graph.proofs.graph.GraphOf.has_edge.Goals as goal

pub returns-then-row-len : goal.returns-then-row-len
returns-then-row-len g c = record {
  value =
      c.has.ensures.value ∙ bit_is c.self.invariant.0 c.self.view_is c.args.u c.args.v (omega (arith, c.if-row-len.true, c.len.ensures, c.self.invariant.0.one_each)) _ c.index.ensures;
}

pub returns-else-row-len : goal.returns-else-row-len
returns-else-row-len g c = record {
  value =
      le-ltb _ _ c.if-row-len.false ∙ sym (no_edge c.self.invariant.0 c.self.view_is c.args.u c.args.v (omega (arith, c.if-row-len.false, c.len.ensures, c.self.invariant.0.one_each)));
}
