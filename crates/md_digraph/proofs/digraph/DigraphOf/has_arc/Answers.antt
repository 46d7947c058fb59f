use Rattle.std.proofs.Common.{arith, ◌∙◌, sym}
use Rattle.std.proofs.lemmas.Bool.{le-ltb}
use Rattle.md_digraph.proofs.ArcRowLemmas.{arc_bit, no_arc_from}
use Rattle.md_digraph.proofs.digraph.DigraphOf.has_arc.Goals as goal

pub returns-then-row-len : goal.returns-then-row-len
returns-then-row-len g c = record {
  value =
      c.has.ensures.value ∙ arc_bit c.self.invariant.0 c.self.view_is c.args.u c.args.v (omega (arith, c.if-row-len.true, c.len.ensures)) _ c.index.ensures;
}

pub returns-else-row-len : goal.returns-else-row-len
returns-else-row-len g c = record {
  value =
      le-ltb _ _ c.if-row-len.false ∙ sym (no_arc_from c.self.invariant.0 c.self.view_is c.args.u c.args.v (omega (arith, c.if-row-len.false, c.len.ensures)));
}
