use Rattle.md_digraph.proofs.ArcRowLemmas.{rows_clear}
use Rattle.md_digraph.proofs.digraph.DigraphOf.clear.Goals as goal

pub invariant_of-self : goal.invariant_of-self
invariant_of-self g c =
    ((rows_clear c.self.invariant.0 _ _ _ c.clear_rows.new.out _ c.clear_rows.new.into c.self.inside.out.ok.0 c.deref_mut.ensures.value c.clear_rows.auto.out c.clear_rows.ensures.out c.self.inside.into.ok.0 c.deref_mut-2.ensures.value c.clear_rows.auto.into c.clear_rows.ensures.into c.clear.ensures.changed).0, c.self.invariant.1)

pub returns : goal.returns
returns g c = record {
  changed =
      (rows_clear c.self.invariant.0 _ _ _ c.clear_rows.new.out _ c.clear_rows.new.into c.self.inside.out.ok.0 c.deref_mut.ensures.value c.clear_rows.auto.out c.clear_rows.ensures.out c.self.inside.into.ok.0 c.deref_mut-2.ensures.value c.clear_rows.auto.into c.clear_rows.ensures.into c.clear.ensures.changed).1;
}
