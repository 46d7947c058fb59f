use Rattle.md_graph.proofs.RowLemmas.{rows_clear}
use Rattle.md_graph.proofs.graph.GraphOf.clear.Goals as goal

pub invariant_of-self : goal.invariant_of-self
invariant_of-self g c =
    ((rows_clear c.self.invariant.0 _ _ c.clear_rows.new.rows c.self.inside.rows.ok.0 c.deref_mut.ensures.value c.clear_rows.auto.rows c.clear_rows.ensures c.clear.ensures.changed).0, c.self.invariant.1)

pub returns : goal.returns
returns g c = record {
  changed =
      (rows_clear c.self.invariant.0 _ _ c.clear_rows.new.rows c.self.inside.rows.ok.0 c.deref_mut.ensures.value c.clear_rows.auto.rows c.clear_rows.ensures c.clear.ensures.changed).1;
}
