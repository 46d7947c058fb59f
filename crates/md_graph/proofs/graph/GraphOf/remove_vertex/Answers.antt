use Rattle.md_graph.proofs.RowLemmas.{rows_remove_vertex}
use Rattle.md_graph.proofs.graph.GraphOf.remove_vertex.Goals as goal

pub invariant_of-self : goal.invariant_of-self
invariant_of-self g c =
    ((rows_remove_vertex c.self.invariant.0 c.self.view_is c.args.v c.requires.vertex c.index.result.now c.copy-others.result c.index.ensures c.copy-others.ensures.value c.self.inside.rows.len c.deref_mut.result.now c.remove_from_rows.new.rows c.self.inside.rows.ok.0 c.deref_mut.ensures.value c.remove_from_rows.auto.rows c.remove_from_rows.ensures c.clear.ensures.changed c.remove.ensures.changed).0, c.self.invariant.1)

pub returns : goal.returns
returns g c = record {
  changed =
      (rows_remove_vertex c.self.invariant.0 c.self.view_is c.args.v c.requires.vertex c.index.result.now c.copy-others.result c.index.ensures c.copy-others.ensures.value c.self.inside.rows.len c.deref_mut.result.now c.remove_from_rows.new.rows c.self.inside.rows.ok.0 c.deref_mut.ensures.value c.remove_from_rows.auto.rows c.remove_from_rows.ensures c.clear.ensures.changed c.remove.ensures.changed).1;
}
