use Rattle.md_graph.proofs.RowLemmas.{rows_add_edges}
use Rattle.md_graph.proofs.graph.GraphOf.add_edges.Goals as goal

pub invariant_of-self : goal.invariant_of-self
invariant_of-self g c =
    ((rows_add_edges c.self.invariant.0 c.self.view_is c.args.v c.args.others.now c.requires.vertex c.requires.vertices c.requires.differ c.union_with.new.self c.index_mut.result.now c.union_with.ensures.changed c.index_mut.ensures.value c.self.inside.rows.len c.deref_mut.result.now c.insert_in_rows.new.rows c.self.inside.rows.ok.0 c.deref_mut.ensures.value c.insert_in_rows.auto.rows c.insert_in_rows.ensures.rows).0, c.self.invariant.1)

pub returns : goal.returns
returns g c = record {
  changed =
      (rows_add_edges c.self.invariant.0 c.self.view_is c.args.v c.args.others.now c.requires.vertex c.requires.vertices c.requires.differ c.union_with.new.self c.index_mut.result.now c.union_with.ensures.changed c.index_mut.ensures.value c.self.inside.rows.len c.deref_mut.result.now c.insert_in_rows.new.rows c.self.inside.rows.ok.0 c.deref_mut.ensures.value c.insert_in_rows.auto.rows c.insert_in_rows.ensures.rows).1;
}
