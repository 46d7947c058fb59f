use Rattle.std.proofs.Common.{arith, rules}
use Rattle.md_graph.proofs.RowLemmas.{rows_remove_edge, ends_are_names}
use Rattle.md_graph.proofs.graph.GraphOf.remove_edge.Goals as goal

pub index_mut-requires : goal.index_mut-requires
index_mut-requires g c =
    let names = ends_are_names c.self.invariant.0 c.self.view_is c.args.u c.args.v c.requires.edge in
    omega (arith, c.self.invariant.0.one_each)

pub remove-requires : goal.remove-requires
remove-requires g c =
    let names = ends_are_names c.self.invariant.0 c.self.view_is c.args.u c.args.v c.requires.edge in
    (search rules, omega (arith, c.self.invariant.1.made))

pub index_mut-requires-2 : goal.index_mut-requires-2
index_mut-requires-2 g c =
    let names = ends_are_names c.self.invariant.0 c.self.view_is c.args.u c.args.v c.requires.edge in
    omega (arith, c.self.invariant.0.one_each)

pub remove-requires-2 : goal.remove-requires-2
remove-requires-2 g c =
    let names = ends_are_names c.self.invariant.0 c.self.view_is c.args.u c.args.v c.requires.edge in
    (search rules, omega (arith, c.self.invariant.1.made))

pub invariant_of-self : goal.invariant_of-self
invariant_of-self g c =
    ((rows_remove_edge c.self.invariant.0 c.self.view_is c.args.u c.args.v c.requires.edge c.remove.ensures.changed c.index_mut.ensures.value c.remove-2.ensures.changed c.index_mut-2.ensures.value).0, c.self.invariant.1)

pub returns : goal.returns
returns g c = record {
  changed =
      (rows_remove_edge c.self.invariant.0 c.self.view_is c.args.u c.args.v c.requires.edge c.remove.ensures.changed c.index_mut.ensures.value c.remove-2.ensures.changed c.index_mut-2.ensures.value).1;
}
