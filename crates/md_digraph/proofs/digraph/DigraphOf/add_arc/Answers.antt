use Rattle.md_digraph.proofs.ArcRowLemmas.{rows_add_arc}
use Rattle.md_digraph.proofs.digraph.DigraphOf.add_arc.Goals as goal

pub invariant_of-self : goal.invariant_of-self
invariant_of-self g c =
    ((rows_add_arc c.self.invariant.0 c.self.view_is c.args.u c.args.v c.requires.tail c.requires.head c.requires.differ c.insert.ensures.changed c.index_mut.ensures.value c.insert-2.ensures.changed c.index_mut-2.ensures.value).0, c.self.invariant.1)

pub returns : goal.returns
returns g c = record {
  changed =
      (rows_add_arc c.self.invariant.0 c.self.view_is c.args.u c.args.v c.requires.tail c.requires.head c.requires.differ c.insert.ensures.changed c.index_mut.ensures.value c.insert-2.ensures.changed c.index_mut-2.ensures.value).1;
}
