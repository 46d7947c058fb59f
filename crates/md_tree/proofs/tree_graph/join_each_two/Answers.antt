use Rattle.std.proofs.Common.{refl}
use Rattle.md_tree.specs.Trees.{names, names_below}
use Rattle.md_tree.specs.WellFormed.{AreDisjoint}
use Rattle.md_tree.specs.TreeEdges.{crosses, in_two}
use Rattle.md_tree.proofs.Loops.{loop_child, loop_others, loop_later, loop_step}
use Rattle.md_tree.proofs.tree_graph.join_each_two.Goals as goal

pub join_later-requires-clause-inside : goal.join_later-requires-clause-inside
join_later-requires-clause-inside c =
    loop_child in_two AreDisjoint c.args.graph.now c.loop-i.graph c.args.children.now.list.items c.loop-i.i c.loop-i.invariant
    c.deref-child-items.result.now c.deref-child-items.ensures.value c.child-item.result c.child-item.is c.loop-i-test.true

pub join_later-requires-clause-inside_later : goal.join_later-requires-clause-inside_later
join_later-requires-clause-inside_later c =
    loop_later in_two AreDisjoint c.args.graph.now c.loop-i.graph c.args.children.now.list.items c.loop-i.i c.loop-i.invariant
    c.deref-child-items.result.now c.deref-child-items.ensures.value c.child-item.result c.child-item.is c.loop-i-test.true

pub join_later-requires-clause-apart : goal.join_later-requires-clause-apart
join_later-requires-clause-apart c =
    (loop_others in_two AreDisjoint c.args.graph.now c.loop-i.graph c.args.children.now.list.items c.loop-i.i c.loop-i.invariant
    c.deref-child-items.result.now c.deref-child-items.ensures.value c.child-item.result c.child-item.is c.loop-i-test.true).0

pub loop-i-preserved : goal.loop-i-preserved
loop-i-preserved c =
    loop_step in_two AreDisjoint c.args.graph.now c.loop-i.graph c.args.children.now.list.items c.loop-i.i c.loop-i.invariant
    c.deref-child-items.result.now c.deref-child-items.ensures.value c.child-item.result c.child-item.is c.loop-i-test.true
    (λ t ts. crosses (names t) (names_below ts)) (λ t ts l. l.1) (λ t ts x y. refl)
    c.join_later.new.graph c.join_later.ensures.vertices c.join_later.ensures.edges
