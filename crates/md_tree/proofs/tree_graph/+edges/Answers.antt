use Rattle.std.proofs.Math.Bool.{or-false}
use Rattle.std.proofs.Common.{rules, ◌||◌, refl, sym, ◌∙◌, ap, subst}
use Rattle.md_graph.specs.PlainGraph.{adjacent}
use Rattle.md_graph.specs.Sets.{Has, Within}
use Rattle.md_tree.specs.Trees.{EachNode, EachNodeBelow}
use Rattle.md_tree.specs.WellFormed.{IsCanonicalNode}
use Rattle.md_tree.specs.TreeEdges.{has_edge_in, has_edge_below}
use Rattle.md_tree.specs.declared.TreeOf.{the_lemmas}
use Rattle.md_tree.proofs.Plain.{plain_is_leaf, plain_is_node, names_node}
use Rattle.md_tree.proofs.Loops.{loop_child, loop_others, loop_step, loop_end, or_chain}
use Rattle.md_tree.proofs.tree_graph.+edges.Goals as goal

pub add_tree_edges-add_edges_below-requires : goal.add_tree_edges-add_edges_below-requires
add_tree_edges-add_edges_below-requires t c = (
  search (rules, the_lemmas),
  (
    subst (λ s. Within s c.args.graph.now.vertices) (names_node c.args.tree.now c.in-Node.kind c.in-Node.children c.in-Node.edges c.in-Node.is) c.requires.inside,
    (subst (EachNode IsCanonicalNode) (plain_is_node c.args.tree.now c.in-Node.kind c.in-Node.children c.in-Node.edges c.in-Node.is) c.requires.canonical).1,
  ),
)

pub add_tree_edges-add_edges_across-requires-clause-inside : goal.add_tree_edges-add_edges_across-requires-clause-inside
add_tree_edges-add_edges_across-requires-clause-inside t c x h =
    subst (λ s. Has s x) (sym c.add_edges_below.ensures.vertices)
    (subst (λ s. Within s c.args.graph.now.vertices) (names_node c.args.tree.now c.in-Node.kind c.in-Node.children c.in-Node.edges c.in-Node.is) c.requires.inside x h)

pub add_tree_edges-add_edges_across-requires-clause-canonical : goal.add_tree_edges-add_edges_across-requires-clause-canonical
add_tree_edges-add_edges_across-requires-clause-canonical t c =
    (subst (EachNode IsCanonicalNode) (plain_is_node c.args.tree.now c.in-Node.kind c.in-Node.children c.in-Node.edges c.in-Node.is) c.requires.canonical).0

pub add_tree_edges-returns-in-Node-clause-edges : goal.add_tree_edges-returns-in-Node-clause-edges
add_tree_edges-returns-in-Node-clause-edges t c x y =
    or_chain _ _ _ _ _ (c.add_edges_below.ensures.edges x y) (c.add_edges_across.ensures.edges x y)
    ∙ sym (ap (λ w. adjacent c.args.graph.now x y || has_edge_in w x y) (plain_is_node c.args.tree.now c.in-Node.kind c.in-Node.children c.in-Node.edges c.in-Node.is))

pub add_edges_below-add_tree_edges-requires : goal.add_edges_below-add_tree_edges-requires
add_edges_below-add_tree_edges-requires t c = (
  search (rules, the_lemmas),
  (
    loop_child has_edge_below (EachNodeBelow IsCanonicalNode) c.args.graph.now c.loop-child.graph c.args.children.now.list.items c.loop-child.child-index c.loop-child.invariant
        c.deref-child-items.result.now c.deref-child-items.ensures.value c.child-item.result c.child-item.is c.loop-child-test.true,
    (loop_others has_edge_below (EachNodeBelow IsCanonicalNode) c.args.graph.now c.loop-child.graph c.args.children.now.list.items c.loop-child.child-index c.loop-child.invariant
        c.deref-child-items.result.now c.deref-child-items.ensures.value c.child-item.result c.child-item.is c.loop-child-test.true).0,
  ),
)

pub add_edges_below-loop-child-preserved : goal.add_edges_below-loop-child-preserved
add_edges_below-loop-child-preserved t c =
    loop_step has_edge_below (EachNodeBelow IsCanonicalNode) c.args.graph.now c.loop-child.graph c.args.children.now.list.items c.loop-child.child-index c.loop-child.invariant
    c.deref-child-items.result.now c.deref-child-items.ensures.value c.child-item.result c.child-item.is c.loop-child-test.true
    (λ t ts. has_edge_in t) (λ t ts l. l.1) (λ t ts x y. refl)
    c.add_tree_edges.new.graph c.add_tree_edges.ensures.vertices c.add_tree_edges.ensures.edges

pub add_edges_below-returns-clause-edges : goal.add_edges_below-returns-clause-edges
add_edges_below-returns-clause-edges t c =
    loop_end has_edge_below (EachNodeBelow IsCanonicalNode) c.args.graph.now c.loop-child.graph c.args.children.now.list.items c.loop-child.child-index c.loop-child.invariant
    (λ x y. refl) c.deref-child-items.result.now c.deref-child-items.ensures.value c.loop-child-test.false

pub add_tree_edges-returns-in-Leaf-clause-edges : goal.add_tree_edges-returns-in-Leaf-clause-edges
add_tree_edges-returns-in-Leaf-clause-edges t c x y =
    sym (or-false (adjacent c.args.graph.now x y))
    ∙ sym (ap (λ w. adjacent c.args.graph.now x y || has_edge_in w x y) (plain_is_leaf c.args.tree.now c.in-Leaf.field-0 c.in-Leaf.is))
