use Rattle.std.proofs.Common.{rules, ℕ, Bool, ◌||◌, sym, ◌∙◌, ap, subst}
use Rattle.md_graph.specs.PlainGraph.{adjacent}
use Rattle.md_graph.specs.Sets.{NameSet, Has, Within, Disjoint}
use Rattle.md_graph.proofs.SetLemmas.{only_has, union_left, union_right}
use Rattle.md_tree.specs.Trees.{PlainTrees, names, names_below}
use Rattle.md_tree.specs.Plain.{plain}
use Rattle.md_tree.specs.TreeEdges.{crosses}
use Rattle.md_tree.specs.declared.TreeOf.{the_lemmas}
use Rattle.md_tree.proofs.Plain.{names_leaf, names_node}
use Rattle.md_tree.proofs.Edges.{crosses_left, none_crosses}
use Rattle.md_tree.proofs.Loops.{loop_child, loop_others, loop_step, loop_end}
use Rattle.md_tree.proofs.tree_graph.+trees.Goals as goal

abbrev F : NameSet → PlainTrees → ℕ → ℕ → Bool
F b ts = crosses (names_below ts) b

abbrev P : NameSet → PlainTrees → Type 0
P b ts = Disjoint (names_below ts) b

pub join_trees-join_name-requires-clause-vertex : goal.join_trees-join_name-requires-clause-vertex
join_trees-join_name-requires-clause-vertex t c =
    c.requires.inside_left c.in-Leaf.name (subst (λ s. Has s c.in-Leaf.name) (sym (names_leaf c.args.left.now c.in-Leaf.name c.in-Leaf.is)) (only_has c.in-Leaf.name))

pub join_trees-join_name-requires-clause-apart : goal.join_trees-join_name-requires-clause-apart
join_trees-join_name-requires-clause-apart t c =
    c.requires.apart c.in-Leaf.name (subst (λ s. Has s c.in-Leaf.name) (sym (names_leaf c.args.left.now c.in-Leaf.name c.in-Leaf.is)) (only_has c.in-Leaf.name))

pub join_trees-join_below-requires : goal.join_trees-join_below-requires
join_trees-join_below-requires t c = (
  search (rules, the_lemmas),
  (
    subst (λ s. Within s c.args.graph.now.vertices) (names_node c.args.left.now c.in-Node.field-0 c.in-Node.children c.in-Node.field-2 c.in-Node.is) c.requires.inside_left,
    (
      c.requires.inside_right,
      subst (λ s. Disjoint s (names (plain c.args.right.now))) (names_node c.args.left.now c.in-Node.field-0 c.in-Node.children c.in-Node.field-2 c.in-Node.is) c.requires.apart,
    ),
  ),
)

pub join_trees-returns-in-Leaf-clause-edges : goal.join_trees-returns-in-Leaf-clause-edges
join_trees-returns-in-Leaf-clause-edges t c x y =
    c.join_name.ensures.edges x y
    ∙ sym (ap (λ s. adjacent c.args.graph.now x y || crosses s (names (plain c.args.right.now)) x y) (names_leaf c.args.left.now c.in-Leaf.name c.in-Leaf.is))

pub join_trees-returns-in-Node-clause-edges : goal.join_trees-returns-in-Node-clause-edges
join_trees-returns-in-Node-clause-edges t c x y =
    c.join_below.ensures.edges x y
    ∙ sym (ap (λ s. adjacent c.args.graph.now x y || crosses s (names (plain c.args.right.now)) x y) (names_node c.args.left.now c.in-Node.field-0 c.in-Node.children c.in-Node.field-2 c.in-Node.is))

pub join_below-join_trees-requires : goal.join_below-join_trees-requires
join_below-join_trees-requires t c = (
  search (rules, the_lemmas),
  (
    loop_child (F (names (plain c.args.right.now))) (P (names (plain c.args.right.now))) c.args.graph.now c.loop-child.graph c.args.children.now.list.items c.loop-child.child-index c.loop-child.invariant.0
        c.deref-child-items.result.now c.deref-child-items.ensures.value c.child-item.result c.child-item.is c.loop-child-test.true,
    (
      c.loop-child.invariant.1,
      λ x h. loop_others (F (names (plain c.args.right.now))) (P (names (plain c.args.right.now))) c.args.graph.now c.loop-child.graph c.args.children.now.list.items c.loop-child.child-index c.loop-child.invariant.0
          c.deref-child-items.result.now c.deref-child-items.ensures.value c.child-item.result c.child-item.is c.loop-child-test.true x
          (union_left (names (plain c.child-item.result)) _ x h),
    ),
  ),
)

pub join_below-loop-child-preserved : goal.join_below-loop-child-preserved
join_below-loop-child-preserved t c = (
  loop_step (F (names (plain c.args.right.now))) (P (names (plain c.args.right.now))) c.args.graph.now c.loop-child.graph c.args.children.now.list.items c.loop-child.child-index c.loop-child.invariant.0
      c.deref-child-items.result.now c.deref-child-items.ensures.value c.child-item.result c.child-item.is c.loop-child-test.true
      (λ t ts. crosses (names t) (names (plain c.args.right.now))) (λ t ts l x h. l x (union_right (names t) (names_below ts) x h)) (λ t ts x y. crosses_left (names (plain c.args.right.now)) t ts x y)
      c.join_trees.new.graph c.join_trees.ensures.vertices c.join_trees.ensures.edges,
  subst (Within (names (plain c.args.right.now))) (sym c.join_trees.ensures.vertices) c.loop-child.invariant.1,
)

pub join_below-returns-clause-edges : goal.join_below-returns-clause-edges
join_below-returns-clause-edges t c =
    loop_end (F (names (plain c.args.right.now))) (P (names (plain c.args.right.now))) c.args.graph.now c.loop-child.graph c.args.children.now.list.items c.loop-child.child-index c.loop-child.invariant.0
    (none_crosses (names (plain c.args.right.now))) c.deref-child-items.result.now c.deref-child-items.ensures.value c.loop-child-test.false
