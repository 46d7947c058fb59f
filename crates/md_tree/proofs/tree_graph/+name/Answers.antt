use Rattle.std.proofs.Common.{rules, ℕ, Bool, ◌||◌, sym, ◌∙◌, ap, subst}
use Rattle.md_graph.specs.PlainGraph.{adjacent}
use Rattle.md_graph.specs.Sets.{Has, Lacks, Within, only_name}
use Rattle.md_graph.proofs.SetLemmas.{clash, only_has}
use Rattle.md_tree.specs.Trees.{PlainTrees, names, names_below}
use Rattle.md_tree.specs.Plain.{plain}
use Rattle.md_tree.specs.TreeEdges.{crosses}
use Rattle.md_tree.specs.declared.TreeOf.{the_lemmas}
use Rattle.md_tree.proofs.Plain.{names_leaf, names_node}
use Rattle.md_tree.proofs.Edges.{crosses_right, crosses_none, joined_two}
use Rattle.md_tree.proofs.Loops.{loop_child, loop_others, loop_step, loop_end, lacks_first, lacks_rest}
use Rattle.md_tree.proofs.tree_graph.+name.Goals as goal

abbrev F : ℕ → PlainTrees → ℕ → ℕ → Bool
F name ts = crosses (only_name name) (names_below ts)

abbrev P : ℕ → PlainTrees → Type 0
P name ts = Lacks (names_below ts) name

pub join_name-join_two-requires-clause-other_vertex : goal.join_name-join_two-requires-clause-other_vertex
join_name-join_two-requires-clause-other_vertex t c =
    c.requires.inside c.in-Leaf.other (subst (λ s. Has s c.in-Leaf.other) (sym (names_leaf c.args.tree.now c.in-Leaf.other c.in-Leaf.is)) (only_has c.in-Leaf.other))

pub join_name-join_two-requires-clause-differ : goal.join_name-join_two-requires-clause-differ
join_name-join_two-requires-clause-differ t c same =
    clash (subst (λ v. Has (only_name v) c.args.name) same (only_has c.args.name)) (subst (λ s. Lacks s c.args.name) (names_leaf c.args.tree.now c.in-Leaf.other c.in-Leaf.is) c.requires.apart)

pub join_name-join_name_below-requires : goal.join_name-join_name_below-requires
join_name-join_name_below-requires t c = (
  search (rules, the_lemmas),
  (
    c.requires.vertex,
    (
      subst (λ s. Within s c.args.graph.now.vertices) (names_node c.args.tree.now c.in-Node.field-0 c.in-Node.children c.in-Node.field-2 c.in-Node.is) c.requires.inside,
      subst (λ s. Lacks s c.args.name) (names_node c.args.tree.now c.in-Node.field-0 c.in-Node.children c.in-Node.field-2 c.in-Node.is) c.requires.apart,
    ),
  ),
)

pub join_name-returns-in-Leaf-clause-edges : goal.join_name-returns-in-Leaf-clause-edges
join_name-returns-in-Leaf-clause-edges t c x y =
    joined_two c.args.graph.now c.join_two.new.graph c.args.name c.in-Leaf.other c.join_two.ensures x y
    ∙ sym (ap (λ s. adjacent c.args.graph.now x y || crosses (only_name c.args.name) s x y) (names_leaf c.args.tree.now c.in-Leaf.other c.in-Leaf.is))

pub join_name-returns-in-Node-clause-edges : goal.join_name-returns-in-Node-clause-edges
join_name-returns-in-Node-clause-edges t c x y =
    c.join_name_below.ensures.edges x y
    ∙ sym (ap (λ s. adjacent c.args.graph.now x y || crosses (only_name c.args.name) s x y) (names_node c.args.tree.now c.in-Node.field-0 c.in-Node.children c.in-Node.field-2 c.in-Node.is))

pub join_name_below-join_name-requires : goal.join_name_below-join_name-requires
join_name_below-join_name-requires t c = (
  search (rules, the_lemmas),
  (
    c.loop-child.invariant.1,
    (
      loop_child (F c.args.name) (P c.args.name) c.args.graph.now c.loop-child.graph c.args.children.now.list.items c.loop-child.child-index c.loop-child.invariant.0
          c.deref-child-items.result.now c.deref-child-items.ensures.value c.child-item.result c.child-item.is c.loop-child-test.true,
      lacks_first c.args.name (plain c.child-item.result) _ (loop_others (F c.args.name) (P c.args.name) c.args.graph.now c.loop-child.graph c.args.children.now.list.items c.loop-child.child-index c.loop-child.invariant.0
          c.deref-child-items.result.now c.deref-child-items.ensures.value c.child-item.result c.child-item.is c.loop-child-test.true),
    ),
  ),
)

pub join_name_below-loop-child-preserved : goal.join_name_below-loop-child-preserved
join_name_below-loop-child-preserved t c = (
  loop_step (F c.args.name) (P c.args.name) c.args.graph.now c.loop-child.graph c.args.children.now.list.items c.loop-child.child-index c.loop-child.invariant.0
      c.deref-child-items.result.now c.deref-child-items.ensures.value c.child-item.result c.child-item.is c.loop-child-test.true
      (λ t ts. crosses (only_name c.args.name) (names t)) (λ t ts l. lacks_rest c.args.name t ts l) (λ t ts x y. crosses_right (only_name c.args.name) t ts x y)
      c.join_name.new.graph c.join_name.ensures.vertices c.join_name.ensures.edges,
  subst (λ s. Has s c.args.name) (sym c.join_name.ensures.vertices) c.loop-child.invariant.1,
)

pub join_name_below-returns-clause-edges : goal.join_name_below-returns-clause-edges
join_name_below-returns-clause-edges t c =
    loop_end (F c.args.name) (P c.args.name) c.args.graph.now c.loop-child.graph c.args.children.now.list.items c.loop-child.child-index c.loop-child.invariant.0
    (crosses_none (only_name c.args.name)) c.deref-child-items.result.now c.deref-child-items.ensures.value c.loop-child-test.false
