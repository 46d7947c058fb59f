use Rattle.std.proofs.Common.{rules, sym, ◌∙◌, ap, subst}
use Rattle.std.specs.FinSet.{union}
use Rattle.md_graph.specs.declared.TheConstants.{NAMES}
use Rattle.md_graph.specs.NameSet.{AllBelow}
use Rattle.md_graph.specs.Sets.{Has, Disjoint}
use Rattle.md_graph.proofs.SetLemmas.{only_has}
use Rattle.md_tree.specs.Trees.{EachNode}
use Rattle.md_tree.specs.WellFormed.{IsCanonicalNode}
use Rattle.md_tree.specs.declared.TreeOf.{the_lemmas}
use Rattle.md_tree.proofs.Plain.{plain_is_node, names_leaf, names_node}
use Rattle.md_tree.proofs.Loops.{names_child_below, names_child_absent, names_child_canonical, names_step, names_end, insert_is_union}
use Rattle.md_tree.proofs.tree_graph.+vertices.Goals as goal

pub add_names-add_vertex-requires : goal.add_names-add_vertex-requires
add_names-add_vertex-requires t c = (
  search rules,
  (
    c.requires.names c.in-Leaf.name (subst (λ s. Has s c.in-Leaf.name) (sym (names_leaf c.args.tree.now c.in-Leaf.name c.in-Leaf.is)) (only_has c.in-Leaf.name)),
    c.requires.absent c.in-Leaf.name (subst (λ s. Has s c.in-Leaf.name) (sym (names_leaf c.args.tree.now c.in-Leaf.name c.in-Leaf.is)) (only_has c.in-Leaf.name)),
  ),
)

pub add_names-add_names_below-requires : goal.add_names-add_names_below-requires
add_names-add_names_below-requires t c =
    let canonical = subst (EachNode IsCanonicalNode) (plain_is_node c.args.tree.now c.in-Node.field-0 c.in-Node.children c.in-Node.field-2 c.in-Node.is) c.requires.canonical in (
      search (rules, the_lemmas),
      (
        subst (λ s. AllBelow s NAMES) (names_node c.args.tree.now c.in-Node.field-0 c.in-Node.children c.in-Node.field-2 c.in-Node.is) c.requires.names,
        (
          subst (λ s. Disjoint s c.args.graph.now.vertices) (names_node c.args.tree.now c.in-Node.field-0 c.in-Node.children c.in-Node.field-2 c.in-Node.is) c.requires.absent,
          (canonical.0.apart, canonical.1),
        ),
      ),
    )

pub add_names-returns-in-Leaf-clause-vertices : goal.add_names-returns-in-Leaf-clause-vertices
add_names-returns-in-Leaf-clause-vertices t c =
    ap (λ g. g.vertices) c.add_vertex.ensures.changed ∙ insert_is_union c.args.graph.now.vertices c.in-Leaf.name
    ∙ sym (ap (union c.args.graph.now.vertices) (names_leaf c.args.tree.now c.in-Leaf.name c.in-Leaf.is))

pub add_names-returns-in-Node-clause-vertices : goal.add_names-returns-in-Node-clause-vertices
add_names-returns-in-Node-clause-vertices t c =
    c.add_names_below.ensures.vertices
    ∙ sym (ap (union c.args.graph.now.vertices) (names_node c.args.tree.now c.in-Node.field-0 c.in-Node.children c.in-Node.field-2 c.in-Node.is))

pub add_names_below-add_names-requires : goal.add_names_below-add_names-requires
add_names_below-add_names-requires t c = (
  search (rules, the_lemmas),
  (
    names_child_below c.args.graph.now c.loop-child.graph c.args.children.now.list.items c.loop-child.child-index c.loop-child.invariant
        c.deref-child-items.result.now c.deref-child-items.ensures.value c.child-item.result c.child-item.is c.loop-child-test.true,
    (
      names_child_absent c.args.graph.now c.loop-child.graph c.args.children.now.list.items c.loop-child.child-index c.loop-child.invariant
          c.deref-child-items.result.now c.deref-child-items.ensures.value c.child-item.result c.child-item.is c.loop-child-test.true,
      names_child_canonical c.args.graph.now c.loop-child.graph c.args.children.now.list.items c.loop-child.child-index c.loop-child.invariant
          c.deref-child-items.result.now c.deref-child-items.ensures.value c.child-item.result c.child-item.is c.loop-child-test.true,
    ),
  ),
)

pub add_names_below-loop-child-preserved : goal.add_names_below-loop-child-preserved
add_names_below-loop-child-preserved t c =
    names_step c.args.graph.now c.loop-child.graph c.args.children.now.list.items c.loop-child.child-index c.loop-child.invariant
    c.deref-child-items.result.now c.deref-child-items.ensures.value c.child-item.result c.child-item.is c.loop-child-test.true
    c.add_names.new.graph c.add_names.ensures.vertices c.add_names.ensures.edges

pub add_names_below-returns-clause-vertices : goal.add_names_below-returns-clause-vertices
add_names_below-returns-clause-vertices t c =
    names_end c.args.graph.now c.loop-child.graph c.args.children.now.list.items c.loop-child.child-index c.loop-child.invariant
    c.deref-child-items.result.now c.deref-child-items.ensures.value c.loop-child-test.false
