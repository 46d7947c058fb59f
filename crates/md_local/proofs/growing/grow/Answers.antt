use Rattle.std.proofs.Common.{map, refl, sym, ◌∙◌, subst}
use Rattle.md_tree.specs.Plain.{plain, row_of_children}
use Rattle.md_tree.proofs.Plain.{plain_is_leaf, plain_is_node}
use Rattle.md_local.specs.declared.growing.Growth.TheVariants.{Whole, Hanging}
use Rattle.md_local.specs.Growing.{IsGrownFrom, IsJoined}
use Rattle.md_local.proofs.Turns.{node_joined, node_fresh, node_alone, apart_steps, below_apart}
use Rattle.md_local.proofs.QuotientNames.{more_steps}
use Rattle.md_local.proofs.growing.grow.Goals as goal

pub returns-in-Leaf-clause-grown : goal.returns-in-Leaf-clause-grown
returns-in-Leaf-clause-grown g c =
    subst (λ p. IsGrownFrom c.args.graph.now c.args.u c.args.v p c.leaf_grown.result) (sym (plain_is_leaf c.args.node.now c.in-Leaf.name c.in-Leaf.is)) (c.leaf_grown.ensures c.args.graph.now)

pub returns-in_err-tree-in-Node-clause-work : goal.returns-in_err-tree-in-Node-clause-work
returns-in_err-tree-in-Node-clause-work g c =
    let is = c.requires.below in
    more_steps _ _ _ _ c.fresh.ensures.work
    (apart_steps c.args.graph.now c.args.u c.args.v (plain c.args.node.now) c.in-Node.kind (row_of_children c.in-Node.field-1) c.in-Node.edges.list.items
    (plain_is_node c.args.node.now c.in-Node.kind c.in-Node.field-1 c.in-Node.edges c.in-Node.is) is.grown is.each
    c.requires.old.0 c.requires.old.1 (sym (below_apart c.args.graph.now c.args.u c.args.v _ c.args.below is) ∙ sym c.ends_apart-apart.ensures ∙ c.if-apart.true)
    (map plain c.args.below.list.items) is.list)

pub returns-then-apart-clause-grown : goal.returns-then-apart-clause-grown
returns-then-apart-clause-grown g c =
    let is = c.requires.below in
    node_fresh c.args.graph.now c.args.u c.args.v (plain c.args.node.now) c.in-Node.kind (row_of_children c.in-Node.field-1) c.in-Node.edges.list.items
    (plain_is_node c.args.node.now c.in-Node.kind c.in-Node.field-1 c.in-Node.edges c.in-Node.is) is.grown is.each
    (record { growth = Whole c.in_ok-tree-in-Node.tree; left = c.args.below.left; right = c.args.below.right })
    c.in_ok-tree-in-Node.tree refl is.left is.right
    (sym (below_apart c.args.graph.now c.args.u c.args.v _ c.args.below is) ∙ sym c.ends_apart-apart.ensures ∙ c.if-apart.true)
    (map plain c.args.below.list.items) is.list c.in_ok-tree-in-Node.ensures.tree

pub returns-then-apart-clause-work : goal.returns-then-apart-clause-work
returns-then-apart-clause-work g c =
    let is = c.requires.below in
    more_steps _ _ _ _ c.fresh.ensures.work
    (apart_steps c.args.graph.now c.args.u c.args.v (plain c.args.node.now) c.in-Node.kind (row_of_children c.in-Node.field-1) c.in-Node.edges.list.items
    (plain_is_node c.args.node.now c.in-Node.kind c.in-Node.field-1 c.in-Node.edges c.in-Node.is) is.grown is.each
    c.requires.old.0 c.requires.old.1 (sym (below_apart c.args.graph.now c.args.u c.args.v _ c.args.below is) ∙ sym c.ends_apart-apart.ensures ∙ c.if-apart.true)
    (map plain c.args.below.list.items) is.list)

pub returns-then-is_one_alone-clause-grown : goal.returns-then-is_one_alone-clause-grown
returns-then-is_one_alone-clause-grown g c =
    let is = c.requires.below in
    node_alone c.args.graph.now c.args.u c.args.v (plain c.args.node.now) c.in-Node.kind (row_of_children c.in-Node.field-1) c.in-Node.edges.list.items
    (plain_is_node c.args.node.now c.in-Node.kind c.in-Node.field-1 c.in-Node.edges c.in-Node.is) is.grown is.each
    (record { growth = Hanging c.args.below.list; left = c.args.below.left; right = c.args.below.right })
    c.args.below.list refl is.left is.right (sym c.is_one_alone.ensures ∙ c.if-is_one_alone.true) is.list

pub returns-in_ok-tree-in-Node-2-clause-grown : goal.returns-in_ok-tree-in-Node-2-clause-grown
returns-in_ok-tree-in-Node-2-clause-grown g c =
    let is = c.requires.below in
    node_joined c.args.graph.now c.args.u c.args.v (plain c.args.node.now) c.in-Node.kind (row_of_children c.in-Node.field-1) c.in-Node.edges.list.items
    (plain_is_node c.args.node.now c.in-Node.kind c.in-Node.field-1 c.in-Node.edges c.in-Node.is) is.grown is.each
    (record { growth = Whole c.in_ok-tree-in-Node-2.tree; left = c.args.below.left; right = c.args.below.right })
    c.in_ok-tree-in-Node-2.tree refl is.left is.right
    (sym (below_apart c.args.graph.now c.args.u c.args.v _ c.args.below is) ∙ sym c.ends_apart-apart.ensures ∙ c.if-apart.false)
    (sym c.is_one_alone.ensures ∙ c.if-is_one_alone.false)
    (map plain c.args.below.list.items) is.list
    (subst (λ l. IsJoined c.in-Node.kind l (map plain c.args.below.list.items) (plain c.in_ok-tree-in-Node-2.tree)) c.in_ok-edges-in-Node.ensures c.in_ok-tree-in-Node-2.ensures)
