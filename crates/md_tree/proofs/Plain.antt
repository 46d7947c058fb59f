-- The plain tree of a node is the node of its children's plain trees.
use Rattle.std.proofs.Common.{◌≡◌, ℕ, map, refl, ◌∙◌, ap}
use mathlib.Core.Former.{Count}
use Rattle.md_tree.specs.declared.PairsOf.{PairsOf}
use Rattle.md_tree.specs.declared.ChildrenOf.{ChildrenOf, out-ChildrenOf}
use Rattle.md_tree.specs.declared.TreeOf.{TreeOf, Leaf, Node, Node', Row_of-TreeOf, end_of-TreeOf, more_of-TreeOf, items-the_row-TreeOf, items_hidden-the_row-TreeOf-0}
use Rattle.md_tree.specs.Trees.{leaf, node, one_more, names, names_below, row}
use Rattle.md_graph.specs.Sets.{only_name}
use Rattle.md_tree.specs.Plain.{plain, plain_row}

module _ {K P : Type 0} where
  row_items : (n : _) (ts : Row_of-TreeOf K P n) → plain_row ts ≡ row (map plain (items-the_row-TreeOf _ _ n ts))
  unfolding plain
  row_items n end_of-TreeOf = refl
  row_items n (more_of-TreeOf t rest) = ap (one_more (plain t)) (row_items _ rest)

  abbrev children_row : TreeOf K P → (n : Count) × Row_of-TreeOf K P n
  children_row (Leaf v) = (_, end_of-TreeOf)
  children_row (Node' k shape ts ps) = (_, ts)

  pub plain-node : (k : K) (cs : ChildrenOf K P) (ps : PairsOf P) → plain (Node k cs ps) ≡ node k (row (map plain (out-ChildrenOf _ _ cs).list.items)) ps.list.items
  unfolding plain
  plain-node k cs ps =
      let r = children_row (Node k cs ps) in
      let same = items_hidden-the_row-TreeOf-0 _ _ cs.list in
      ap (λ w. node k w ps.list.items) (row_items r.0 r.1 ∙ ap (λ l. row (map plain l)) same)

  -- the same for a tree that is told to be a leaf or a node
  pub plain_is_leaf : (t : TreeOf K P) (v : ℕ) → t ≡ Leaf v → plain t ≡ leaf v
  unfolding plain
  plain_is_leaf t v e = ap plain e

  pub plain_is_node : (t : TreeOf K P) (k : K) (cs : ChildrenOf K P) (ps : PairsOf P) → t ≡ Node k cs ps →
      plain t ≡ node k (row (map plain (out-ChildrenOf _ _ cs).list.items)) ps.list.items
  plain_is_node t k cs ps e = ap plain e ∙ plain-node k cs ps

  -- their names
  pub names_leaf : (t : TreeOf K P) (v : ℕ) → t ≡ Leaf v → names (plain t) ≡ only_name v
  names_leaf t v e = ap names (plain_is_leaf t v e)

  pub names_node : (t : TreeOf K P) (k : K) (cs : ChildrenOf K P) (ps : PairsOf P) → t ≡ Node k cs ps → names (plain t) ≡ names_below (row (map plain (out-ChildrenOf _ _ cs).list.items))
  names_node t k cs ps e = ap names (plain_is_node t k cs ps e)
