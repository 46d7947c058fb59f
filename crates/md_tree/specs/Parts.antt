-- A tree laid out part by part: each node before its children, and the children from the last to the first.
-- Source: the prefix notation of trees, read from right to left.
use Rattle.std.specs.Prelude.{ℕ, List, [], ◌∷◌, ◌++◌}
use Rattle.std.specs.Borrow.{Bor}
use Rattle.md_tree.specs.declared.Kind.{Kind}
use Rattle.md_tree.specs.declared.Pair.{Pair}
use Rattle.md_tree.specs.Trees.{PlainTreeOf, leaf, node, PlainTreesOf, no_tree, one_more, count}
use Rattle.md_tree.specs.declared.TreeOf.{TreeOf}
use Rattle.md_tree.specs.Plain.{plain}
use Rattle.md_tree.specs.declared.parts.PartOf.{PartOf}
use Rattle.md_tree.specs.declared.parts.PartOf.TheVariants.{Leaf, Node}

-- a name, or a node with its kind, the number of its children, and the pairs of positions that it lists
pub data PlainPartOf (K P : Type 0) : Type 0 where
  name : ℕ → PlainPartOf K P
  inner : K → ℕ → List P → PlainPartOf K P

-- the parts of a graph's tree
abbrev pub PlainPart : Type 0
PlainPart = PlainPartOf Kind Pair

-- a part with its pairs as a list
abbrev pub plain_part : {K P : Type 0} → PartOf K P → PlainPartOf K P
plain_part (Leaf v) = name v
plain_part (Node k n ps) = inner k n ps.list.items

abbrev mutual
  -- the parts of a tree
  pub parts_of : {K P : Type 0} → PlainTreeOf K P → List (PlainPartOf K P)
  parts_of (leaf v) = name v ∷ []
  parts_of (node k cs ps) = inner k (count cs) ps ∷ parts_backward cs

  -- the parts of trees in a row, from the last tree to the first
  pub parts_backward : {K P : Type 0} → PlainTreesOf K P → List (PlainPartOf K P)
  parts_backward no_tree = []
  parts_backward (one_more t ts) = parts_backward ts ++ parts_of t

-- the part of a tree that is its root
abbrev pub part_of : {K P : Type 0} → PlainTreeOf K P → PlainPartOf K P
part_of (leaf v) = name v
part_of (node k cs ps) = inner k (count cs) ps

-- the trees of a row
abbrev pub listed : {K P : Type 0} → PlainTreesOf K P → List (PlainTreeOf K P)
listed no_tree = []
listed (one_more t ts) = t ∷ listed ts

-- the children of a node
abbrev pub below_node : {K P : Type 0} → PlainTreeOf K P → List (PlainTreeOf K P)
below_node (leaf v) = []
below_node (node k cs ps) = listed cs

-- what stands behind a reference
abbrev pub plain_at : {K P : Type 0} → Bor (TreeOf K P) → PlainTreeOf K P
plain_at r = plain r.now
