-- The least names of a tree: its first child has the least one.
use Rattle.std.proofs.Common.{◌≡◌, ℕ, suc, ◌<◌, ◌≤◌, List, inl, inr, arith}
use Rattle.md_graph.specs.Sets.{NameSet, Has, only_name}
use Rattle.md_graph.proofs.SetLemmas.{clash, of_only, only_has, empty_lacks, union_left, of_union}
use Rattle.md_tree.specs.declared.Kind.{Kind}
use Rattle.md_tree.specs.declared.Kind.TheVariants.{Parallel, Series, Prime}
use Rattle.md_tree.specs.declared.Pair.{Pair}
use Rattle.md_tree.specs.Trees.{PlainTree, leaf, node, PlainTrees, no_tree, one_more, names, names_below, names_at, count}
use Rattle.md_tree.specs.StrongTrees.{IsBefore, IsInOrder}
use Rattle.md_tree.specs.WellFormed.{IsCanonicalNode, IsCanonicalTree}
use Rattle.md_bar_tree.specs.Inner.{IsInnerTree}
use Rattle.md_tree.specs.Held.{IsLeast}
use Rattle.md_bar_tree.specs.Finding.{AreLeastTwo}

-- a node has two children or more
pub two_at_least : (k : Kind) (cs : PlainTrees) (ps : List Pair) → IsCanonicalNode k cs ps → 2 ≤ count cs
two_at_least Parallel cs ps is = is.shape.enough
two_at_least Series cs ps is = is.shape.enough
two_at_least Prime cs ps is = let a : 4 ≤ count cs = is.shape.enough in omega arith

-- a least name of a set that stands before another one is below all of that
pub least_before : (s t : NameSet) (p y : ℕ) → IsBefore s t → IsLeast s p → Has t y → p < y
least_before s t p y before least h =
    let a : p ≤ before.0 = least.first before.0 before.1 in
    let b : before.0 < y = before.2 y h in
    omega arith

pub least_of_leaf : (v : ℕ) → IsLeast (only_name v) v
least_of_leaf v = record { member = only_has v; first = λ y h. let a : y ≡ v = of_only v y h in omega arith }

pub least_of_row : (t : PlainTree) (ts : PlainTrees) (p : ℕ) → IsInOrder (one_more t ts) → IsLeast (names t) p → IsLeast (names_below (one_more t ts)) p
least_of_row t ts p order least = record {
  member = union_left (names t) (names_below ts) p least.member;
  first = λ y h. elim (of_union (names t) (names_below ts) y h) [
    | inl i ↦ least.first y i
    | inr i ↦ (let a : p < y = least_before (names t) (names_below ts) p y order.0 least i in omega arith)
  ];
}

pub least_of_node : (k : Kind) (cs : PlainTrees) (ps : List Pair) (p : ℕ) → IsCanonicalNode k cs ps → IsLeast (names_at cs 0) p → IsLeast (names_below cs) p
least_of_node k no_tree ps p is least = clash least.member (empty_lacks p)
least_of_node k (one_more t ts) ps p is least = least_of_row t ts p is.order least

pub some_least : (t : PlainTree) → IsCanonicalTree t → (p : ℕ) × IsLeast (names t) p
some_least (leaf v) canonical = (v, least_of_leaf v)
some_least (node k no_tree ps) canonical = let a : 2 ≤ 0 = two_at_least k no_tree ps canonical.0 in absurd (omega arith)
some_least (node k (one_more t ts) ps) canonical =
    let p : (p : ℕ) × IsLeast (names t) p = some_least t canonical.1.0 in
    (p.0, least_of_row t ts p.0 canonical.0.order p.1)

pub some_least_two : (t : PlainTree) → IsCanonicalTree t → IsInnerTree t → (p : ℕ) × (q : ℕ) × AreLeastTwo t p q
some_least_two (leaf v) canonical inner = absurd inner
some_least_two (node k no_tree ps) canonical inner = let a : 2 ≤ 0 = two_at_least k no_tree ps canonical.0 in absurd (omega arith)
some_least_two (node k (one_more t no_tree) ps) canonical inner = let a : 2 ≤ suc 0 = two_at_least k (one_more t no_tree) ps canonical.0 in absurd (omega arith)
some_least_two (node k (one_more t (one_more u us)) ps) canonical inner =
    let p : (p : ℕ) × IsLeast (names t) p = some_least t canonical.1.0 in
    let q : (q : ℕ) × IsLeast (names u) q = some_least u canonical.1.1.0 in
    (p.0, q.0, (p.1, q.1))
