-- The heads of the children of a node: each is the least name of its child.
use Rattle.std.proofs.Common.{◌≡◌, ℕ, ◌<◌, ◌≤◌, List, inl, inr, arith}
use Rattle.md_graph.specs.Sets.{Has}
use Rattle.md_graph.proofs.SetLemmas.{clash, of_only, empty_lacks, of_union}
use Rattle.md_tree.specs.declared.Kind.{Kind}
use Rattle.md_tree.specs.declared.Kind.TheVariants.{Parallel, Series, Prime}
use Rattle.md_tree.specs.declared.Pair.{Pair}
use Rattle.md_tree.specs.Heads.{head, head_at}
use Rattle.md_tree.specs.StrongTrees.{IsInOrder}
use Rattle.md_tree.specs.Trees.{PlainTree, leaf, node, PlainTrees, no_tree, one_more, names, names_below, count, EachNode, EachNodeBelow}
use Rattle.md_tree.specs.WellFormed.{HasShape, IsCanonicalNode}
use Rattle.md_tree.proofs.Heads.{head_in}

-- each node has two children
pub two_of_shape : (k : Kind) (cs : PlainTrees) (ps : List Pair) → HasShape k cs ps → 2 ≤ count cs
two_of_shape Parallel cs ps shape = shape.enough
two_of_shape Series cs ps shape = shape.enough
two_of_shape Prime cs ps shape = let b : 4 ≤ count cs = shape.enough in omega arith

pub some_child : (k : Kind) (cs : PlainTrees) (ps : List Pair) → IsCanonicalNode k cs ps → 1 ≤ count cs
some_child k cs ps canon = let two : 2 ≤ count cs = two_of_shape k cs ps canon.shape in omega arith

-- the head of a tree is one of its names
pub tree_head : (t : PlainTree) → EachNode IsCanonicalNode t → Has (names t) (head t)
tree_head = head_in IsCanonicalNode some_child

mutual
  -- and the least of them
  pub head_least : (t : PlainTree) → EachNode IsCanonicalNode t → (x : ℕ) → Has (names t) x → head t ≤ x
  head_least (leaf v) each x h = let same : x ≡ v = of_only v x h in omega arith
  head_least (node k cs ps) each x h = first_least cs each.0.order each.1 x h

  first_least : (cs : PlainTrees) → IsInOrder cs → EachNodeBelow IsCanonicalNode cs → (x : ℕ) → Has (names_below cs) x → head_at cs 0 ≤ x
  first_least no_tree order each x h = clash h (empty_lacks x)
  first_least (one_more t ts) order each x h = elim (of_union (names t) (names_below ts) x h) [
    | inl here ↦ head_least t each.0 x here
    | inr later ↦
        let low : head t ≤ order.0.0 = head_least t each.0 order.0.0 order.0.1 in
        let less : order.0.0 < x = order.0.2 x later in
        omega arith
  ]
