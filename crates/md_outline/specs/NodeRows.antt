-- What the rows of a graph tell of the nodes of its tree.
-- Source: Habib and Paul, A survey of the algorithmic aspects of modular decomposition; the order of the pairs is our own.
use Rattle.std.specs.Prelude.{◌≡◌, ◌<◌, ℕ, Bool, cond, ◌&&◌, nat_lt, List, [], ◌∷◌, length, get_or}
use Rattle.md_graph.specs.Sets.{NameSet, Has}
use Rattle.md_tree.specs.declared.Kind.{Kind}
use Rattle.md_tree.specs.declared.Pair.{Pair}
use Rattle.md_tree.specs.Heads.{head}
use Rattle.md_tree.specs.Held.{Ascends}
use Rattle.md_tree.specs.Spellings.{is_prime, graph_pairs}
use Rattle.md_tree.specs.Trees.{PlainTreesOf, PlainTrees, no_tree, one_more}
use Rattle.md_outline.specs.HeadPairs.{head_pairs}

-- v is adjacent to w and below it
abbrev pub is_edge_up : (ℕ → ℕ → Bool) → ℕ → ℕ → Bool
is_edge_up e v w = e v w && nat_lt v w

-- the heads of trees in a row, in their order
abbrev pub head_list : {K P : Type 0} → PlainTreesOf K P → List ℕ
head_list no_tree = []
head_list (one_more t ts) = head t ∷ head_list ts

-- names of s in ascending order, at least one
pub record AreHeadsOf (s : NameSet) (list : List ℕ) : Type 0 where
  pub some : 0 < length list
  pub members : (i : ℕ) → i < length list → Has s (get_or list i 0)
  pub order : Ascends list

-- the pairs that a node lists, by the heads of its children: a prime node those between which an edge runs, another node none
abbrev pub pairs_by_rows : (ℕ → ℕ → Bool) → Kind → List ℕ → List Pair
pairs_by_rows e k list = cond (is_prime k) (head_pairs graph_pairs (is_edge_up e) list) []

-- the heads of a node's children are names of s in ascending order, and the adjacency of these tells the pairs of the node
pub record IsNodeByRows (e : ℕ → ℕ → Bool) (s : NameSet) (k : Kind) (cs : PlainTrees) (ps : List Pair) : Type 0 where
  pub heads : AreHeadsOf s (head_list cs)
  pub pairs : ps ≡ pairs_by_rows e k (head_list cs)
