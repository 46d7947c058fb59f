-- Trees put in order: each node's children in ascending order of their least names.
-- Source: the evaluation of prefix notation, read from right to left; the order of the children is this project's.
use Rattle.std.specs.Prelude.{◌≡◌, ◌≢◌, ℕ, ◌-◌, ◌<◌, ◌≤◌, List, [], ◌∷◌, ◌++◌, length, take, drop, map, reverse, Option, Some, None, ⊤}
use Rattle.std.specs.List.Sorted.{IsPermutation, IsNonDecreasingBy}
use Rattle.md_graph.specs.Sets.{Has}
use Rattle.md_lists.specs.declared.kinds.PlaceKind.{PlaceKind}
use Rattle.md_lists.specs.declared.kinds.PlaceKind.TheVariants.{Leaf, Parallel, Series}
use Rattle.md_lists.specs.declared.TheConstants.{PLACES}
use Rattle.md_lists.specs.Links.{Links, kind_at, children_at, IsLive}
use Rattle.md_tree.specs.declared.Kind.{Kind}
use Rattle.md_tree.specs.declared.Kind.TheVariants.{Prime, Parallel as ParallelKind, Series as SeriesKind}
use Rattle.md_tree.specs.declared.Pair.{Pair}
use Rattle.md_tree.specs.declared.TreeOf.{TreeOf}
use Rattle.md_tree.specs.Parts.{PlainPart, name, inner as inner_part}
use Rattle.md_tree.specs.Plain.{plain}
use Rattle.md_tree.specs.TreeGraph.{adjacent_in}
use Rattle.md_tree.specs.Trees.{PlainTree, leaf, node, PlainTrees, row, names, EachNode}
use Rattle.md_tree.specs.WellFormed.{AreDisjoint, IsPlainNode, IsCanonicalTree, HasNoPrimeNode}
use Rattle.md_cotree.specs.declared.ordering.Keyed.{Keyed}
use Rattle.md_cotree.specs.PlaceTrees.{PlaceTree, place_of, node_count, shape, Stands}

-- the part of a tree that stands at a place: its kind, and how many children it has
abbrev pub part_of_kind : Option PlaceKind → ℕ → PlainPart
part_of_kind None n = name 0
part_of_kind (Some (Leaf v)) n = name v
part_of_kind (Some Parallel) n = inner_part ParallelKind n []
part_of_kind (Some Series) n = inner_part SeriesKind n []

abbrev pub part_at : Links → ℕ → PlainPart
part_at l p = part_of_kind (kind_at l p) (length (children_at l p))

-- a node as well-formed trees have it but for the order of its children, and not prime
pub record IsLooseNode (k : Kind) (cs : PlainTrees) (ps : List Pair) : Type 0 where
  pub not_prime : k ≢ Prime
  pub apart : AreDisjoint cs
  pub plain : IsPlainNode k cs ps

abbrev pub IsLoose : PlainTree → Type 0
IsLoose = EachNode IsLooseNode

-- the tree has the other's names, adjacent as there, and its children in order
pub record IsOrdered (t s : PlainTree) : Type 0 where
  pub canonical : IsCanonicalTree t
  pub no_prime : HasNoPrimeNode t
  pub same_names : names t ≡ names s
  pub same_adjacent : (u v : ℕ) → Has (names s) u → Has (names s) v → adjacent_in t u v ≡ adjacent_in s u v

-- the places are live
abbrev pub AllLive : Links → List ℕ → Type 0
AllLive l [] = ⊤
AllLive l (p ∷ ps) = IsLive l p × AllLive l ps

-- a tree of no more nodes than places stands at the place
abbrev pub HasTree : Links → ℕ → Type 0
HasTree l root = (t : PlaceTree) × Stands l t × (place_of t ≡ root) × (node_count t ≤ PLACES) × IsLoose (shape t)

-- a tree with its least name
pub record PlainKeyed : Type 0 where
  pub least : ℕ
  pub tree : PlainTree

abbrev pub plain_keyed : Keyed → PlainKeyed
plain_keyed k = record { least = k.least; tree = plain k.tree }

abbrev pub least_of : Keyed → ℕ
least_of k = k.least

abbrev pub tree_of : PlainKeyed → PlainTree
tree_of k = k.tree

abbrev pub key_of : PlainKeyed → ℕ
key_of k = k.least

-- the least name of the first
abbrev pub first_key : List PlainKeyed → ℕ
first_key [] = 0
first_key (k ∷ ks) = k.least

-- a node over the last n trees, in ascending order of their least names
pub record IsPutOver (k : Kind) (n : ℕ) (zs ws : List PlainKeyed) : Type 0 where
  pub sorted : List PlainKeyed
  pub moved : IsPermutation (drop (length zs - n) zs) sorted
  pub rising : IsNonDecreasingBy key_of sorted
  pub whole : ws ≡ take (length zs - n) zs ++ record { least = first_key sorted; tree = node k (row (map tree_of sorted)) [] } ∷ []

-- the items from a place on come in descending order of their keys
pub record AreFalling {A : Type 0} (key : A → ℕ) (below : ℕ) (zs ws : List A) : Type 0 where
  pub sorted : List A
  pub moved : IsPermutation (drop below zs) sorted
  pub rising : IsNonDecreasingBy key sorted
  pub whole : ws ≡ take below zs ++ reverse sorted

-- trees were taken off the end, the last first
pub record AreTaken (zs ws : List Keyed) (ts : List (TreeOf Kind Pair)) : Type 0 where
  pub rest : List Keyed
  pub whole : zs ≡ ws ++ rest
  pub told : map plain ts ≡ map tree_of (map plain_keyed (reverse rest))

-- the stack after one more part
abbrev pub IsPartPut : PlainPart → List PlainKeyed → List PlainKeyed → Type 0
IsPartPut (name v) zs ws = ws ≡ zs ++ record { least = v; tree = leaf v } ∷ []
IsPartPut (inner_part k n ps) zs ws = IsPutOver k n zs ws

-- the stack has the children of the part, one at least
abbrev pub HasBelow : {A : Type 0} → PlainPart → List A → Type 0
HasBelow (name v) zs = ⊤
HasBelow (inner_part k n ps) zs = (0 < n) × (n ≤ length zs)
