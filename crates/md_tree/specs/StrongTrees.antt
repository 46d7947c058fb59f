-- The tree of the strong modules of the graph on a set of names s with the adjacency e, or of any other colouring e of its pairs.
-- Source: Habib and Paul, A survey of the algorithmic aspects of modular decomposition; the order of the children is our own.
use Rattle.std.specs.Prelude.{◌≡◌, ◌≢◌, ◌<◌, ◌↔◌, ℕ, Bool, true, List, [], Contains, AllPairs, Option, Some, None, ⊤}
use Rattle.std.specs.FinSet.{empty}
use Rattle.md_graph.specs.Sets.{NameSet, Has}
use Rattle.md_modules.specs.Modules.{IsStrong}
use Rattle.md_modules.specs.Kinds.{IsParallel, IsSeries, IsPrime}
use Rattle.md_tree.specs.declared.Kind.{Kind}
use Rattle.md_tree.specs.declared.Kind.TheVariants.{Parallel, Series, Prime}
use Rattle.md_tree.specs.declared.Pair.{Pair}
use Rattle.md_tree.specs.Spellings.{PairRules, IsPairBeforeBy, graph_pairs}
use Rattle.md_tree.specs.Trees.{PlainTreeOf, PlainTreesOf, PlainTree, PlainTrees, no_tree, one_more, names, names_below, names_at, node_sets, EachNode}

-- the trees stand in a row: the leaf set of each before that of those after it
abbrev pub StandBy : {K P : Type 0} → (NameSet → NameSet → Type 0) → PlainTreesOf K P → Type 0
StandBy Before no_tree = ⊤
StandBy Before (one_more t ts) = Before (names t) (names_below ts) × StandBy Before ts

-- a node has the kind of its leaf set, its children in the order of that kind, and its pairs
pub record IsNodeBy {K P : Type 0} (HasTheKind : NameSet → K → Type 0) (Before : K → NameSet → NameSet → Type 0)
    (Lists : K → PlainTreesOf K P → List P → Type 0) (k : K) (cs : PlainTreesOf K P) (ps : List P) : Type 0 where
  pub kind : HasTheKind (names_below cs) k
  pub order : StandBy (Before k) cs
  pub pairs : Lists k cs ps

-- t is the tree of the strong modules of s: the leaf sets of its nodes are exactly the strong modules, each once, and N holds of
-- each node
pub record IsTreeBy {K P C : Type 0} (N : K → PlainTreesOf K P → List P → Type 0) (e : ℕ → ℕ → C) (s : NameSet) (t : PlainTreeOf K P) : Type 0 where
  pub strong : (m : NameSet) → IsStrong e s m ↔ Contains (node_sets t) m
  pub once : AllPairs (λ m n. m ≢ n) (node_sets t)
  pub nodes : EachNode N t

-- the tree of s, and none where s has no member
abbrev pub IsTreeOrNone : {K P C : Type 0} → (K → PlainTreesOf K P → List P → Type 0) → (ℕ → ℕ → C) → NameSet → Option (PlainTreeOf K P) → Type 0
IsTreeOrNone N e s None = s ≡ empty
IsTreeOrNone N e s (Some t) = IsTreeBy N e s t

-- the list has exactly the pairs whose positions are joined, each once, in ascending order
pub record ListsExactly {P : Type 0} (r : PairRules P) (Joined : ℕ → ℕ → Type 0) (ps : List P) : Type 0 where
  pub ascending : AllPairs (IsPairBeforeBy r) ps
  pub exactly : (p : P) → Contains ps p ↔ Joined (r.first p) (r.second p)

-- ---- graphs

-- s is of kind k
abbrev pub HasKind : (ℕ → ℕ → Bool) → NameSet → Kind → Type 0
HasKind e s Parallel = IsParallel e s
HasKind e s Series = IsSeries e s
HasKind e s Prime = IsPrime e s

-- some name of s is below each name of t
abbrev pub IsBefore : NameSet → NameSet → Type 0
IsBefore s t = (x : ℕ) × Has s x × ((y : ℕ) → Has t y → x < y)

-- the trees stand in ascending order of their least names: each has a name below all names of those after it
abbrev pub IsInOrder : {K P : Type 0} → PlainTreesOf K P → Type 0
IsInOrder = StandBy IsBefore

-- i is before j, and an edge runs between the trees at the positions i and j
pub record AreTreesJoined (e : ℕ → ℕ → Bool) (cs : PlainTrees) (i j : ℕ) : Type 0 where
  pub ordered : i < j
  pub edge : (a : ℕ) × (b : ℕ) × Has (names_at cs i) a × Has (names_at cs j) b × (e a b ≡ true)

-- the one pair comes before the other, by the lower and then by the higher position
abbrev pub IsPairBefore : Pair → Pair → Type 0
IsPairBefore = IsPairBeforeBy graph_pairs

-- the list has exactly the pairs of positions between which an edge runs, each once, in ascending order
abbrev pub ListsJoined : (ℕ → ℕ → Bool) → PlainTrees → List Pair → Type 0
ListsJoined e cs = ListsExactly graph_pairs (AreTreesJoined e cs)

-- a prime node lists the pairs of its children between which an edge runs, and no other node lists pairs
abbrev pub HasPairs : (ℕ → ℕ → Bool) → Kind → PlainTrees → List Pair → Type 0
HasPairs e Parallel cs ps = ps ≡ []
HasPairs e Series cs ps = ps ≡ []
HasPairs e Prime cs ps = ListsJoined e cs ps

-- a node of a graph's tree has the kind of its leaf set, its children in ascending order of their least names, and its pairs
abbrev pub IsNodeOf : (ℕ → ℕ → Bool) → Kind → PlainTrees → List Pair → Type 0
IsNodeOf e = IsNodeBy (HasKind e) (λ k. IsBefore) (HasPairs e)

-- t is the tree of the strong modules of the graph on s
abbrev pub IsTreeOf : (ℕ → ℕ → Bool) → NameSet → PlainTree → Type 0
IsTreeOf e = IsTreeBy (IsNodeOf e) e

-- the tree of the graph on s, and none where s has no member
abbrev pub IsTree : (ℕ → ℕ → Bool) → NameSet → Option PlainTree → Type 0
IsTree e = IsTreeOrNone (IsNodeOf e) e
