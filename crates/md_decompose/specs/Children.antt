-- The children of a set in the tree of strong modules, as a list of sets.
-- Source: Habib and Paul, A survey of the algorithmic aspects of modular decomposition; the order is our own.
use Rattle.std.specs.Prelude.{◌≡◌, ◌<◌, ◌↔◌, ℕ, Bool, true, List, Contains, AllPairs, get_or, Option, Some, None, ⊤}
use Rattle.std.specs.FinSet.{empty}
use Rattle.md_graph.specs.Sets.{NameSet, Has}
use Rattle.md_modules.specs.Modules.{IsMaximalStrong}
use Rattle.md_modules.specs.Kinds.{IsConnected, IsCoConnected, IsSplit}
use Rattle.md_tree.specs.declared.Kind.{Kind}
use Rattle.md_tree.specs.declared.Kind.TheVariants.{Parallel, Series, Prime}
use Rattle.md_tree.specs.declared.Pair.{Pair}
use Rattle.md_tree.specs.Spellings.{graph_pairs}
use Rattle.md_tree.specs.StrongTrees.{IsBefore, ListsExactly}

-- The list has exactly the maximal proper strong modules of s, each once, in ascending order of their least names: each has
-- a name below all names of each one behind it.
pub record AreChildren {C : Type 0} (e : ℕ → ℕ → C) (s : NameSet) (cs : List NameSet) : Type 0 where
  pub exactly : (m : NameSet) → IsMaximalStrong e s m ↔ Contains cs m
  pub order : AllPairs IsBefore cs

-- the set at a position, counted from 0; the empty set past the end
abbrev pub set_at : List NameSet → ℕ → NameSet
set_at cs i = get_or cs i empty

-- i is before j, and an edge runs between the sets at the positions i and j
pub record AreSetsJoined (e : ℕ → ℕ → Bool) (cs : List NameSet) (i j : ℕ) : Type 0 where
  pub ordered : i < j
  pub edge : (a : ℕ) × (b : ℕ) × Has (set_at cs i) a × Has (set_at cs j) b × (e a b ≡ true)

-- the list has exactly the pairs of positions between whose sets an edge runs, each once, in ascending order
abbrev pub ListsPairs : (ℕ → ℕ → Bool) → List NameSet → List Pair → Type 0
ListsPairs e cs ps = ListsExactly graph_pairs (AreSetsJoined e cs) ps

-- a child of a parallel node is connected, and a child of a series node has a connected complement
abbrev pub FitsBelow : (ℕ → ℕ → Bool) → NameSet → Option Kind → Type 0
FitsBelow e s (Some Parallel) = IsConnected e s
FitsBelow e s (Some Series) = IsCoConnected e s
FitsBelow e s (Some Prime) = ⊤
FitsBelow e s None = ⊤

-- s has a split without an edge across (v is false), or one with every edge across (v is true); of any colouring: one with this
-- colour across
abbrev pub Splits : {C : Type 0} → (ℕ → ℕ → C) → NameSet → C → Type 0
Splits e s v = (part : NameSet) × IsSplit e s part v
