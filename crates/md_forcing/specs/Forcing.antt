-- Direct forcing of arcs, and the arcs that an arc reaches. A graph is its test of adjacency, so that its complement is
-- another test. Source: Golumbic, Algorithmic Graph Theory and Perfect Graphs, chapter 5.
use Rattle.std.specs.Prelude.{◌≡◌, ◌≢◌, ◌≤◌, ◌⊎◌, ℕ, Bool, true, false, List, [], ◌∷◌, length}
use Rattle.md_forcing.specs.declared.arc.Arc.{Arc}
use Rattle.md_forcing.specs.Lists.{NoRepeats}

-- the arc from u to v
abbrev pub arc : ℕ → ℕ → Arc
arc u v = record { tail = u; head = v }

-- the same edge in the other direction
abbrev pub reverse : Arc → Arc
reverse a = arc a.head a.tail

-- a runs along an edge
abbrev pub IsArc : (ℕ → ℕ → Bool) → Arc → Type 0
IsArc e a = e a.tail a.head ≡ true

-- one tail, and heads that differ and are not adjacent
abbrev pub ForceAtTail : (ℕ → ℕ → Bool) → Arc → Arc → Type 0
ForceAtTail e a b = (a.tail ≡ b.tail) × (a.head ≢ b.head) × (e a.head b.head ≡ false)

-- one head, and tails that differ and are not adjacent
abbrev pub ForceAtHead : (ℕ → ℕ → Bool) → Arc → Arc → Type 0
ForceAtHead e a b = (a.head ≡ b.head) × (a.tail ≢ b.tail) × (e a.tail b.tail ≡ false)

-- two arcs force each other directly
abbrev pub ForcesDirectly : (ℕ → ℕ → Bool) → Arc → Arc → Type 0
ForcesDirectly e a b = ForceAtTail e a b ⊎ ForceAtHead e a b

-- The arcs of the list, behind a, lead to b, the last of them: neighbours force each other directly. The empty list
-- leads from a to a alone.
abbrev pub Leads : (ℕ → ℕ → Bool) → Arc → List Arc → Arc → Type 0
Leads e a [] b = a ≡ b
Leads e a (c ∷ list) b = IsArc e c × ForcesDirectly e a c × Leads e c list b

-- some list of arcs leads from the arc a to b
abbrev pub Reaches : (ℕ → ℕ → Bool) → Arc → Arc → Type 0
Reaches e a b = IsArc e a × (list : List Arc) × Leads e a list b

-- a list of arcs without repeats from a, its first, to the reverse of a, its last, in which neighbours force each other
-- directly
pub record IsListToReverse (e : ℕ → ℕ → Bool) (a : Arc) (list : List Arc) : Type 0 where
  pub rest : List Arc
  pub begins : list ≡ a ∷ rest
  pub starts : IsArc e a
  pub leads : Leads e a rest (reverse a)
  pub no_repeats : NoRepeats list

-- such a list, and none is shorter
pub record IsShortestToReverse (e : ℕ → ℕ → Bool) (a : Arc) (list : List Arc) : Type 0 where
  pub to_reverse : IsListToReverse e a list
  pub shortest : (other : List Arc) → IsListToReverse e a other → length list ≤ length other
