-- Sets in ascending order of their least names, and their marks: the least name of each, and the set.
-- Source: sorting by a key, as in any textbook.
use Rattle.std.specs.Prelude.{ℕ, ◌≡◌, ◌<◌, ◌⊎◌, ◌↔◌, List, Contains, All, AllPairs}
use Rattle.md_graph.specs.NameSet.{IsLeastFrom}
use Rattle.md_graph.specs.Sets.{NameSet}
use Rattle.md_tree.specs.StrongTrees.{IsBefore}
use Rattle.md_decompose.specs.declared.ordered.Mark.{Mark}

-- m has one of the sets and its least name
pub record IsMark {w : ℕ} (cs : List NameSet) (m : Mark w) : Type 0 where
  pub known : Contains cs m.class
  pub least : IsLeastFrom m.class 0 m.least

-- the list has a mark of each set, in ascending order of the least names
pub record AreMarks {w : ℕ} (cs : List NameSet) (ms : List (Mark w)) : Type 0 where
  pub marks : All (IsMark cs) ms
  pub cover : (c : NameSet) → Contains cs c → (m : Mark w) × Contains ms m × (m.class ≡ c)
  pub ascending : AllPairs (λ a b. a.least < b.least) ms

-- the list has a first set and the sets of another list, and no others, in ascending order of their least names
pub record ListsInOrder (first : NameSet) (cs sets : List NameSet) : Type 0 where
  pub order : AllPairs IsBefore sets
  pub exactly : (m : NameSet) → Contains sets m ↔ ((m ≡ first) ⊎ Contains cs m)
