-- A finite set of names, as contracts see it. Two sets with the same members are equal.
-- Source: finite sets of numbers in their usual order, as in any textbook.
use Rattle.std.specs.Prelude.{ℕ, zero, suc, ◌+◌, ◌<◌, ◌≤◌, ◌&&◌, ◌==◌, nat_le, List, [], ◌∷◌, ◌++◌, if◌then◌else◌}
use Rattle.std.specs.Int.{bit_at}
use Rattle.std.specs.FinSet as set
use Rattle.md_graph.specs.Sets.{NameSet, Has}
use Rattle.md_graph.specs.declared.TheConstants.{NAMES}

-- the least member of `s` at or above `v`
pub record IsLeastFrom (s : NameSet) (v least : ℕ) : Type 0 where
  pub member : Has s least
  pub above : v ≤ least
  pub first : (w : ℕ) → Has s w → v ≤ w → least ≤ w

-- the greatest member of `s`
pub record IsGreatest (s : NameSet) (greatest : ℕ) : Type 0 where
  pub member : Has s greatest
  pub last : (w : ℕ) → Has s w → w ≤ greatest

-- no member of `s` is at or above `v`
abbrev pub NoneFrom : NameSet → ℕ → Type 0
NoneFrom s v = (w : ℕ) → Has s w → w < v

-- all members of `s` are below `n`
abbrev pub AllBelow : NameSet → ℕ → Type 0
AllBelow s n = (w : ℕ) → Has s w → w < n

-- the symmetric difference: the numbers that exactly one of `a` and `b` has
abbrev pub symmetric_difference : NameSet → NameSet → NameSet
symmetric_difference a b = set.union (set.difference a b) (set.difference b a)

-- the members of `s` from `low` on and below `bound`, ascending
unfoldable pub ascending_between : NameSet → ℕ → ℕ → List ℕ
ascending_between s low zero = []
ascending_between s low (suc n) =
    ascending_between s low n ++ (if nat_le low n && set.contains s n then n ∷ [] else [])

-- the members of a set of names at or above `low`, ascending: those below NAMES
abbrev pub ascending_from : NameSet → ℕ → List ℕ
ascending_from s low = ascending_between s low NAMES

-- the members of a set of names, ascending: those below NAMES
abbrev pub ascending : NameSet → List ℕ
ascending s = ascending_from s 0

-- the names from `from` on, `count` of them
unfoldable pub range : ℕ → ℕ → NameSet
range from zero = set.empty
range from (suc count) = set.insert (range from count) (from + count)

-- the names first + k, k < bound, for which bit k of `bits` is 1
unfoldable pub block_below : ℕ → ℕ → ℕ → NameSet
block_below first bits zero = set.empty
block_below first bits (suc k) =
    if bit_at bits k == 1 then set.insert (block_below first bits k) (first + k) else block_below first bits k

-- the names first + k for which bit k of a word is 1
abbrev pub block : ℕ → ℕ → NameSet
block first bits = block_below first bits 64
