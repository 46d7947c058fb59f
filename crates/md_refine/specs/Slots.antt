-- How vectors keep an ordered partition. Each class has a place, and two marks: its untouched names
-- have the one, its touched names the other. Places lead to the places behind them.
-- Source: Habib and Paul, partition refinement in linked lists; the marks are this project's.
use Rattle.std.specs.Prelude.{Option, Some, None, ◌≡◌, ◌≢◌, ◌⊎◌, ℕ, zero, suc, ◌*◌, ◌<◌, ◌≤◌, Bool, true, false, cond, ◌==◌, nat_lt, List, [], ◌∷◌, ◌++◌, map, length, slice_index_or}
use Rattle.std.specs.List.{filter, count_by}
use Rattle.md_graph.specs.declared.TheConstants.{NAMES}
use Rattle.md_graph.specs.Sets.{NameSet, Has}
use Rattle.md_graph.specs.Linked.{first_or, times, Follow, walk}
use Rattle.md_refine.specs.Partitions.{Classes, is_in}

-- what is kept: of each name below some number its mark; of each mark its place and the number of
-- its names; of each place the mark of its untouched and of its touched names and the place behind
-- it; how many places there is room for; the first place and the number of places; of each class
-- with touched names the least of them, and a number that none of these is below
pub record MarkStore : Type 0 where
  pub homes : List (Option ℕ)
  pub owners : List ℕ
  pub counts : List ℕ
  pub mains : List ℕ
  pub halves : List ℕ
  pub nexts : List (Option ℕ)
  pub size : ℕ
  pub first : Option ℕ
  pub used : ℕ
  pub leads : NameSet
  pub low : ℕ

-- the numbers below n, ascending
unfoldable pub numbers : ℕ → List ℕ
numbers zero = []
numbers (suc n) = numbers n ++ n ∷ []

-- the mark of a name, if it has one
abbrev pub home : MarkStore → ℕ → Option ℕ
home s v = slice_index_or s.homes v None

-- the place of a mark
abbrev pub owner : MarkStore → ℕ → ℕ
owner s i = slice_index_or s.owners i 0

-- the mark of the untouched names of a place
abbrev pub main : MarkStore → ℕ → ℕ
main s p = slice_index_or s.mains p 0

-- the mark of the touched names of a place
abbrev pub half : MarkStore → ℕ → ℕ
half s p = slice_index_or s.halves p 0

-- a mark is one of the place p
abbrev pub is_mark_of : List ℕ → ℕ → Option ℕ → Bool
is_mark_of owners p None = false
is_mark_of owners p (Some i) = p == slice_index_or owners i 0

-- the mark i has a place, and this has a position
abbrev pub IsPlaced : List ℕ → List ℕ → ℕ → Type 0
IsPlaced owners positions i = (i < length owners) × (slice_index_or owners i 0 < length positions)

-- the position of the place of a mark, if there is one
abbrev pub position_of_mark : List ℕ → List ℕ → Option ℕ → Option ℕ
position_of_mark owners positions None = None
position_of_mark owners positions (Some i) = Some (slice_index_or positions (slice_index_or owners i 0) 0)

-- a mark is one of touched names
abbrev pub is_half : MarkStore → Option ℕ → Bool
is_half s None = false
is_half s (Some i) = half s (owner s i) == i

-- the name has this mark
abbrev pub is_mark : ℕ → Option ℕ → Bool
is_mark i None = false
is_mark i (Some j) = j == i

-- the name v is in the class at the place p
abbrev pub stands : MarkStore → ℕ → ℕ → Bool
stands s p v = is_mark_of s.owners p (home s v)

-- the name v is touched
abbrev pub marked : MarkStore → ℕ → Bool
marked s v = is_half s (home s v)

-- the names below n whose mark is one of the place p
abbrev pub names_placed : List (Option ℕ) → List ℕ → ℕ → ℕ → List ℕ
names_placed homes owners n p = filter (λ v. is_mark_of owners p (slice_index_or homes v None)) (numbers n)

-- the names of the class at a place
abbrev pub place_names : MarkStore → ℕ → List ℕ
place_names s p = names_placed s.homes s.owners NAMES p

-- what contracts see of it
unfoldable pub partition_of : MarkStore → Classes
partition_of s = record {
  classes = map (place_names s) (walk s.nexts s.used s.first);
  touched = filter (marked s) (numbers NAMES);
}

-- the order has all places below `count`, each once; it begins at `first`, and is what the links
-- lead along
pub record IsPlaceOrder (nexts : List (Option ℕ)) (first : Option ℕ) (order : List ℕ) (count : ℕ) : Type 0 where
  pub begins : first ≡ first_or order None
  pub follow : Follow nexts order None
  pub once : (p : ℕ) → times p order ≡ cond (nat_lt p count) 1 0
  pub long : length order ≡ count
  pub within : count ≤ length nexts

-- what holds of the marks of the place p, where `used` places are used
pub record ArePlaceMarks (owners mains halves : List ℕ) (used p : ℕ) : Type 0 where
  pub main_owner : slice_index_or owners (slice_index_or mains p 0) 0 ≡ p
  pub half_owner : slice_index_or owners (slice_index_or halves p 0) 0 ≡ p
  pub differ : slice_index_or mains p 0 ≢ slice_index_or halves p 0
  pub main_low : slice_index_or mains p 0 < 2 * used
  pub half_low : slice_index_or halves p 0 < 2 * used

-- what holds of the mark i, where a name has it and `used` places are used
pub record IsHome (owners mains halves : List ℕ) (used i : ℕ) : Type 0 where
  pub low : i < 2 * used
  pub place : slice_index_or owners i 0 < used
  pub own : (i ≡ slice_index_or mains (slice_index_or owners i 0) 0) ⊎ (i ≡ slice_index_or halves (slice_index_or owners i 0) 0)

-- the names that have a mark are among `size` names
abbrev pub MarksFit : List (Option ℕ) → ℕ → Type 0
MarksFit homes size = (names : List ℕ) × (length names ≤ size) × ((v i : ℕ) → slice_index_or homes v None ≡ Some i → is_in names v ≡ true)

-- the fields keep a partition with its places in this order
pub record Keeps (s : MarkStore) (order : List ℕ) : Type 0 where
  pub homes_few : length s.homes ≤ NAMES
  pub size_few : s.size ≤ NAMES
  pub owners_len : length s.owners ≡ 2 * s.size
  pub counts_len : length s.counts ≡ 2 * s.size
  pub mains_len : length s.mains ≡ s.size
  pub halves_len : length s.halves ≡ s.size
  pub nexts_len : length s.nexts ≡ s.size
  pub fits : MarksFit s.homes s.size
  pub is_order : IsPlaceOrder s.nexts s.first order s.used
  pub homes : (v i : ℕ) → home s v ≡ Some i → IsHome s.owners s.mains s.halves s.used i
  pub marks : (p : ℕ) → p < s.used → ArePlaceMarks s.owners s.mains s.halves s.used p
  pub some : (p : ℕ) → p < s.used → (v : ℕ) × (stands s p v ≡ true)
  pub counted : (i : ℕ) → i < 2 * s.size → slice_index_or s.counts i 0 ≡ count_by (is_mark i) s.homes
  pub leads_marked : (v : ℕ) → Has s.leads v → marked s v ≡ true
  pub leads_all : (v : ℕ) → marked s v ≡ true → (l : ℕ) × Has s.leads l × (l ≤ v) × (home s l ≡ home s v)
  pub leads_low : (v : ℕ) → Has s.leads v → s.low ≤ v
  pub leads_once : (v w : ℕ) → Has s.leads v → Has s.leads w → home s v ≡ home s w → v ≡ w

-- the fields keep a partition
abbrev pub IsMarkStore : MarkStore → Type 0
IsMarkStore s = (order : List ℕ) × Keeps s order
