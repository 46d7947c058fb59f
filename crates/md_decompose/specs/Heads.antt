-- The least names of sets that stand in order, the positions of their sets, and pairs of them.
-- Source: a quotient with one name of each class.
use Rattle.std.specs.Prelude.{◌≡◌, ◌<◌, ◌⊎◌, ℕ, Bool, true, List, Contains, AllPairs, slice_index}
use Rattle.md_graph.specs.NameSet.{IsLeastFrom}
use Rattle.md_graph.specs.Sets.{NameSet, Has}
use Rattle.md_tree.specs.Spellings.{PairRules, IsPairBeforeBy}
use Rattle.md_decompose.specs.Children.{set_at}

-- heads has exactly the least names of the first n sets, and places has the position of its set at each
pub record HoldsHeads (cs : List NameSet) (n : ℕ) (heads : NameSet) (places : List ℕ) : Type 0 where
  pub below : (a : ℕ) → Has heads a → slice_index places a < n
  pub least : (a : ℕ) → Has heads a → IsLeastFrom (set_at cs (slice_index places a)) 0 a
  pub each : (k : ℕ) → k < n → (a : ℕ) × Has heads a × (slice_index places a ≡ k)

-- of two heads the later one has the higher place
abbrev pub RisesOn : NameSet → List ℕ → Type 0
RisesOn heads places = (a b : ℕ) → Has heads a → Has heads b → a < b → slice_index places a < slice_index places b

-- a and b are two heads, in order, that are adjacent
pub record AreNear (e : ℕ → ℕ → Bool) (heads : NameSet) (a b : ℕ) : Type 0 where
  pub first : Has heads a
  pub second : Has heads b
  pub ordered : a < b
  pub edge : e a b ≡ true

-- (a, b) comes before (x, y)
abbrev pub ComesBefore : ℕ → ℕ → ℕ → ℕ → Type 0
ComesBefore a b x y = (a < x) ⊎ ((a ≡ x) × (b < y))

-- the pair of the places of a and b
abbrev pub pair_at : {P : Type 0} → PairRules P → List ℕ → ℕ → ℕ → P
pair_at r places a b = r.pair (slice_index places a) (slice_index places b)

-- the list has exactly the pairs of the places of a and b, of all a and b with Near a b before (x, y), ascending
pub record ListsHeadPairs {P : Type 0} (r : PairRules P) (Near : ℕ → ℕ → Type 0) (places : List ℕ) (x y : ℕ) (ps : List P) : Type 0 where
  pub ascending : AllPairs (IsPairBeforeBy r) ps
  pub each : (p : P) → Contains ps p → (a : ℕ) × (b : ℕ) × Near a b × ComesBefore a b x y × (p ≡ pair_at r places a b)
  pub all : (a b : ℕ) → Near a b → ComesBefore a b x y → Contains ps (pair_at r places a b)
