-- Ranges of names, taken in 64 at once.
use Rattle.std.proofs.Common.{◌≡◌, ℕ, zero, suc, ◌+◌, ◌-◌, ◌*◌, ◌/◌, ◌%◌, ◌^◌, ◌<◌, ◌≤◌, min, ltb, leb, Bool, false, ◌==◌, ◌&&◌, ◌||◌, if◌then◌else◌, arith, ap, sym, ◌∙◌, inl, inr}
use Rattle.std.proofs.lemmas.Bool.{cases_lt}
use Rattle.std.proofs.lemmas.Bool.Decides.{nat_tests}
use Rattle.std.proofs.lemmas.Nat.{shr-shr}
use Rattle.std.proofs.lemmas.Nat.Bits.{bit_at_ones, bit_at_ones_above}
use Rattle.std.specs.Int.{bit_at, div_ceil}
use Rattle.std.specs.FinSet as set
use Rattle.md_graph.specs.Sets.{NameSet, Lacks}
use Rattle.md_graph.specs.PlainGraph.{PlainGraph, empty_graph, with_range}
use Rattle.md_graph.specs.NameSet.{range, block}
use Rattle.md_graph.proofs.BitWords.{contains-block_below}
use Rattle.md_graph.proofs.SetLaws.{contains-empty, contains-insert, contains-union, same_set}

abbrev in_range : ℕ → ℕ → ℕ → Bool
in_range from to q = leb from q && ltb q to

range_none : (from q : ℕ) → false ≡ in_range from (from + 0) q
range_none from q = grind (arith, nat_tests)

range_step : (from count q : ℕ) → ((q == (from + count)) || in_range from (from + count) q) ≡ in_range from (from + suc count) q
range_step from count q = grind (arith, nat_tests)

pub contains-range : (from count q : ℕ) → set.contains (range from count) q ≡ (leb from q && ltb q (from + count))
unfolding range
contains-range from zero q = contains-empty q ∙ range_none from q
contains-range from (suc count) q =
    contains-insert (range from count) (from + count) q ∙ ap (λ b. (q == (from + count)) || b) (contains-range from count q) ∙ range_step from count q

-- a graph without vertices, with a range of them
pub union_none : (s : NameSet) → set.union set.empty s ≡ s
union_none s = same_set _ s (λ q. contains-union set.empty s q ∙ ap (λ b. b || set.contains s q) (contains-empty q))

pub range_alone : {g h : PlainGraph} (from count : ℕ) → g ≡ empty_graph → h ≡ with_range g from count → h ≡ record { vertices = range from count; edges = set.empty }
range_alone from count none is = is ∙ ap (λ g. with_range g from count) none ∙ ap (λ s. record { vertices = s; edges = set.empty }) (union_none (range from count))

-- no name is a vertex yet
pub none_there : {g : PlainGraph} → g ≡ empty_graph → (v : ℕ) → Lacks g.vertices v
none_there none v = ap (λ (g : PlainGraph). set.contains g.vertices v) none ∙ contains-empty v

-- ---- the bits of a word

-- `MAX >> (64 - place)`
pub low_ones : (place k : ℕ) → place ≤ 64 → bit_at ((2 ^ 64 - 1) / 2 ^ (64 - place)) k ≡ (if ltb k place then 1 else 0)
low_ones place k few =
    let moved : bit_at ((2 ^ 64 - 1) / 2 ^ (64 - place)) k ≡ bit_at (2 ^ 64 - 1) (64 - place + k) = ap (λ x. x % 2) (shr-shr (2 ^ 64 - 1) (64 - place) k) in
    elim (cases_lt k place) [
      | inl h ↦ let one : bit_at (2 ^ 64 - 1) (64 - place + k) ≡ 1 = bit_at_ones 64 (64 - place + k) (omega arith) in grind (arith, nat_tests)
      | inr h ↦ let none : bit_at (2 ^ 64 - 1) (64 - place + k) ≡ 0 = bit_at_ones_above 64 (64 - place + k) (omega arith) in grind (arith, nat_tests)
    ]

pub range_bit : (first from to low high k x y : ℕ) → low ≡ from - first → high ≡ min (to - first) 64 → k < 64 → first < to → x ≡ (if ltb k high then 1 else 0) → y ≡ (if leb low k then x else 0) → (y == 1) ≡ (leb from (first + k) && ltb (first + k) to)
range_bit first from to low high k x y is_low is_high inside some is_x is_y = grind (arith, nat_tests)

-- ---- word by word

-- what is taken in before word `at`
abbrev pub Filled : NameSet → NameSet → ℕ → ℕ → ℕ → Type 0
Filled old now from to at = (q : ℕ) → set.contains now q ≡ (set.contains old q || (in_range from to q && ltb q (64 * at)))

word_here : (from to at q : ℕ) (a x : Bool) → (64 * at ≤ q → q < 64 * at + 64 → x ≡ in_range from to q) → ((a || (in_range from to q && ltb q (64 * at))) || (leb (64 * at) q && (ltb (q - 64 * at) 64 && x))) ≡ (a || (in_range from to q && ltb q (64 * (at + 1))))
word_here from to at q a x is = grind (arith, nat_tests)

pub filled_more : (old now new : NameSet) (from to at bits : ℕ) → Filled old now from to at → ((k : ℕ) → k < 64 → (bit_at bits k == 1) ≡ (leb from (64 * at + k) && ltb (64 * at + k) to)) → new ≡ set.union now (block (64 * at) bits) → Filled old new from to (at + 1)
filled_more old now new from to at bits filled law is q =
    ap (λ s. set.contains s q) is ∙ contains-union now (block (64 * at) bits) q
    ∙ ap (λ b. b || set.contains (block (64 * at) bits) q) (filled q)
    ∙ ap (λ b. (set.contains old q || (in_range from to q && ltb q (64 * at))) || b) (contains-block_below (64 * at) bits 64 q)
    ∙ word_here from to at q _ _ (λ low high. let place : 64 * at + (q - 64 * at) ≡ q = omega arith in law (q - 64 * at) (omega arith) ∙ ap (in_range from to) place)

all_taken : (from to at q : ℕ) → to ≤ 64 * at → (in_range from to q && ltb q (64 * at)) ≡ in_range from to q
all_taken from to at q past = grind (arith, nat_tests)

pub filled_ends : (old now : NameSet) (from count to at : ℕ) → Filled old now from to at → to ≡ from + count → to ≤ 64 * at → now ≡ set.union old (range from count)
filled_ends old now from count to at filled e past = same_set _ _ (λ q.
    filled q ∙ ap (λ b. set.contains old q || b) (all_taken from to at q past ∙ ap (λ t. in_range from t q) e ∙ sym (contains-range from count q))
    ∙ sym (contains-union old (range from count) q))

-- the words that hold the names below `to`
pub rounded_up : (to words at : ℕ) → words ≡ div_ceil to 64 → words ≤ at → to ≤ 64 * at
rounded_up to words at e h = omega (arith, e)
