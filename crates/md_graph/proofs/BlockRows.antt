-- Blocks of 64 by 64 edges, joined to the rows of a graph.
use Rattle.std.proofs.Common.{◌≡◌, ℕ, ◌+◌, ◌-◌, ◌/◌, ◌%◌, ◌<◌, ◌≤◌, ◌≢◌, Bool, true, false, ◌&&◌, ◌||◌, ◌==◌, ltb, leb, List, length, get_or, refl, sym, ap, ap₂, ◌∙◌, arith, inl, inr, set as set_at}
use Rattle.std.specs.Int.{bit_at}
use Rattle.std.proofs.lemmas.Bool.{cases_eq, cases_lt, eq-eqb, ne_eqb, or_cases, false_from_ne_true}
use Rattle.std.proofs.lemmas.Bool.Decides.{nat_tests}
use Rattle.std.proofs.lemmas.Nat.Bits.{bit_at-zero}
use Rattle.std.proofs.lemmas.List.{get_or_read, get_or-set_same, get_or-set_other}
use Rattle.std.specs.List.{refill}
use Rattle.std.specs.FinSet as set
use Rattle.md_graph.specs.Sets.{NameSet, Has}
use Rattle.md_graph.specs.NameSet.{block}
use Rattle.md_graph.specs.PlainGraph.{PlainGraph, adjacent}
use Rattle.md_graph.specs.Rows.{row_of, graph_of, AreRows}
use Rattle.md_graph.specs.Blocks.{in_block, IsWithBlock}
use Rattle.md_graph.proofs.SetLaws.{contains-union}
use Rattle.md_graph.proofs.BitWords.{contains-block_below}
use Rattle.md_graph.proofs.GraphLemmas.{IsGraph-graph_of, adjacent-graph_of}
use Rattle.md_graph.proofs.RowLemmas.{refilled}

-- ---- one row

abbrev word_has : ℕ → ℕ → ℕ → Bool
word_has first bits v = (v / 64 == first / 64) && (bit_at bits (v % 64) == 1)

block_test : (first v x y : ℕ) → first % 64 ≡ 0 → (v / 64 ≡ first / 64 → x ≡ y) → (leb first v && (ltb (v - first) 64 && (x == 1))) ≡ ((v / 64 == first / 64) && (y == 1))
block_test first v x y aligned same =
    elim (cases_eq (v / 64) (first / 64)) [
      | inl e ↦ let is = same e in let low : first ≤ v = omega arith in let high : v - first < 64 = omega arith in grind (arith, nat_tests)
      | inr ne ↦ elim (cases_lt v first) [
        | inl below ↦ grind (arith, nat_tests)
        | inr above ↦ let high : 64 ≤ v - first = omega arith in grind (arith, nat_tests)
      ]
    ]

contains-word : (first bits v : ℕ) → first % 64 ≡ 0 → set.contains (block first bits) v ≡ word_has first bits v
contains-word first bits v aligned =
    contains-block_below first bits 64 v
    ∙ block_test first v (bit_at bits (v - first)) (bit_at bits (v % 64)) aligned (λ e. ap (bit_at bits) (let place : v - first ≡ v % 64 = omega arith in place))

no_word : (a b c : Bool) → a ≡ (a || (b && (c && false)))
no_word a b c = grind arith

pub row_without : (rows : List NameSet) (at_row first bits u v : ℕ) → bits ≡ 0 → set.contains (row_of rows u) v ≡ (set.contains (row_of rows u) v || ((u == at_row) && word_has first bits v))
row_without rows at_row first bits u v e =
    let none : (bit_at bits (v % 64) == 1) ≡ false = ap (λ x. x == 1) (ap (λ b. bit_at b (v % 64)) e ∙ bit_at-zero (v % 64)) in
    rw none (no_word _ _ _)

here_or : (a b : Bool) → (a || b) ≡ (a || (true && b))
here_or a b = grind arith

there_or : (a b : Bool) → a ≡ (a || (false && b))
there_or a b = grind arith

pub row_with : (rows : List NameSet) (at_row first bits : ℕ) (old new : NameSet) → at_row < length rows → first % 64 ≡ 0 → old ≡ get_or rows at_row old → new ≡ set.union old (block first bits) → (u v : ℕ)
    → set.contains (row_of (set_at rows at_row new) u) v ≡ (set.contains (row_of rows u) v || ((u == at_row) && word_has first bits v))
row_with rows at_row first bits old new inside aligned read is u v =
    elim (cases_eq u at_row) [
      | inl same ↦
          rw (same, get_or-set_same rows at_row new set.empty inside, eq-eqb at_row at_row refl)
          (ap (λ s. set.contains s v) (is ∙ ap (λ s. set.union s (block first bits)) (get_or_read rows at_row old inside read set.empty))
          ∙ contains-union (row_of rows at_row) (block first bits) v
          ∙ ap (λ b. set.contains (row_of rows at_row) v || b) (contains-word first bits v aligned)
          ∙ here_or (set.contains (row_of rows at_row) v) (word_has first bits v))
      | inr other ↦ rw (get_or-set_other rows at_row u new set.empty other, ne_eqb u at_row other) (there_or (set.contains (row_of rows u) v) (word_has first bits v))
    ]

-- ---- the rows of one side

before_block : (u from : ℕ) (a b : Bool) → from % 64 ≡ 0 → a ≡ (a || (ltb u (from + 0) && ((u / 64 == from / 64) && b)))
before_block u from a b aligned =
    elim (cases_eq (u / 64) (from / 64)) [
      | inl e ↦ let low : from ≤ u = omega arith in grind (arith, nat_tests)
      | inr ne ↦ grind (arith, nat_tests)
    ]

pub no_rows : (rows : List NameSet) (words : List ℕ) (from first u v : ℕ) → from % 64 ≡ 0 → set.contains (row_of rows u) v ≡ (set.contains (row_of rows u) v || (ltb u (from + 0) && in_block words from first u v))
no_rows rows words from first u v aligned = before_block u from _ _ aligned

one_more : (u from r : ℕ) (a b c : Bool) → from % 64 ≡ 0 → r < 64 → (u ≡ from + r → b ≡ c) → ((a || (ltb u (from + r) && ((u / 64 == from / 64) && b))) || ((u == from + r) && c)) ≡ (a || (ltb u (from + (r + 1)) && ((u / 64 == from / 64) && b)))
one_more u from r a b c aligned inside same =
    elim (cases_eq u (from + r)) [
      | inl e ↦ let is = same e in let word : u / 64 ≡ from / 64 = omega arith in grind (arith, nat_tests)
      | inr ne ↦ grind (arith, nat_tests)
    ]

pub more_rows : (old rows new : List NameSet) (words : List ℕ) (from first r : ℕ) → from % 64 ≡ 0 → r < 64
    → ((u v : ℕ) → set.contains (row_of rows u) v ≡ (set.contains (row_of old u) v || (ltb u (from + r) && in_block words from first u v)))
    → ((u v : ℕ) → set.contains (row_of new u) v ≡ (set.contains (row_of rows u) v || ((u == from + r) && word_has first (get_or words r 0) v)))
    → (u v : ℕ) → set.contains (row_of new u) v ≡ (set.contains (row_of old u) v || (ltb u (from + (r + 1)) && in_block words from first u v))
more_rows old rows new words from first r aligned inside before step u v =
    step u v
    ∙ ap (λ b. b || ((u == from + r) && word_has first (get_or words r 0) v)) (before u v)
    ∙ one_more u from r _ _ _ aligned inside (λ e. let place : u % 64 ≡ r = omega arith in ap (λ k. word_has first (get_or words k 0) v) place)

all_block : (u from : ℕ) (a b : Bool) → from % 64 ≡ 0 → (a || (ltb u (from + 64) && ((u / 64 == from / 64) && b))) ≡ (a || ((u / 64 == from / 64) && b))
all_block u from a b aligned =
    elim (cases_eq (u / 64) (from / 64)) [
      | inl e ↦ let high : u < from + 64 = omega arith in grind (arith, nat_tests)
      | inr ne ↦ grind (arith, nat_tests)
    ]

pub all_rows : (old rows : List NameSet) (words : List ℕ) (from first r : ℕ) → from % 64 ≡ 0 → r ≡ 64
    → ((u v : ℕ) → set.contains (row_of rows u) v ≡ (set.contains (row_of old u) v || (ltb u (from + r) && in_block words from first u v)))
    → (u v : ℕ) → set.contains (row_of rows u) v ≡ (set.contains (row_of old u) v || in_block words from first u v)
all_rows old rows words from first r aligned last before u v =
    before u v ∙ ap (λ k. set.contains (row_of old u) v || (ltb u (from + k) && in_block words from first u v)) last ∙ all_block u from _ _ aligned

-- ---- both sides

turn_tests : (a b : Bool) (x y : ℕ) → x ≡ y → (a && (b && (x == 1))) ≡ (b && (a && (y == 1)))
turn_tests a b x y e = rw e (grind arith)

or_assoc : (a b c : Bool) → ((a || b) || c) ≡ (a || (b || c))
or_assoc a b c = grind arith

pub both_sides : (old mid new : List NameSet) (words turned : List ℕ) (low high : ℕ)
    → ((r k : ℕ) → r < 64 → k < 64 → bit_at (get_or turned r 0) k ≡ bit_at (get_or words k 0) r)
    → ((u v : ℕ) → set.contains (row_of mid u) v ≡ (set.contains (row_of old u) v || in_block words high low u v))
    → ((u v : ℕ) → set.contains (row_of new u) v ≡ (set.contains (row_of mid u) v || in_block turned low high u v))
    → (u v : ℕ) → set.contains (row_of new u) v ≡ (set.contains (row_of old u) v || (in_block words high low u v || in_block words high low v u))
both_sides old mid new words turned low high transposed first second u v =
    second u v
    ∙ ap₂ (λ a b. a || b) (first u v) (turn_tests (u / 64 == low / 64) (v / 64 == high / 64) _ _ (transposed (u % 64) (v % 64) (omega arith) (omega arith)))
    ∙ or_assoc (set.contains (row_of old u) v) (in_block words high low u v) (in_block words high low v u)

nothing_more : (a b c d e : Bool) → a ≡ (a || ((b && (c && false)) || (d && (e && false))))
nothing_more a b c d e = grind arith

-- a block without bits
pub no_sides : (rows : List NameSet) (words : List ℕ) (low high : ℕ) → ((k i : ℕ) → k < 64 → i < 64 → bit_at (get_or words k 0) i ≡ 0) → (u v : ℕ)
    → set.contains (row_of rows u) v ≡ (set.contains (row_of rows u) v || (in_block words high low u v || in_block words high low v u))
no_sides rows words low high none u v =
    rw (none (u % 64) (v % 64) (omega arith) (omega arith), none (v % 64) (u % 64) (omega arith) (omega arith))
    (nothing_more (set.contains (row_of rows u) v) (u / 64 == high / 64) (v / 64 == low / 64) (v / 64 == high / 64) (u / 64 == low / 64))

-- ---- the graph

or_swap : (a b c : Bool) → (a || (b || c)) ≡ (a || (c || b))
or_swap a b c = grind arith

neither : (a b : Bool) → a ≡ false → b ≡ false → (a || (b || b)) ≡ false
neither a b e f = grind arith

pub rows_add_block : {limit : ℕ} {live : NameSet} {rows : List NameSet} {g : PlainGraph} → AreRows limit live rows → graph_of live rows ≡ g → (low high : ℕ) (words : List ℕ)
    → ((u v : ℕ) → in_block words high low u v ≡ true → Has g.vertices u × Has g.vertices v × (u ≢ v))
    → (n : ℕ) (old ws : List NameSet) → n ≡ length rows → old ≡ rows → length ws ≡ length old
    → ((u v : ℕ) → set.contains (row_of ws u) v ≡ (set.contains (row_of old u) v || (in_block words high low u v || in_block words high low v u)))
    → AreRows limit live (refill n rows ws) × IsWithBlock g high low words (graph_of live (refill n rows ws))
rows_add_block {limit} {live} {rows} {g} a e low high words ends n old ws len same kept each =
    let same_len = ap length same in
    let whole = refilled n rows ws (omega arith) in
    let live_is = λ (q : ℕ). ap (λ h. set.contains h.vertices q) e in
    let law = λ (x y : ℕ). ap (λ r. set.contains (row_of r x) y) whole ∙ each x y ∙ ap (λ r. set.contains (row_of r x) y || (in_block words high low x y || in_block words high low y x)) same in
    let made : AreRows limit live (refill n rows ws) = record {
      one_each = ap length whole ∙ kept ∙ same_len ∙ a.one_each;
      few = a.few;
      both_ways = λ u v. law u v ∙ ap (λ b. b || (in_block words high low u v || in_block words high low v u)) (a.both_ways u v) ∙ or_swap (set.contains (row_of rows v) u) (in_block words high low u v) (in_block words high low v u) ∙ sym (law v u);
      no_loop = λ v. law v v ∙ neither _ _ (a.no_loop v) (false_from_ne_true _ (λ h. (ends v v h).2 refl));
      inside = λ u v h. elim (or_cases _ _ (sym (law u v) ∙ h)) [
        | inl there ↦ a.inside u v there
        | inr more ↦ elim (or_cases _ _ more) [
          | inl here ↦ live_is v ∙ (ends u v here).1
          | inr turned ↦ live_is v ∙ (ends v u turned).0
        ]
      ];
      names = a.names;
    } in (
      made,
      record {
        vertices = ap (λ h. h.vertices) e;
        graph = IsGraph-graph_of made;
        edges = λ u v. adjacent-graph_of made u v ∙ law u v ∙ ap (λ b. b || (in_block words high low u v || in_block words high low v u)) (sym (adjacent-graph_of a u v) ∙ ap (λ h. adjacent h u v) e);
      },
    )
