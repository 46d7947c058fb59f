-- Blocks of a body and the graph that they make.
use Rattle.std.proofs.Common.{◌≡◌, ℕ, ◌+◌, ◌-◌, ◌*◌, ◌/◌, ◌%◌, ◌<◌, ◌≤◌, ◌≢◌, Bool, true, false, ◌&&◌, ◌||◌, ◌==◌, nat_lt, min, List, length, get_or, replicate, refl, sym, ap, ap₂, ◌∙◌, arith, inl, inr, if◌then◌else◌, ltb-true, get_or-set_same, get_or-set_other, set as set_at}
use Rattle.std.specs.Int.{bit_at}
use Rattle.std.proofs.lemmas.Bool.{cases_eq, eq-eqb, ne_eqb, true≢false}
use Rattle.std.proofs.lemmas.Bool.Decides.{nat_tests}
use Rattle.std.proofs.lemmas.Nat.Bits.{bit_at-zero}
use Rattle.std.specs.FinSet as set
use Rattle.md_graph.specs.Sets.{Has}
use Rattle.md_graph.specs.Blocks.{in_block, IsWithBlock}
use Rattle.md_graph.proofs.BitWords.{get_or-zeros}
use Rattle.md_graph.specs.PlainGraph.{PlainGraph, empty_graph, with_range}
use Rattle.md_graph.specs.declared.TheConstants.{NAMES}
use Rattle.md_graph.specs.NameSet.{range}
use Rattle.md_graph.proofs.Ranges.{contains-range, range_alone}
use Rattle.md_graph.proofs.GraphLemmas.{IsGraph-without_edges, adjacent-without_edges}
use Rattle.md_graph6.specs.Bits.{bit, pair_number, IsBodyOf}
use Rattle.md_graph6.specs.Filled.{IsEdgeless, IsBlock, is_before, IsFilled}

-- ---- the vertices

pub vertices_ranged : {g h : PlainGraph} (n : ℕ) → n ≤ NAMES → g ≡ empty_graph → h ≡ with_range g 0 n → IsEdgeless n h
vertices_ranged {g} {h} n few none is = rw (range_alone {g = g} {h = h} 0 n none is) (record {
  vertices = members;
  graph = IsGraph-without_edges (range 0 n) (λ v member. omega (arith, few, ltb-true v n (sym (members v) ∙ member)));
  no_edge = adjacent-without_edges (range 0 n);
})
  where
    members : (v : ℕ) → set.contains (range 0 n) v ≡ nat_lt v n
    members v = contains-range 0 n v ∙ grind (arith, nat_tests)

-- ---- one column and one block

cut_bit : (x y z : ℕ) (a b : Bool) → x ≡ (if a then y else 0) → a ≡ b → y ≡ z → x ≡ (if b then z else 0)
cut_bit x y z a b e f g = rw (e, f, g) refl

-- the lowest j - low bits of a column from row low on
pub column_cut : (body : List ℕ) (place j low bits cut k : ℕ) → low ≤ j → place ≡ pair_number 0 j
    → bit_at bits k ≡ bit body (place + low + k)
    → bit_at cut k ≡ (if nat_lt k (j - low) then bit_at bits k else 0)
    → bit_at cut k ≡ (if nat_lt (low + k) j then bit body (pair_number (low + k) j) else 0)
column_cut body place j low bits cut k above is stream e =
    let same : nat_lt k (j - low) ≡ nat_lt (low + k) j = grind (arith, nat_tests) in
    let where_it_is : place + low + k ≡ pair_number (low + k) j = omega arith in
    cut_bit _ _ _ _ _ e same (stream ∙ ap (bit body) where_it_is)

-- the words below r are those of a block, the others 0
abbrev pub IsPart : List ℕ → ℕ → ℕ → ℕ → List ℕ → ℕ → Type 0
IsPart body n low high block count =
    (r k : ℕ) → k < 64 → bit_at (get_or block r 0) k ≡ (if nat_lt r count && nat_lt (low + k) (high + r) then bit body (pair_number (low + k) (high + r)) else 0)

none_yet : (x : ℕ) (r : ℕ) (b : Bool) → 0 ≡ (if nat_lt r 0 && b then x else 0)
none_yet x r b = let none : nat_lt r 0 ≡ false = grind (arith, nat_tests) in rw none refl

pub part_none : (body : List ℕ) (n low high size : ℕ) → IsPart body n low high (replicate size 0) 0
part_none body n low high size r k h = ap (λ x. bit_at x k) (get_or-zeros size r) ∙ bit_at-zero k ∙ none_yet _ r _

more_old : (r count : ℕ) (b : Bool) → r ≢ count → (nat_lt r count && b) ≡ (nat_lt r (count + 1) && b)
more_old r count b ne = grind (arith, nat_tests)

pub part_more : (body : List ℕ) (n low high : ℕ) (block : List ℕ) (count word : ℕ) → count < length block → IsPart body n low high block count
    → ((k : ℕ) → k < 64 → bit_at word k ≡ (if nat_lt (low + k) (high + count) then bit body (pair_number (low + k) (high + count)) else 0))
    → IsPart body n low high (set_at block count word) (count + 1)
part_more body n low high block count word inside before column r k h =
    elim (cases_eq r count) [
      | inl same ↦
          let last : nat_lt r (count + 1) ≡ true = grind (arith, nat_tests) in
          rw last (rw (same, get_or-set_same block count word 0 inside) (column k h))
      | inr other ↦
          rw (get_or-set_other block count r word 0 other)
          (cut_bit _ _ _ _ _ (before r k h) (more_old r count (nat_lt (low + k) (high + r)) other) refl)
    ]

pub part_all : (body : List ℕ) (n low high : ℕ) (block : List ℕ) (count : ℕ) → high < n → count ≡ min (n - high) 64 → IsPart body n low high block count → IsBlock body n low high block
part_all body n low high block count inside all part r k hr hk =
    let same : nat_lt r count ≡ nat_lt (high + r) n = grind (arith, nat_tests) in
    cut_bit _ _ _ _ _ (part r k hk) (ap (λ b. b && nat_lt (low + k) (high + r)) same) refl

-- ---- the blocks

-- an edge of a block
pub block_edge : (body : List ℕ) (n l h : ℕ) (words : List ℕ) → IsBlock body n (64 * l) (64 * h) words → (u v : ℕ)
    → in_block words (64 * h) (64 * l) u v ≡ (((u / 64 == h) && (v / 64 == l)) && ((nat_lt u n && nat_lt v u) && (bit body (pair_number v u) == 1)))
block_edge body n l h words is u v =
    elim (cases_eq (u / 64) h) [
      | inl at_h ↦ elim (cases_eq (v / 64) l) [
        | inl at_l ↦
            let row : 64 * h + u % 64 ≡ u = omega arith in
            let column : 64 * l + v % 64 ≡ v = omega arith in
            let high : 64 * h / 64 ≡ h = omega arith in
            let low : 64 * l / 64 ≡ l = omega arith in
            let here = is (u % 64) (v % 64) (omega arith) (omega arith) in
            rw (high, low, at_h, at_l) (edge_test (h == h) (l == l) (nat_lt u n && nat_lt v u) (bit body (pair_number v u)) (eq-eqb h h refl) (eq-eqb l l refl) _ (here ∙ ap₂ (λ a b. if nat_lt a n && nat_lt b a then bit body (pair_number b a) else 0) row column))
        | inr ne ↦ let low : 64 * l / 64 ≡ l = omega arith in rw (low, ne_eqb (v / 64) l ne) (grind arith)
      ]
      | inr ne ↦ let high : 64 * h / 64 ≡ h = omega arith in rw (high, ne_eqb (u / 64) h ne) (grind arith)
    ]
  where
    edge_test : (p q t : Bool) (y : ℕ) → p ≡ true → q ≡ true → (x : ℕ) → x ≡ (if t then y else 0) → (p && (q && (x == 1))) ≡ ((p && q) && (t && (y == 1)))
    edge_test p q true y e f x g = rw (e, f, g) refl
    edge_test p q false y e f x g = rw (e, f, g) refl

edge_parts : (a b c d e : Bool) → ((a && b) && ((c && d) && e)) ≡ true → (c ≡ true) × (d ≡ true)
edge_parts true true true true e h = (refl, refl)
edge_parts true true true false e h = absurd (true≢false (sym h))
edge_parts true true false d e h = absurd (true≢false (sym h))
edge_parts true false c d e h = absurd (true≢false (sym h))
edge_parts false b c d e h = absurd (true≢false (sym h))

-- the ends of an edge of a block are vertices and differ
pub block_ends : (body : List ℕ) (n l h : ℕ) (words : List ℕ) {g : PlainGraph} {m k : ℕ} → IsBlock body n (64 * l) (64 * h) words → IsFilled body n m k g
    → (u v : ℕ) → in_block words (64 * h) (64 * l) u v ≡ true → Has g.vertices u × Has g.vertices v × (u ≢ v)
block_ends body n l h words {g} is filled u v edge =
    let parts = edge_parts (u / 64 == h) (v / 64 == l) (nat_lt u n) (nat_lt v u) (bit body (pair_number v u) == 1) (sym (block_edge body n l h words is u v) ∙ edge) in
    let below = ltb-true u n parts.0 in
    let smaller = ltb-true v u parts.1 in
    (filled.vertices u ∙ parts.0, filled.vertices v ∙ grind (arith, nat_tests), λ e. omega arith)

-- the edges of one block more
block_more : (a b n h l : ℕ) (old here there x y : Bool) → a < b
    → old ≡ ((nat_lt b n && is_before h l a b) && x)
    → here ≡ (((a / 64 == h) && (b / 64 == l)) && ((nat_lt a n && nat_lt b a) && y))
    → there ≡ (((b / 64 == h) && (a / 64 == l)) && ((nat_lt b n && nat_lt a b) && x))
    → (old || (here || there)) ≡ ((nat_lt b n && is_before h (l + 1) a b) && x)
block_more a b n h l old here there x y up e f g =
    let none : nat_lt b a ≡ false = grind (arith, nat_tests) in
    let some : nat_lt a b ≡ true = grind (arith, nat_tests) in
    let more : nat_lt (a / 64) (l + 1) ≡ (nat_lt (a / 64) l || (a / 64 == l)) = next_test (a / 64) l in
    rw (e, f, g, none, some, more) (block_bools (nat_lt b n) (nat_lt (b / 64) h) (b / 64 == h) (nat_lt (a / 64) l) (a / 64 == l) x _ _ y)
  where
    next_test : (i l : ℕ) → nat_lt i (l + 1) ≡ (nat_lt i l || (i == l))
    next_test i l = grind (arith, nat_tests)

    block_bools : (p q r s t x c d y : Bool) → (((p && (q || (r && s))) && x) || ((c && ((d && false) && y)) || ((r && t) && ((p && true) && x)))) ≡ ((p && (q || (r && (s || t)))) && x)
    block_bools p q r s t x c d y = grind arith

pub filled_more : (body : List ℕ) (n l h : ℕ) (words : List ℕ) {g new : PlainGraph} → IsBlock body n (64 * l) (64 * h) words → IsFilled body n h l g
    → IsWithBlock g (64 * h) (64 * l) words new → IsFilled body n h (l + 1) new
filled_more body n l h words {g} {new} is filled with_block = record {
  vertices = λ v. ap (λ s. set.contains s v) with_block.vertices ∙ filled.vertices v;
  graph = with_block.graph;
  pairs = λ a b up.
      with_block.edges a b
      ∙ block_more a b n h l _ _ _ _ _ up (filled.pairs a b up) (block_edge body n l h words is a b) (block_edge body n l h words is b a);
}

-- the blocks of 64 columns
pub filled_columns : (body : List ℕ) (n h l : ℕ) {g : PlainGraph} → l ≡ h + 1 → IsFilled body n h l g → IsFilled body n (h + 1) 0 g
filled_columns body n h l {g} all filled = record {
  vertices = filled.vertices;
  graph = filled.graph;
  pairs = λ a b up. filled.pairs a b up ∙ ap (λ t. (nat_lt b n && t) && (bit body (pair_number a b) == 1)) (columns_test (a / 64) (b / 64) h l all (omega arith));
}
  where
    columns_test : (i j h l : ℕ) → l ≡ h + 1 → i ≤ j → (nat_lt j h || ((j == h) && nat_lt i l)) ≡ (nat_lt j (h + 1) || ((j == h + 1) && nat_lt i 0))
    columns_test i j h l e le = grind (arith, nat_tests)

pub filled_none : (body : List ℕ) (n : ℕ) {g : PlainGraph} → IsEdgeless n g → IsFilled body n 0 0 g
filled_none body n {g} has = record {
  vertices = has.vertices;
  graph = has.graph;
  pairs = λ a b up. has.no_edge a b ∙ none_test (nat_lt b n) (b / 64) (a / 64) _;
}
  where
    none_test : (p : Bool) (j i : ℕ) (x : Bool) → false ≡ ((p && (nat_lt j 0 || ((j == 0) && nat_lt i 0))) && x)
    none_test p j i x = grind (arith, nat_tests)

pub filled_all : (body : List ℕ) (n h : ℕ) {g : PlainGraph} → (n + 63) / 64 ≤ h → IsFilled body n h 0 g → IsBodyOf body n g
filled_all body n h {g} all filled = record {
  vertices = filled.vertices;
  graph = filled.graph;
  edges = λ a b up inside.
      let below : nat_lt b n ≡ true = grind (arith, nat_tests) in
      let block_below : b / 64 < h = omega arith in
      let before : nat_lt (b / 64) h ≡ true = grind (arith, nat_tests) in
      filled.pairs a b up ∙ rw (below, before) refl;
}
