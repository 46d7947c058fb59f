-- The way through the pairs of a sparse6 line, and the graph that grows on it.
use Rattle.std.proofs.Common.{◌≡◌, ℕ, zero, suc, ◌+◌, ◌*◌, ◌/◌, ◌%◌, ◌^◌, ◌<◌, ◌≤◌, ◌==◌, ◌&&◌, ◌||◌, min, max, nat_lt, nat_le, Bool, true, false, List, length, refl, sym, ap, ◌∙◌, arith, inl, inr, lt-ltb}
use Rattle.std.specs.FinSet as set
use Rattle.std.proofs.Math.Nat.{mul-le-mul_right, le-mul_of_pos_right}
use Rattle.std.proofs.lemmas.Bool.{cases_Bool, cases_lt, cases_eq}
use Rattle.std.proofs.lemmas.Bool.Decides.{nat_tests}
use Rattle.md_graph.specs.Sets.{Has}
use Rattle.md_graph.specs.NameSet.{range}
use Rattle.md_graph.specs.PlainGraph.{PlainGraph, IsGraph, adjacent, with_edge, pairs_where}
use Rattle.md_graph.proofs.SetLaws.{same_set}
use Rattle.md_graph.proofs.PairLaws.{same_pairs}
use Rattle.md_graph.proofs.GraphLemmas.{contains-pairs_where, contains-edges, adjacent-with_edge, IsGraph-with_edge}
use Rattle.md_graph6.specs.Filled.{IsEdgeless}
use Rattle.md_graph6.specs.Sparse.{width, spelt_number, pair_number_at, step_of, other_end, reached, is_whole, some_pair, gives, gives_loop, is_pair_edge, has_loop, graph_of_pairs}
use Rattle.md_graph6.specs.Pairs.{IsAtPair, HasPairEdges, IsWithPair}
use Rattle.md_graph6.proofs.DecodeLemmas.{contains-numbers_below}

-- ---- from pair to pair

-- the first pair
pub at_first : (body : List ℕ) (k n at from vertex : ℕ) → at ≡ 0 → from ≡ 0 → vertex ≡ 0 → IsAtPair body k n 0 at from vertex
unfolding reached
at_first body k n at from vertex ea ef ev = record {
  place = omega arith;
  shift = omega arith;
  inside = omega arith;
  reached = omega arith;
}

-- what is read at a place is its pair
pub pair_read : {body : List ℕ} {k n p at from vertex : ℕ} (v other : ℕ) → IsAtPair body k n p at from vertex
    → v ≡ vertex + spelt_number body (6 * at + from) (k + 1) / 2 ^ k → other ≡ spelt_number body (6 * at + from) (k + 1) % 2 ^ k
    → (v ≡ min (reached body k p) n + step_of body k p) × (other ≡ other_end body k p)
pair_read {body} {k} {n} {p} {at} {from} {vertex} v other is ev eo =
    let e : spelt_number body (6 * at + from) (k + 1) ≡ pair_number_at body k p = ap (λ x. spelt_number body x (k + 1)) is.place in
    let step : spelt_number body (6 * at + from) (k + 1) / 2 ^ k ≡ step_of body k p = ap (λ x. x / 2 ^ k) e in
    (omega (arith, is.reached), eo ∙ ap (λ x. x % 2 ^ k) e)

row_next : (p k : ℕ) → (p + 1) * (k + 1) ≡ p * (k + 1) + (k + 1)
row_next p k = grind arith

-- whether its bits are all there
pub pair_whole : {body : List ℕ} {k n p at from vertex : ℕ} (b : Bool) → IsAtPair body k n p at from vertex
    → nat_le (6 * at + from + (k + 1)) (6 * length body) ≡ b → is_whole body k p ≡ b
pair_whole {body} {k} {n} {p} {at} {from} {vertex} b is test =
    let e : (p + 1) * (k + 1) ≡ 6 * at + from + (k + 1) = row_next p k ∙ omega (arith, is.place) in
    rw e test

capped : (r n s x v : ℕ) → v ≡ min r n + s → min (max v x) n ≡ min (max (r + s) x) n
capped r n s x v e = omega arith

inside_after : (at from bits at' from' most : ℕ) → nat_le (6 * at + from + bits) (6 * most) ≡ true → 6 * at' + from' ≡ 6 * at + from + bits → at' ≤ most
inside_after at from bits at' from' most whole is = let h : 6 * at + from + bits ≤ 6 * most = grind (arith, nat_tests) in omega arith

-- the next pair
pub at_next : {body : List ℕ} {k n p at from vertex : ℕ} (v other at' from' vertex' : ℕ) → IsAtPair body k n p at from vertex
    → nat_le (6 * at + from + (k + 1)) (6 * length body) ≡ true
    → v ≡ vertex + spelt_number body (6 * at + from) (k + 1) / 2 ^ k → other ≡ spelt_number body (6 * at + from) (k + 1) % 2 ^ k
    → from' < 6 → 6 * at' + from' ≡ 6 * at + from + (k + 1) → vertex' ≡ min (max v other) n
    → IsAtPair body k n (suc p) at' from' vertex'
unfolding reached
at_next {body} {k} {n} {p} {at} {from} {vertex} v other at' from' vertex' is whole ev eo small follows er =
    let read = pair_read v other is ev eo in
    record {
      place = follows ∙ (let row = row_next p k in omega (arith, is.place));
      shift = small;
      inside = inside_after at from (k + 1) at' from' (length body) whole follows;
      reached = er ∙ capped (reached body k p) n (step_of body k p) other v read.0 ∙ ap (λ x. min (max (reached body k p + step_of body k p) x) n) read.1;
    }

-- ---- some pair

-- pairs that don't pass the test change nothing
some_pair-past : (test : ℕ → Bool) (p more : ℕ) → ((q : ℕ) → p ≤ q → test q ≡ false) → some_pair test (p + more) ≡ some_pair test p
unfolding some_pair
some_pair-past test p zero none = let e : p + 0 ≡ p = omega arith in ap (some_pair test) e
some_pair-past test p (suc more) none =
    let up : p + suc more ≡ suc (p + more) = omega arith in
    let no : test (p + more) ≡ false = none (p + more) (omega arith) in
    ap (some_pair test) up ∙ ap (λ b. b || some_pair test (p + more)) no ∙ some_pair-past test p more none

whole_below : (body : List ℕ) (k q : ℕ) → is_whole body k q ≡ true → q < 6 * length body
whole_below body k q whole =
    let h : (q + 1) * (k + 1) ≤ 6 * length body = grind (arith, nat_tests) in
    let up : q + 1 ≤ (q + 1) * (k + 1) = le-mul_of_pos_right' (q + 1) (k + 1) (omega arith) in
    omega arith
  where
    le-mul_of_pos_right' : (n m : ℕ) → 0 < m → n ≤ n * m
    le-mul_of_pos_right' n m some = le-mul_of_pos_right n some

not_whole : (body : List ℕ) (k p q : ℕ) → is_whole body k p ≡ false → p ≤ q → is_whole body k q ≡ false
not_whole body k p q none up =
    let h : 6 * length body < (p + 1) * (k + 1) = grind (arith, nat_tests) in
    let wider : (p + 1) * (k + 1) ≤ (q + 1) * (k + 1) = mul-le-mul_right (k + 1) (omega (arith, up)) in
    let past : 6 * length body < (q + 1) * (k + 1) = omega arith in
    grind (arith, nat_tests)

no_pair : (body : List ℕ) (k q : ℕ) → 6 * length body ≤ q → is_whole body k q ≡ false
no_pair body k q past = elim (cases_Bool (is_whole body k q)) [
  | inl t ↦ let below = whole_below body k q t in absurd (omega arith)
  | inr f ↦ f
]

-- behind the last whole pair all pairs are looked at
pub some_pair-all : (body : List ℕ) (k p : ℕ) (test : ℕ → Bool) → ((q : ℕ) → is_whole body k q ≡ false → test q ≡ false)
    → is_whole body k p ≡ false → some_pair test (6 * length body) ≡ some_pair test p
some_pair-all body k p test needs end =
    let first : some_pair test (6 * length body + p) ≡ some_pair test (6 * length body) =
    some_pair-past test (6 * length body) p (λ q up. needs q (no_pair body k q up)) in
    let second : some_pair test (p + 6 * length body) ≡ some_pair test p =
    some_pair-past test p (6 * length body) (λ q up. needs q (not_whole body k p q end up)) in
    let e : 6 * length body + p ≡ p + 6 * length body = omega arith in
    sym first ∙ ap (some_pair test) e ∙ second

some_pair-there : (test : ℕ → Bool) (p count : ℕ) → test p ≡ true → p < count → some_pair test count ≡ true
unfolding some_pair
some_pair-there test p zero there below = absurd (omega (arith, below))
some_pair-there test p (suc count) there below = elim (cases_eq p count) [
  | inl same ↦ rw (← same) (rw there refl)
  | inr other ↦
      let later = some_pair-there test p count there (omega (arith, below, other)) in
      rw later (or_true (test count))
]
  where
    or_true : (b : Bool) → (b || true) ≡ true
    or_true b = grind arith

-- ---- loops

needs_whole : (w b : Bool) → w ≡ false → (w && b) ≡ false
needs_whole w b e = rw e refl

pub no_loop_yet : (body : List ℕ) (k n : ℕ) → some_pair (gives_loop body k n) 0 ≡ false
unfolding some_pair
no_loop_yet body k n = refl

loop_test : (r n s x v y : ℕ) → v ≡ min r n + s → x ≡ y → ((y == r + s) && nat_lt (r + s) n) ≡ ((x == v) && nat_lt v n)
loop_test r n s x v y ev ex = grind (arith, nat_tests)

-- a pair that is no loop
pub no_loop_more : {body : List ℕ} {k n p at from vertex : ℕ} (v other : ℕ) → IsAtPair body k n p at from vertex
    → v ≡ vertex + spelt_number body (6 * at + from) (k + 1) / 2 ^ k → other ≡ spelt_number body (6 * at + from) (k + 1) % 2 ^ k
    → ((other == v) && nat_lt v n) ≡ false → some_pair (gives_loop body k n) p ≡ false → some_pair (gives_loop body k n) (suc p) ≡ false
unfolding some_pair
no_loop_more {body} {k} {n} {p} {at} {from} {vertex} v other is ev eo none before =
    let read = pair_read v other is ev eo in
    let test = loop_test (reached body k p) n (step_of body k p) other v (other_end body k p) read.0 read.1 ∙ none in
    both (is_whole body k p) _ _ test before
  where
    both : (w a b : Bool) → a ≡ false → b ≡ false → ((w && a) || b) ≡ false
    both w a b ea eb = grind arith

-- a pair that is one
pub loop_found : {body : List ℕ} {k n p at from vertex : ℕ} (v other : ℕ) → IsAtPair body k n p at from vertex → k ≡ width n → 1 < n
    → nat_le (6 * at + from + (k + 1)) (6 * length body) ≡ true
    → v ≡ vertex + spelt_number body (6 * at + from) (k + 1) / 2 ^ k → other ≡ spelt_number body (6 * at + from) (k + 1) % 2 ^ k
    → ((other == v) && nat_lt v n) ≡ true → has_loop body n ≡ true
loop_found {body} {k} {n} {p} {at} {from} {vertex} v other is wide some whole ev eo found =
    let read = pair_read v other is ev eo in
    let there = pair_whole true is whole in
    let test = loop_test (reached body k p) n (step_of body k p) other v (other_end body k p) read.0 read.1 ∙ found in
    let one : gives_loop body k n p ≡ true = rw (there, test) refl in
    let all : some_pair (gives_loop body k n) (6 * length body) ≡ true =
    some_pair-there (gives_loop body k n) p (6 * length body) one (whole_below body k p there) in
    rw (lt-ltb 1 n some, ← wide, all) refl

pub loop_absent : {body : List ℕ} {k n p at from vertex : ℕ} → IsAtPair body k n p at from vertex → k ≡ width n
    → nat_le (6 * at + from + (k + 1)) (6 * length body) ≡ false → some_pair (gives_loop body k n) p ≡ false → has_loop body n ≡ false
loop_absent {body} {k} {n} {p} {at} {from} {vertex} is wide end none =
    let all : some_pair (gives_loop body k n) (6 * length body) ≡ false =
    some_pair-all body k p (gives_loop body k n) (λ q no. needs_whole _ _ no) (pair_whole false is end) ∙ none in
    rw (← wide, all) (and_false (nat_lt 1 n))
  where
    and_false : (b : Bool) → (b && false) ≡ false
    and_false b = grind arith

small_test : (n : ℕ) (b : Bool) → n < 2 → (nat_lt 1 n && b) ≡ false
small_test n b small = grind (arith, nat_tests)

pub loop_small : (body : List ℕ) (n : ℕ) → n < 2 → has_loop body n ≡ false
loop_small body n small = small_test n _ small

-- ---- the graph

-- a graph without edges has those of no pair
pub no_pairs : (body : List ℕ) (k : ℕ) {n : ℕ} {g : PlainGraph} → IsEdgeless n g → HasPairEdges body k n 0 g
unfolding some_pair
no_pairs body k {n} {g} has = record {
  vertices = has.vertices;
  graph = has.graph;
  pairs = λ a b up. has.no_edge a b ∙ none (nat_lt b n);
}
  where
    none : (b : Bool) → false ≡ (b && false)
    none b = grind arith

-- so does one of at most one vertex, whatever the pairs
pub no_pairs_small : (body : List ℕ) (k count : ℕ) {n : ℕ} {g : PlainGraph} → n ≤ 1 → IsEdgeless n g → HasPairEdges body k n count g
no_pairs_small body k count {n} {g} small has = record {
  vertices = has.vertices;
  graph = has.graph;
  pairs = λ a b up. has.no_edge a b ∙ none a b _ up;
}
  where
    none : (a b : ℕ) (t : Bool) → a < b → false ≡ (nat_lt b n && t)
    none a b t up = grind (arith, nat_tests)

same_pair : (a b n r s v x y : ℕ) (t : Bool) → v ≡ min r n + s → x ≡ y
    → ((nat_lt b n && ((x == a) && (v == b))) || (nat_lt b n && t)) ≡ (nat_lt b n && ((true && ((y == a) && (r + s == b))) || t))
same_pair a b n r s v x y t ev ex = grind (arith, nat_tests)

-- the edges of one pair more
pub pairs_more : {body : List ℕ} {k n p at from vertex : ℕ} {g new : PlainGraph} (v other : ℕ) → IsAtPair body k n p at from vertex
    → nat_le (6 * at + from + (k + 1)) (6 * length body) ≡ true
    → v ≡ vertex + spelt_number body (6 * at + from) (k + 1) / 2 ^ k → other ≡ spelt_number body (6 * at + from) (k + 1) % 2 ^ k
    → IsWithPair g n other v new → HasPairEdges body k n p g → HasPairEdges body k n (suc p) new
unfolding some_pair
pairs_more {body} {k} {n} {p} {at} {from} {vertex} {g} {new} v other is whole ev eo pair has =
    let read = pair_read v other is ev eo in
    let there = pair_whole true is whole in
    record {
      vertices = λ u. ap (λ s. set.contains s u) pair.vertices ∙ has.vertices u;
      graph = pair.graph;
      pairs = λ a b up.
          pair.pairs a b up
          ∙ rw (has.pairs a b up, there)
          (same_pair a b n (reached body k p) (step_of body k p) v other (other_end body k p) (some_pair (gives body k a b) p) read.0 read.1);
    }

pub pairs_all : {body : List ℕ} {k n p at from vertex : ℕ} {g : PlainGraph} → IsAtPair body k n p at from vertex → k ≡ width n
    → nat_le (6 * at + from + (k + 1)) (6 * length body) ≡ false → HasPairEdges body k n p g → HasPairEdges body (width n) n (6 * length body) g
pairs_all {body} {k} {n} {p} {at} {from} {vertex} {g} is wide end has = rw (← wide) (record {
  vertices = has.vertices;
  graph = has.graph;
  pairs = λ a b up.
      has.pairs a b up
      ∙ ap (λ t. nat_lt b n && t)
      (sym (some_pair-all body k p (gives body k a b) (λ q no. needs_whole _ _ no) (pair_whole false is end)));
})

-- the graph that has the edges of all pairs is the one that they spell
pub pairs_graph : {body : List ℕ} {n : ℕ} {g : PlainGraph} → HasPairEdges body (width n) n (6 * length body) g → g ≡ graph_of_pairs body n
unfolding graph_of_pairs
pairs_graph {body} {n} {g} has =
    let vertices : g.vertices ≡ range 0 n = same_set g.vertices (range 0 n) (λ v. has.vertices v ∙ sym (contains-numbers_below n v)) in
    let edges : g.edges ≡ pairs_where (is_pair_edge body n) n =
    same_pairs g.edges (pairs_where (is_pair_edge body n) n) (λ u v.
    contains-edges has.graph u v ∙ one_edge u v ∙ sym (contains-pairs_where (is_pair_edge body n) n u v)) in
    λ i. record { vertices = vertices i; edges = edges i }
  where
    down : (u v : ℕ) (a b c : Bool) → v ≤ u → (nat_lt u v && a) ≡ ((nat_lt u v && b) && c)
    down u v a b c h = grind (arith, nat_tests)

    up_test : (a b c : Bool) → (a && (b && c)) ≡ ((a && b) && c)
    up_test a b c = grind arith

    one_edge : (u v : ℕ) → (nat_lt u v && adjacent g u v) ≡ ((nat_lt u v && nat_lt v n) && is_pair_edge body n u v)
    one_edge u v = elim (cases_lt u v) [
      | inl up ↦ rw (has.pairs u v up) (up_test (nat_lt u v) (nat_lt v n) (is_pair_edge body n u v))
      | inr h ↦ down u v _ _ _ h
    ]

-- ---- one pair

pub pair_added : {g new : PlainGraph} {n : ℕ} (other vertex : ℕ) → IsGraph g → other < vertex → vertex < n
    → Has g.vertices other → Has g.vertices vertex → new ≡ with_edge g other vertex → IsWithPair g n other vertex new
pair_added {g} {new} {n} other vertex is up inside one two e = rw e (record {
  vertices = refl;
  graph = IsGraph-with_edge is other vertex one two (λ same. absurd (omega arith));
  pairs = λ a b less. adjacent-with_edge g other vertex a b ∙ edge_test a b less (adjacent g a b);
})
  where
    edge_test : (a b : ℕ) → a < b → (t : Bool) → ((((a == other) && (b == vertex)) || ((a == vertex) && (b == other))) || t) ≡ ((nat_lt b n && ((other == a) && (vertex == b))) || t)
    edge_test a b less t = grind (arith, nat_tests)
