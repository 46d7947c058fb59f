-- The directed graph that a body spells: there is one, and it is the one that is decoded.
use Rattle.std.proofs.Common.{◌≡◌, ℕ, zero, suc, ◌+◌, ◌<◌, ◌≤◌, ◌&&◌, Bool, true, false, nat_lt, List, inl, inr, refl, sym, ap, ◌∙◌, arith, ltb-true, add-one}
use Rattle.std.specs.FinSet as set
use Rattle.std.proofs.lemmas.Bool.{cases_Bool, cases_lt, lt-ltb, true≢false, and_parts, or_parts, false_from_ne_true}
use Rattle.md_graph.proofs.SetLaws.{same_set}
use Rattle.md_digraph.specs.declared.TheConstants.{DIRECTED_NAMES}
use Rattle.md_digraph.specs.PlainDigraph.{PlainDigraph, has_arc_to}
use Rattle.md_digraph.proofs.DigraphLemmas.{contains-arcs_where, same_digraph}
use Rattle.md_graph6.proofs.DecodeLemmas.{contains-numbers_below}
use Rattle.md_digraph6.specs.ArcLine.{is_arc, IsArcBodyOf, some_loop, digraph_of_body}

-- ---- loops

pub no_loop_at : (body : List ℕ) (n count : ℕ) → some_loop body n count ≡ false → (i : ℕ) → i < count → is_arc body n i i ≡ false
unfolding some_loop
no_loop_at body n zero none i below = absurd (omega (arith, below))
no_loop_at body n (suc count) none i below =
    let parts = or_parts (is_arc body n count count) (some_loop body n count) none in
    elim (cases_lt i count) [
      | inl less ↦ no_loop_at body n count parts.1 i less
      | inr more ↦ let same : i ≡ count = omega (arith, below, more) in ap (λ k. is_arc body n k k) same ∙ parts.0
    ]

-- one more bit is looked at
pub loop_none_more : (body : List ℕ) (n i : ℕ) → some_loop body n i ≡ false → is_arc body n i i ≡ false → some_loop body n (i + 1) ≡ false
unfolding some_loop
loop_none_more body n i before here = ap (some_loop body n) (add-one i) ∙ rw here before

-- a bit that is 1
pub loop_found : (body : List ℕ) (n count i : ℕ) → i < count → is_arc body n i i ≡ true → some_loop body n count ≡ true
loop_found body n count i below there = elim (cases_Bool (some_loop body n count)) [
  | inl loop ↦ loop
  | inr none ↦ absurd (true≢false (sym there ∙ no_loop_at body n count none i below))
]

pub none_is_loop : (body : List ℕ) (n count : ℕ) → ((i : ℕ) → i < count → is_arc body n i i ≡ false) → some_loop body n count ≡ false
unfolding some_loop
none_is_loop body n zero none = refl
none_is_loop body n (suc count) none =
    rw (none count (omega arith)) (none_is_loop body n count (λ i below. none i (omega (arith, below))))

-- ---- the arcs of the numbers below n

-- an arc of a directed graph on the numbers below n whose bit is 1
abbrev ArcsAreBits : List ℕ → ℕ → PlainDigraph → Type 0
ArcsAreBits body n g = (u v : ℕ) → has_arc_to g u v ≡ ((nat_lt u n && nat_lt v n) && is_arc body n u v)

arc_parts : (u v n : ℕ) (b : Bool) → ((nat_lt u n && nat_lt v n) && b) ≡ true → (u < n) × (v < n) × (b ≡ true)
arc_parts u v n b e =
    let parts = and_parts (nat_lt u n && nat_lt v n) b e in
    let ends = and_parts (nat_lt u n) (nat_lt v n) parts.0 in
    (ltb-true u n ends.0, ltb-true v n ends.1, parts.1)

-- they are a body's directed graph where no bit of a number with itself is 1
pub bits_are_body : (body : List ℕ) (n : ℕ) (g : PlainDigraph) → n ≤ DIRECTED_NAMES → some_loop body n n ≡ false
    → ((v : ℕ) → set.contains g.vertices v ≡ nat_lt v n) → ArcsAreBits body n g → IsArcBodyOf body n g
bits_are_body body n g few none vertices arcs = record {
  vertices = vertices;
  digraph = record {
    names = λ v member. omega (arith, few, ltb-true v n (sym (vertices v) ∙ member));
    differ = λ u v there same.
        let p = parts u v there in
        true≢false (sym p.2 ∙ ap (is_arc body n u) (sym same) ∙ no_loop_at body n n none u p.0);
    tail = λ u v there. vertices u ∙ lt-ltb u n (parts u v there).0;
    head = λ u v there. vertices v ∙ lt-ltb v n (parts u v there).1;
  };
  arcs = λ i j low high. arcs i j ∙ rw (lt-ltb i n low, lt-ltb j n high) refl;
}
  where
    parts : (u v : ℕ) → has_arc_to g u v ≡ true → (u < n) × (v < n) × (is_arc body n u v ≡ true)
    parts u v there = arc_parts u v n (is_arc body n u v) (sym (arcs u v) ∙ there)

-- what is decoded
pub decoded_is_arc_body : (body : List ℕ) (n : ℕ) → n ≤ DIRECTED_NAMES → some_loop body n n ≡ false → IsArcBodyOf body n (digraph_of_body body n)
unfolding digraph_of_body has_arc_to
decoded_is_arc_body body n few none =
    bits_are_body body n (digraph_of_body body n) few none (contains-numbers_below n) (contains-arcs_where (is_arc body n) n n)

-- the vertices of what is decoded
pub decoded_vertices : (body : List ℕ) (n v : ℕ) → set.contains (digraph_of_body body n).vertices v ≡ nat_lt v n
unfolding digraph_of_body
decoded_vertices body n v = contains-numbers_below n v

-- no bit of a number with itself is 1 in a body that spells a directed graph
pub body_has_no_loop : (body : List ℕ) (n : ℕ) (g : PlainDigraph) → IsArcBodyOf body n g → some_loop body n n ≡ false
body_has_no_loop body n g is = none_is_loop body n n (λ i below.
    sym (is.arcs i i below below) ∙ false_from_ne_true (has_arc_to g i i) (λ there. is.digraph.differ i i there refl))

-- a body spells one directed graph
arc_of_body : (body : List ℕ) (n : ℕ) (g h : PlainDigraph) → IsArcBodyOf body n g → IsArcBodyOf body n h → (u v : ℕ)
    → has_arc_to g u v ≡ true → has_arc_to h u v ≡ true
arc_of_body body n g h of_g of_h u v there =
    let low : u < n = ltb-true u n (sym (of_g.vertices u) ∙ of_g.digraph.tail u v there) in
    let high : v < n = ltb-true v n (sym (of_g.vertices v) ∙ of_g.digraph.head u v there) in
    of_h.arcs u v low high ∙ sym (of_g.arcs u v low high) ∙ there

both_ways : (a b : Bool) → (a ≡ true → b ≡ true) → (b ≡ true → a ≡ true) → a ≡ b
both_ways true b there back = sym (there refl)
both_ways false true there back = back refl
both_ways false false there back = refl

pub arc_body-one : (body : List ℕ) (n : ℕ) (g h : PlainDigraph) → IsArcBodyOf body n g → IsArcBodyOf body n h → g ≡ h
arc_body-one body n g h of_g of_h =
    same_digraph {g = g} {h = h}
    (same_set g.vertices h.vertices (λ v. of_g.vertices v ∙ sym (of_h.vertices v)))
    (λ u v. both_ways (has_arc_to g u v) (has_arc_to h u v) (arc_of_body body n g h of_g of_h u v) (arc_of_body body n h g of_h of_g u v))
