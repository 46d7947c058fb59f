-- Facts of directed graphs that callers may cite.
use Rattle.std.specs.Prelude.{◌≡◌, ℕ, zero, suc, ◌<◌, ◌≤◌, ◌≢◌, Bool, true, false, ◌&&◌, ◌||◌, ◌==◌, ◌⊎◌, nat_lt, List, length, refl}
use Rattle.std.proofs.Common.{ap, sym, ◌∙◌, arith, inl, inr}
use Rattle.std.proofs.lemmas.Bool.{true≢false, cases_Bool, and_parts, or_cases, eqb-true, false_from_ne_true}
use Rattle.std.proofs.lemmas.Bool.Decides.{nat_tests}
use Rattle.std.specs.FinSet as set
use Rattle.md_graph.specs.Sets.{NameSet, Has}
use Rattle.md_graph.specs.NameSet.{AllBelow}
use Rattle.md_graph.specs.Rows.{row_of}
use Rattle.md_graph.proofs.SetLaws.{contains-empty, contains-insert, contains-retain}
use Rattle.md_graph.proofs.SetLemmas.{insert_old}
use Rattle.md_graph.proofs.PairLaws.{pairs-empty, pairs-insert, same_pairs}
use Rattle.md_graph.proofs.GraphLemmas.{contains-pairs_at}
use Rattle.md_digraph.specs.declared.TheConstants.{DIRECTED_NAMES}
use Rattle.md_digraph.specs.PlainDigraph.{PlainDigraph, has_arc_to, successors, predecessors, IsDigraph, empty_digraph, digraph_with_vertex, with_arc}
use Rattle.md_digraph.specs.ArcRows.{arcs_where, arcs_of, digraph_of, AreArcRows}

-- ---- the pairs for which a test is true

pub contains-arcs_where : (test : ℕ → ℕ → Bool) (bound n u v : ℕ) → set.contains (arcs_where test bound n) (u, v) ≡ ((nat_lt u bound && nat_lt v n) && test u v)
unfolding arcs_where
contains-arcs_where test bound zero u v = rw (pairs-empty u v) (grind (arith, nat_tests))
contains-arcs_where test bound (suc n) u v =
    rw (contains-pairs_at test (arcs_where test bound n) n bound u v, contains-arcs_where test bound n u v) (grind (arith, nat_tests))

-- ---- arcs and rows

pub contains-successors : {g : PlainDigraph} → IsDigraph g → (v u : ℕ) → set.contains (successors g v) u ≡ has_arc_to g v u
unfolding successors
contains-successors {g} is v u =
    contains-retain g.vertices (has_arc_to g v) u
    ∙ elim (cases_Bool (has_arc_to g v u)) [
      | inl t ↦ let member : set.contains g.vertices u ≡ true = is.head v u t in grind (arith)
      | inr f ↦ grind (arith)
    ]

pub contains-predecessors : {g : PlainDigraph} → IsDigraph g → (v u : ℕ) → set.contains (predecessors g v) u ≡ has_arc_to g u v
unfolding predecessors
contains-predecessors {g} is v u =
    contains-retain g.vertices (λ w. has_arc_to g w v) u
    ∙ elim (cases_Bool (has_arc_to g u v)) [
      | inl t ↦ let member : set.contains g.vertices u ≡ true = is.tail u v t in grind (arith)
      | inr f ↦ grind (arith)
    ]

-- the rows of a vertex tell its arcs
pub in_heads : {g : PlainDigraph} → IsDigraph g → (v : ℕ) (out : NameSet) → out ≡ successors g v → (u : ℕ) → set.contains out u ≡ has_arc_to g v u
in_heads digraph v out is u = ap (λ s. set.contains s u) is ∙ contains-successors digraph v u

pub in_tails : {g : PlainDigraph} → IsDigraph g → (v : ℕ) (into : NameSet) → into ≡ predecessors g v → (u : ℕ) → set.contains into u ≡ has_arc_to g u v
in_tails digraph v into is u = ap (λ s. set.contains s u) is ∙ contains-predecessors digraph v u

-- two directed graphs with the same vertices and the same arcs are equal
pub same_digraph : {g h : PlainDigraph} → g.vertices ≡ h.vertices → ((u v : ℕ) → has_arc_to g u v ≡ has_arc_to h u v) → g ≡ h
unfolding has_arc_to
same_digraph {g} {h} ev ea =
    let ee : g.arcs ≡ h.arcs = same_pairs g.arcs h.arcs ea in
    λ i. record { vertices = ev i; arcs = ee i }

-- ---- the directed graph that rows keep

arc_in_rows : (live : NameSet) (out : List NameSet) (u v : ℕ) → has_arc_to (digraph_of live out) u v ≡ ((nat_lt u DIRECTED_NAMES && nat_lt v DIRECTED_NAMES) && set.contains (row_of out u) v)
unfolding has_arc_to arcs_of
arc_in_rows live out u v = contains-arcs_where (λ u v. set.contains (row_of out u) v) DIRECTED_NAMES DIRECTED_NAMES u v

pub has_arc_to-digraph_of : {limit : ℕ} {live : NameSet} {out into : List NameSet} → AreArcRows limit live out into → (u v : ℕ) → has_arc_to (digraph_of live out) u v ≡ set.contains (row_of out u) v
has_arc_to-digraph_of {limit} {live} {out} a u v =
    arc_in_rows live out u v
    ∙ elim (cases_Bool (set.contains (row_of out u) v)) [
      | inl t ↦ let tail = a.names u (a.tail u v t) in let head = a.names v (a.head u v t) in let few = a.few in grind (arith, nat_tests)
      | inr f ↦ grind (arith, nat_tests)
    ]

pub IsDigraph-digraph_of : {limit : ℕ} {live : NameSet} {out into : List NameSet} → AreArcRows limit live out into → IsDigraph (digraph_of live out)
IsDigraph-digraph_of {limit} {live} {out} a = record {
  names = λ v m. let name = a.names v m in let few = a.few in omega arith;
  differ = λ u v h same. true≢false (sym h ∙ has_arc_to-digraph_of a u v ∙ ap (λ w. set.contains (row_of out w) v) same ∙ a.no_loop v);
  tail = λ u v h. a.tail u v (sym (has_arc_to-digraph_of a u v) ∙ h);
  head = λ u v h. a.head u v (sym (has_arc_to-digraph_of a u v) ∙ h);
}

-- rows that hold the arcs of a directed graph are its rows
pub rows_of_digraph : {limit : ℕ} {live : NameSet} {out into : List NameSet} {g : PlainDigraph} → IsDigraph g → AllBelow g.vertices limit → limit ≤ DIRECTED_NAMES → live ≡ g.vertices → length out ≡ limit → length into ≡ limit → ((u v : ℕ) → set.contains (row_of out u) v ≡ has_arc_to g u v) → ((u v : ℕ) → set.contains (row_of into v) u ≡ has_arc_to g u v) → AreArcRows limit live out into × (digraph_of live out ≡ g)
rows_of_digraph {limit} {live} {out} {into} {g} is below few ev n_out n_into law_out law_into =
    let member = λ (u : ℕ). ap (λ s. set.contains s u) ev in
    let a : AreArcRows limit live out into = record {
      out_each = n_out;
      into_each = n_into;
      few = few;
      both_ways = λ u v. law_out u v ∙ sym (law_into u v);
      no_loop = λ v. law_out v v ∙ false_from_ne_true _ (λ h. is.differ v v h refl);
      tail = λ u v h. member u ∙ is.tail u v (sym (law_out u v) ∙ h);
      head = λ u v h. member v ∙ is.head u v (sym (law_out u v) ∙ h);
      names = λ v h. below v (sym (member v) ∙ h);
    } in
    (a, same_digraph ev (λ u v. has_arc_to-digraph_of a u v ∙ law_out u v))

-- ---- operations

pub has_arc_to-empty_digraph : (u v : ℕ) → has_arc_to empty_digraph u v ≡ false
unfolding has_arc_to
has_arc_to-empty_digraph u v = pairs-empty u v

pub IsDigraph-empty_digraph : IsDigraph empty_digraph
IsDigraph-empty_digraph = record {
  names = λ v m. absurd (true≢false (sym m ∙ contains-empty v));
  differ = λ u v h. absurd (true≢false (sym h ∙ has_arc_to-empty_digraph u v));
  tail = λ u v h. absurd (true≢false (sym h ∙ has_arc_to-empty_digraph u v));
  head = λ u v h. absurd (true≢false (sym h ∙ has_arc_to-empty_digraph u v));
}

-- a directed graph without vertices is the empty one
pub empty_without_vertices : (g : PlainDigraph) → IsDigraph g → g.vertices ≡ set.empty → g ≡ empty_digraph
empty_without_vertices g is none =
    same_digraph {g = g} {h = empty_digraph} none (λ u v.
    false_from_ne_true _ (λ h. true≢false (sym (is.tail u v h) ∙ ap (λ s. set.contains s u) none ∙ contains-empty u)) ∙ sym (has_arc_to-empty_digraph u v))

pub has_arc_to-with_vertex : (g : PlainDigraph) (w u v : ℕ) → has_arc_to (digraph_with_vertex g w) u v ≡ has_arc_to g u v
unfolding has_arc_to
has_arc_to-with_vertex g w u v = refl

pub IsDigraph-with_vertex : {g : PlainDigraph} → IsDigraph g → (w : ℕ) → w < DIRECTED_NAMES → IsDigraph (digraph_with_vertex g w)
unfolding has_arc_to
IsDigraph-with_vertex {g} is w name = record {
  names = λ v m. elim (or_cases (v == w) (set.contains g.vertices v) (sym (contains-insert g.vertices w v) ∙ m)) [
    | inl same ↦ let e : v ≡ w = eqb-true v w same in omega arith
    | inr old ↦ is.names v old
  ];
  differ = is.differ;
  tail = λ u v h. insert_old g.vertices w u (is.tail u v h);
  head = λ u v h. insert_old g.vertices w v (is.head u v h);
}

pub has_arc_to-with_arc : (g : PlainDigraph) (a b u v : ℕ) → has_arc_to (with_arc g a b) u v ≡ (((u == a) && (v == b)) || has_arc_to g u v)
unfolding has_arc_to
has_arc_to-with_arc g a b u v = pairs-insert g.arcs a b u v

pub IsDigraph-with_arc : {g : PlainDigraph} → IsDigraph g → (a b : ℕ) → Has g.vertices a → Has g.vertices b → a ≢ b → IsDigraph (with_arc g a b)
IsDigraph-with_arc {g} is a b ma mb apart = record {
  names = is.names;
  differ = λ u v h. elim (parts u v h) [ inl new ↦ (λ e. apart (sym new.0 ∙ e ∙ new.1)) | inr old ↦ is.differ u v old ];
  tail = λ u v h. elim (parts u v h) [ inl new ↦ ap (set.contains g.vertices) new.0 ∙ ma | inr old ↦ is.tail u v old ];
  head = λ u v h. elim (parts u v h) [ inl new ↦ ap (set.contains g.vertices) new.1 ∙ mb | inr old ↦ is.head u v old ];
} where
  parts : (u v : ℕ) → has_arc_to (with_arc g a b) u v ≡ true → ((u ≡ a) × (v ≡ b)) ⊎ (has_arc_to g u v ≡ true)
  parts u v h = elim (or_cases ((u == a) && (v == b)) (has_arc_to g u v) (sym (has_arc_to-with_arc g a b u v) ∙ h)) [
    | inl new ↦ let two = and_parts (u == a) (v == b) new in inl (eqb-true u a two.0, eqb-true v b two.1)
    | inr old ↦ inr old
  ]
