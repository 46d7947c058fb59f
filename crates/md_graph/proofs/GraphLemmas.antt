-- Facts of graphs that callers may cite.
use Rattle.std.specs.Prelude.{◌≡◌, ℕ, zero, suc, ◌+◌, ◌<◌, ◌≤◌, ◌≢◌, min, max, Bool, true, false, not, ◌&&◌, ◌||◌, ◌==◌, nat_lt, nat_le, List, [], ◌∷◌, ◌++◌, map, length, refl}
use Rattle.std.proofs.Common.{subst, ap, sym, ◌∙◌, arith, inl, inr}
use Rattle.std.proofs.lemmas.Bool.{true≢false, or_left, or_right, cases_Bool, cases_lt, cases_order, and_parts, and_from, or_cases, le-leb, ltb-true, eqb-true, false_from_ne_true}
use Rattle.std.proofs.lemmas.Bool.Decides.{nat_tests}
use Rattle.std.proofs.lemmas.List.{map-append, append-nil}
use Rattle.std.specs.FinSet as set
use Rattle.md_graph.specs.declared.TheConstants.{NAMES}
use Rattle.md_graph.specs.Sets.{NameSet, Has}
use Rattle.md_graph.specs.NameSet.{AllBelow, ascending, ascending_between, range}
use Rattle.md_graph.specs.PlainGraph.{PairSet, PlainGraph, IsGraph, pairs_at, pairs_where, edge, adjacent, neighbours, empty_graph, with_vertex, with_range, with_edge, star, with_edges, complement, induced, without_vertex, without_edge}
use Rattle.md_graph.specs.Rows.{row_of, edges_of, graph_of, AreRows}
use Rattle.md_graph.proofs.SetLaws.{contains-empty, contains-insert, contains-remove, contains-union, contains-intersection, contains-retain, same_set}
use Rattle.md_graph.proofs.Ranges.{contains-range}
use Rattle.md_graph.proofs.PairLaws.{pairs-empty, pairs-insert, pairs-remove, pairs-union, pairs-retain, pairs-from_list_push, same_pairs}

-- ---- the pairs for which a test is true

pub contains-pairs_at : (test : ℕ → ℕ → Bool) (start : PairSet) (w n u v : ℕ) → set.contains (pairs_at test start w n) (u, v) ≡ ((((v == w) && nat_lt u n) && test u v) || set.contains start (u, v))
unfolding pairs_at
contains-pairs_at test start w zero u v = grind (arith, nat_tests)
contains-pairs_at test start w (suc n) u v =
    elim (cases_Bool (test n w)) [
      | inl t ↦ rw (t, pairs-insert _ n w u v, contains-pairs_at test start w n u v) (grind (arith, nat_tests, t))
      | inr f ↦ rw (f, contains-pairs_at test start w n u v) (grind (arith, nat_tests, f))
    ]

pub contains-pairs_where : (test : ℕ → ℕ → Bool) (n u v : ℕ) → set.contains (pairs_where test n) (u, v) ≡ ((nat_lt u v && nat_lt v n) && test u v)
unfolding pairs_where
contains-pairs_where test zero u v = rw (pairs-empty u v) (grind (arith, nat_tests))
contains-pairs_where test (suc n) u v =
    rw (contains-pairs_at test (pairs_where test n) n n u v, contains-pairs_where test n u v) (grind (arith, nat_tests))

-- ---- edges and adjacency

-- between u and v runs the edge that runs between a and b
same_edge : (a b u v : ℕ) → ((min a b == min u v) && (max a b == max u v)) ≡ (((a == u) && (b == v)) || ((a == v) && (b == u)))
same_edge a b u v = grind (arith, nat_tests)

edge_sym : (u v : ℕ) → edge u v ≡ edge v u
edge_sym u v =
    let low : min u v ≡ min v u = omega arith in
    let high : max u v ≡ max v u = omega arith in
    λ i. (low i, high i)

edge_up : (u v : ℕ) → u < v → edge u v ≡ (u, v)
edge_up u v h =
    let low : min u v ≡ u = omega arith in
    let high : max u v ≡ v = omega arith in
    λ i. (low i, high i)

pub adjacent_sym : (g : PlainGraph) (u v : ℕ) → adjacent g u v ≡ adjacent g v u
unfolding adjacent
adjacent_sym g u v = ap (set.contains g.edges) (edge_sym u v)

pub adjacent_up : (g : PlainGraph) (u v : ℕ) → u < v → adjacent g u v ≡ set.contains g.edges (u, v)
unfolding adjacent
adjacent_up g u v h = ap (set.contains g.edges) (edge_up u v h)

adjacent_ordered : {g : PlainGraph} → IsGraph g → (u v : ℕ) → adjacent g u v ≡ true → min u v < max u v
unfolding adjacent
adjacent_ordered is u v h = is.ordered (min u v) (max u v) h

-- the ends of an edge are vertices and differ
pub adjacent_ends : {g : PlainGraph} → IsGraph g → (u v : ℕ) → adjacent g u v ≡ true → Has g.vertices u × Has g.vertices v × (u ≢ v)
adjacent_ends {g} is u v h =
    let ordered = adjacent_ordered is u v h in
    elim (cases_order u v) [
      | inl same ↦ absurd (omega arith)
      | inr (inl up) ↦ let k = sym (adjacent_up g u v up) ∙ h in (is.low_end u v k, is.high_end u v k, λ e. omega arith)
      | inr (inr down) ↦ let k = sym (adjacent_up g v u down) ∙ adjacent_sym g v u ∙ h in (is.high_end v u k, is.low_end v u k, λ e. omega arith)
    ]

pub adjacent_self : {g : PlainGraph} → IsGraph g → (v : ℕ) → adjacent g v v ≡ false
adjacent_self is v = false_from_ne_true _ (λ h. let ordered = adjacent_ordered is v v h in omega arith)

pub contains-edges : {g : PlainGraph} → IsGraph g → (u v : ℕ) → set.contains g.edges (u, v) ≡ (nat_lt u v && adjacent g u v)
contains-edges {g} is u v =
    elim (cases_lt u v) [
      | inl up ↦ let e = adjacent_up g u v up in grind (arith, nat_tests)
      | inr down ↦ let e = false_from_ne_true (set.contains g.edges (u, v)) (λ h. let ordered = is.ordered u v h in omega arith) in grind (arith, nat_tests)
    ]

pub contains-neighbours : {g : PlainGraph} → IsGraph g → (v u : ℕ) → set.contains (neighbours g v) u ≡ adjacent g v u
unfolding neighbours
contains-neighbours {g} is v u =
    contains-retain g.vertices (adjacent g v) u
    ∙ elim (cases_Bool (adjacent g v u)) [
      | inl t ↦ let member : set.contains g.vertices u ≡ true = (adjacent_ends is v u t).1 in grind (arith)
      | inr f ↦ grind (arith)
    ]

-- two graphs with the same vertices and the same adjacency are equal
pub same_graph : {g h : PlainGraph} → IsGraph g → IsGraph h → g.vertices ≡ h.vertices → ((u v : ℕ) → adjacent g u v ≡ adjacent h u v) → g ≡ h
same_graph {g} {h} is_g is_h ev ea =
    let ee : g.edges ≡ h.edges = same_pairs g.edges h.edges (λ u v. contains-edges is_g u v ∙ ap (λ b. nat_lt u v && b) (ea u v) ∙ sym (contains-edges is_h u v)) in
    λ i. record { vertices = ev i; edges = ee i }

-- ---- the graph that rows keep

contains-edges_of : (rows : List NameSet) (u v : ℕ) → set.contains (edges_of rows) (u, v) ≡ ((nat_lt u v && nat_lt v NAMES) && set.contains (row_of rows v) u)
unfolding edges_of
contains-edges_of rows u v = contains-pairs_where (λ u v. set.contains (row_of rows v) u) NAMES u v

edge_parts : (rows : List NameSet) (u v : ℕ) → set.contains (edges_of rows) (u, v) ≡ true → (nat_lt u v ≡ true) × (set.contains (row_of rows v) u ≡ true)
edge_parts rows u v h =
    let parts = and_parts _ _ (sym (contains-edges_of rows u v) ∙ h) in
    ((and_parts _ _ parts.0).0, parts.1)

pub IsGraph-graph_of : {limit : ℕ} {live : NameSet} {rows : List NameSet} → AreRows limit live rows → IsGraph (graph_of live rows)
IsGraph-graph_of {limit} {live} {rows} a = record {
  names = λ v m. let name = a.names v m in let few = a.few in omega arith;
  ordered = λ u v h. ltb-true u v (edge_parts rows u v h).0;
  low_end = λ u v h. a.inside v u (edge_parts rows u v h).1;
  high_end = λ u v h. a.inside u v (a.both_ways u v ∙ (edge_parts rows u v h).1);
}

adjacent_by_row : {limit : ℕ} {live : NameSet} {rows : List NameSet} → AreRows limit live rows → (u v : ℕ) → u < v → adjacent (graph_of live rows) u v ≡ set.contains (row_of rows v) u
adjacent_by_row {limit} {live} {rows} a u v up =
    adjacent_up (graph_of live rows) u v up
    ∙ contains-edges_of rows u v
    ∙ elim (cases_Bool (set.contains (row_of rows v) u)) [
      | inl t ↦ let name = a.names v (a.inside u v (a.both_ways u v ∙ t)) in let few = a.few in grind (arith, nat_tests)
      | inr f ↦ grind (arith, nat_tests)
    ]

pub adjacent-graph_of : {limit : ℕ} {live : NameSet} {rows : List NameSet} → AreRows limit live rows → (u v : ℕ) → adjacent (graph_of live rows) u v ≡ set.contains (row_of rows u) v
adjacent-graph_of {limit} {live} {rows} a u v =
    elim (cases_order u v) [
      | inl same ↦ rw (same, a.no_loop v) (adjacent_self (IsGraph-graph_of a) v)
      | inr (inl up) ↦ adjacent_by_row a u v up ∙ a.both_ways v u
      | inr (inr down) ↦ adjacent_sym (graph_of live rows) u v ∙ adjacent_by_row a v u down
    ]

pub neighbours-graph_of : {limit : ℕ} {live : NameSet} {rows : List NameSet} → AreRows limit live rows → (v : ℕ) → neighbours (graph_of live rows) v ≡ row_of rows v
neighbours-graph_of {limit} {live} {rows} a v =
    same_set _ _ (λ u. contains-neighbours (IsGraph-graph_of a) v u ∙ adjacent-graph_of a v u)

-- rows that hold what is adjacent in a graph are its rows
pub rows_of_graph : {limit : ℕ} {live : NameSet} {rows : List NameSet} {g : PlainGraph} → IsGraph g → AllBelow g.vertices limit → limit ≤ NAMES → live ≡ g.vertices → length rows ≡ limit → ((u v : ℕ) → set.contains (row_of rows u) v ≡ adjacent g u v) → AreRows limit live rows × (graph_of live rows ≡ g)
rows_of_graph {limit} {live} {rows} {g} is below few ev n law =
    let member = λ (u : ℕ). ap (λ s. set.contains s u) ev in
    let a : AreRows limit live rows = record {
      one_each = n;
      few = few;
      both_ways = λ u v. law u v ∙ adjacent_sym g u v ∙ sym (law v u);
      no_loop = λ v. law v v ∙ adjacent_self is v;
      inside = λ u v h. member v ∙ (adjacent_ends is u v (sym (law u v) ∙ h)).1;
      names = λ v h. below v (sym (member v) ∙ h);
    } in
    (a, same_graph (IsGraph-graph_of a) is ev (λ u v. adjacent-graph_of a u v ∙ law u v))

-- ---- operations

IsGraph_by : {g : PlainGraph} → ((v : ℕ) → Has g.vertices v → v < NAMES) → ((u v : ℕ) → set.contains g.edges (u, v) ≡ true → (u < v) × Has g.vertices u × Has g.vertices v) → IsGraph g
IsGraph_by below ends = record {
  names = below;
  ordered = λ u v h. (ends u v h).0;
  low_end = λ u v h. (ends u v h).1;
  high_end = λ u v h. (ends u v h).2;
}

graph_ends : {g : PlainGraph} → IsGraph g → (u v : ℕ) → set.contains g.edges (u, v) ≡ true → (u < v) × Has g.vertices u × Has g.vertices v
graph_ends is u v h = (is.ordered u v h, is.low_end u v h, is.high_end u v h)

pub IsGraph-empty_graph : IsGraph empty_graph
IsGraph-empty_graph =
    IsGraph_by (λ v h. absurd (true≢false (sym h ∙ contains-empty v))) (λ u v h. absurd (true≢false (sym h ∙ pairs-empty u v)))

pub adjacent-empty_graph : (u v : ℕ) → adjacent empty_graph u v ≡ false
unfolding adjacent
adjacent-empty_graph u v = pairs-empty (min u v) (max u v)

-- a graph without edges
pub adjacent-without_edges : (s : NameSet) (u v : ℕ) → adjacent (record { vertices = s; edges = set.empty }) u v ≡ false
unfolding adjacent
adjacent-without_edges s u v = pairs-empty (min u v) (max u v)

pub IsGraph-without_edges : (s : NameSet) → AllBelow s NAMES → IsGraph (record { vertices = s; edges = set.empty })
IsGraph-without_edges s names = IsGraph_by names (λ u v h. absurd (true≢false (sym h ∙ pairs-empty u v)))

there_already : (same there : Bool) → (same ≡ true → there ≡ true) → there ≡ (same || there)
there_already true there h = h refl
there_already false there h = refl

-- an edge that is there stays alone
pub with_edge_there : (g : PlainGraph) (u v : ℕ) → adjacent g u v ≡ true → g ≡ with_edge g u v
unfolding adjacent
with_edge_there g u v h =
    let same : g.edges ≡ set.insert g.edges (edge u v) =
    same_pairs g.edges (set.insert g.edges (edge u v)) (λ a b.
    there_already ((a == min u v) && (b == max u v)) (set.contains g.edges (a, b)) (λ t. at_edge a b t)
    ∙ sym (pairs-insert g.edges (min u v) (max u v) a b)) in
    λ i. record { vertices = g.vertices; edges = same i }
  where
    at_edge : (a b : ℕ) → ((a == min u v) && (b == max u v)) ≡ true → set.contains g.edges (a, b) ≡ true
    at_edge a b t =
        let parts = and_parts (a == min u v) (b == max u v) t in
        let low = eqb-true a (min u v) parts.0 in
        let high = eqb-true b (max u v) parts.1 in
        ap (λ p. set.contains g.edges p) (λ i. (low i, high i)) ∙ h

-- a graph without vertices is the empty graph
pub empty_without_vertices : (g : PlainGraph) → IsGraph g → g.vertices ≡ set.empty → g ≡ empty_graph
empty_without_vertices g is none = same_graph is IsGraph-empty_graph none (λ u v.
    false_from_ne_true _ (λ h. true≢false (sym (adjacent_ends is u v h).0 ∙ ap (λ s. set.contains s u) none ∙ contains-empty u)) ∙ sym (adjacent-empty_graph u v))

pub IsGraph-with_vertex : {g : PlainGraph} → IsGraph g → (v : ℕ) → v < NAMES → IsGraph (with_vertex g v)
IsGraph-with_vertex {g} is v name =
    let kept = λ (w : ℕ) (h : Has g.vertices w). contains-insert g.vertices v w ∙ or_right (w == v) _ h in
    IsGraph_by
    (λ w h. elim (or_cases (w == v) _ (sym (contains-insert g.vertices v w) ∙ h)) [
      | inl same ↦ let e = eqb-true w v same in omega arith
      | inr old ↦ is.names w old
    ])
    (λ a b h. (is.ordered a b h, kept a (is.low_end a b h), kept b (is.high_end a b h)))

pub adjacent-with_vertex : (g : PlainGraph) (v a b : ℕ) → adjacent (with_vertex g v) a b ≡ adjacent g a b
unfolding adjacent
adjacent-with_vertex g v a b = refl

pub IsGraph-with_range : {g : PlainGraph} → IsGraph g → (from count : ℕ) → from + count ≤ NAMES → IsGraph (with_range g from count)
IsGraph-with_range {g} is from count names =
    let kept = λ (w : ℕ) (h : Has g.vertices w). contains-union g.vertices (range from count) w ∙ or_left _ _ h in
    IsGraph_by
    (λ w h. elim (or_cases _ _ (sym (contains-union g.vertices (range from count) w) ∙ h)) [
      | inl old ↦ is.names w old
      | inr new ↦ let below : w < from + count = ltb-true w (from + count) (and_parts (nat_le from w) (nat_lt w (from + count)) (sym (contains-range from count w) ∙ new)).1 in omega arith
    ])
    (λ a b h. (is.ordered a b h, kept a (is.low_end a b h), kept b (is.high_end a b h)))

pub adjacent-with_range : (g : PlainGraph) (from count a b : ℕ) → adjacent (with_range g from count) a b ≡ adjacent g a b
unfolding adjacent
adjacent-with_range g from count a b = refl

-- the two ends of the edge between u and v, whichever is the smaller
edge_has : (u v : ℕ) (s : NameSet) → u ≢ v → Has s u → Has s v → (min u v < max u v) × Has s (min u v) × Has s (max u v)
edge_has u v s differ mu mv =
    elim (cases_order u v) [
      | inl same ↦ absurd (differ same)
      | inr (inl up) ↦ let low : u ≡ min u v = omega arith in let high : v ≡ max u v = omega arith in (omega arith, subst (Has s) low mu, subst (Has s) high mv)
      | inr (inr down) ↦ let low : v ≡ min u v = omega arith in let high : u ≡ max u v = omega arith in (omega arith, subst (Has s) low mv, subst (Has s) high mu)
    ]

-- what holds of the parts of an edge holds of an equal pair
edge_is : (a b u v : ℕ) (s : NameSet) → ((a == min u v) && (b == max u v)) ≡ true → (min u v < max u v) × Has s (min u v) × Has s (max u v) → (a < b) × Has s a × Has s b
edge_is a b u v s same has =
    let parts = and_parts _ _ same in
    let low = eqb-true a (min u v) parts.0 in
    let high = eqb-true b (max u v) parts.1 in
    (omega arith, subst (Has s) (sym low) has.1, subst (Has s) (sym high) has.2)

pub IsGraph-with_edge : {g : PlainGraph} → IsGraph g → (u v : ℕ) → Has g.vertices u → Has g.vertices v → u ≢ v → IsGraph (with_edge g u v)
IsGraph-with_edge {g} is u v mu mv differ =
    IsGraph_by is.names (λ a b h. elim (or_cases _ _ (sym (pairs-insert g.edges (min u v) (max u v) a b) ∙ h)) [
      | inl same ↦ edge_is a b u v g.vertices same (edge_has u v g.vertices differ mu mv)
      | inr old ↦ graph_ends is a b old
    ])

pub adjacent-with_edge : (g : PlainGraph) (u v a b : ℕ) → adjacent (with_edge g u v) a b ≡ ((((a == u) && (b == v)) || ((a == v) && (b == u))) || adjacent g a b)
unfolding adjacent
adjacent-with_edge g u v a b =
    pairs-insert g.edges (min u v) (max u v) (min a b) (max a b) ∙ ap (λ t. t || set.contains g.edges (edge a b)) (same_edge a b u v)

-- ---- stars

star_push : (v : ℕ) (others : List ℕ) (n : ℕ) → star v (others ++ n ∷ []) ≡ set.insert (star v others) (edge v n)
star_push v others n =
    ap set.from_list (map-append (edge v) others (n ∷ [])) ∙ pairs-from_list_push (map (edge v) others) (edge v n)

-- the members below n + 1, where n is one and where it isn't
below_suc : (s : NameSet) (n b : ℕ) → set.contains s n ≡ true → (nat_lt b (suc n) && set.contains s b) ≡ ((b == n) || (nat_lt b n && set.contains s b))
below_suc s n b t =
    elim (cases_order b n) [
      | inl same ↦ rw same (grind (arith, nat_tests))
      | inr other ↦ grind (arith, nat_tests)
    ]

below_same : (s : NameSet) (n b : ℕ) → set.contains s n ≡ false → (nat_lt b (suc n) && set.contains s b) ≡ (nat_lt b n && set.contains s b)
below_same s n b f =
    elim (cases_order b n) [
      | inl same ↦ rw same (grind (arith, nat_tests))
      | inr other ↦ grind (arith, nat_tests)
    ]

join_arms : (p q r w x y : Bool) → (((p && q) || (r && w)) || ((p && x) || (w && y))) ≡ ((p && (q || x)) || (w && (r || y)))
join_arms p q r w x y = grind arith

zero_le : (n : ℕ) → nat_le 0 n ≡ true
zero_le n = le-leb 0 n (omega arith)

-- the edges of a star
contains-star : (v : ℕ) (s : NameSet) (n a b : ℕ) → set.contains (star v (ascending_between s 0 n)) (min a b, max a b) ≡ (((a == v) && (nat_lt b n && set.contains s b)) || ((b == v) && (nat_lt a n && set.contains s a)))
unfolding ascending_between
contains-star v s zero a b = rw (pairs-empty (min a b) (max a b)) (grind (arith, nat_tests))
contains-star v s (suc n) a b =
    elim (cases_Bool (set.contains s n)) [
      | inl t ↦
          rw (zero_le n, t, star_push v (ascending_between s 0 n) n, pairs-insert (star v (ascending_between s 0 n)) (min v n) (max v n) (min a b) (max a b), contains-star v s n a b, same_edge a b v n, below_suc s n a t, below_suc s n b t)
          (join_arms (a == v) (b == n) (a == n) (b == v) _ _)
      | inr f ↦
          rw (zero_le n, f, append-nil (ascending_between s 0 n), contains-star v s n a b, below_same s n a f, below_same s n b f) refl
    ]

below_all : (s : NameSet) (n b : ℕ) → ((w : ℕ) → Has s w → w < n) → (nat_lt b n && set.contains s b) ≡ set.contains s b
below_all s n b below =
    elim (cases_Bool (set.contains s b)) [
      | inl t ↦ let h = below b t in grind (arith, nat_tests)
      | inr f ↦ grind (arith, nat_tests)
    ]

pub adjacent-with_edges : (g : PlainGraph) (v : ℕ) (others : NameSet) → ((w : ℕ) → Has others w → w < NAMES) → (a b : ℕ) → adjacent (with_edges g v others) a b ≡ ((((a == v) && set.contains others b) || ((b == v) && set.contains others a)) || adjacent g a b)
unfolding adjacent
adjacent-with_edges g v others below a b =
    rw (pairs-union g.edges (star v (ascending others)) (min a b) (max a b), contains-star v others NAMES a b, below_all others NAMES a below, below_all others NAMES b below)
    (grind arith)

-- an edge of a star runs to a member
star_parts : (v : ℕ) (s : NameSet) (n a b : ℕ) → set.contains (star v (ascending_between s 0 n)) (a, b) ≡ true → (w : ℕ) × Has s w × (((a == min v w) && (b == max v w)) ≡ true)
unfolding ascending_between
star_parts v s zero a b h = absurd (true≢false (sym h ∙ pairs-empty a b))
star_parts v s (suc n) a b h =
    elim (cases_Bool (set.contains s n)) [
      | inl t ↦
          let k = rw (zero_le n, t, star_push v (ascending_between s 0 n) n, pairs-insert (star v (ascending_between s 0 n)) (min v n) (max v n) a b) at h in
          elim (or_cases _ _ k) [
            | inl same ↦ (n, t, same)
            | inr before ↦ star_parts v s n a b before
          ]
      | inr f ↦ star_parts v s n a b (rw (zero_le n, f, append-nil (ascending_between s 0 n)) at h)
    ]

pub IsGraph-with_edges : {g : PlainGraph} → IsGraph g → (v : ℕ) (others : NameSet) → Has g.vertices v → ((w : ℕ) → Has others w → Has g.vertices w) → set.contains others v ≡ false → IsGraph (with_edges g v others)
IsGraph-with_edges {g} is v others mv members differ =
    IsGraph_by is.names (λ a b h. elim (or_cases _ _ (sym (pairs-union g.edges (star v (ascending others)) a b) ∙ h)) [
      | inl old ↦ graph_ends is a b old
      | inr new ↦
          let (w, mw, same) = star_parts v others NAMES a b new in
          edge_is a b v w g.vertices same (edge_has v w g.vertices (λ e. true≢false (sym mw ∙ ap (set.contains others) (sym e) ∙ differ)) mv (members w mw))
    ])

-- ---- the complement, induced graphs, and removals

contains-complement : (g : PlainGraph) (u v : ℕ) → set.contains (complement g).edges (u, v) ≡ ((nat_lt u v && nat_lt v NAMES) && ((set.contains g.vertices u && set.contains g.vertices v) && not (adjacent g u v)))
contains-complement g u v =
    contains-pairs_where (λ u v. (set.contains g.vertices u && set.contains g.vertices v) && not (adjacent g u v)) NAMES u v

pub IsGraph-complement : {g : PlainGraph} → IsGraph g → IsGraph (complement g)
IsGraph-complement {g} is =
    IsGraph_by is.names (λ u v h.
    let parts = and_parts _ _ (sym (contains-complement g u v) ∙ h) in
    let ends = and_parts _ _ (and_parts _ _ parts.1).0 in
    (ltb-true u v (and_parts _ _ parts.0).0, ends.0, ends.1))

complement_up : {g : PlainGraph} → IsGraph g → (u v : ℕ) → u < v → adjacent (complement g) u v ≡ ((set.contains g.vertices u && set.contains g.vertices v) && not (adjacent g u v))
complement_up {g} is u v up =
    adjacent_up (complement g) u v up
    ∙ contains-complement g u v
    ∙ elim (cases_Bool (set.contains g.vertices v)) [
      | inl t ↦ let name = is.names v t in grind (arith, nat_tests)
      | inr f ↦ grind (arith, nat_tests)
    ]

pub adjacent-complement : {g : PlainGraph} → IsGraph g → (u v : ℕ) → adjacent (complement g) u v ≡ ((set.contains g.vertices u && set.contains g.vertices v) && (not (u == v) && not (adjacent g u v)))
adjacent-complement {g} is u v =
    elim (cases_order u v) [
      | inl same ↦ rw (same, adjacent_self (IsGraph-complement is) v) (grind (arith, nat_tests))
      | inr (inl up) ↦ rw (complement_up is u v up) (grind (arith, nat_tests))
      | inr (inr down) ↦ rw (adjacent_sym (complement g) u v, complement_up is v u down, adjacent_sym g v u) (grind (arith, nat_tests))
    ]

-- what holds of both parts of an edge holds of both its ends
both_ends : (p : ℕ → Bool) (u v : ℕ) → (p (min u v) && p (max u v)) ≡ (p u && p v)
both_ends p u v =
    elim (cases_lt u v) [
      | inl up ↦ let low : min u v ≡ u = omega arith in let high : max u v ≡ v = omega arith in rw (low, high) refl
      | inr down ↦ let low : min u v ≡ v = omega arith in let high : max u v ≡ u = omega arith in rw (low, high) (grind arith)
    ]

pub adjacent-induced : (g : PlainGraph) (s : NameSet) (u v : ℕ) → adjacent (induced g s) u v ≡ (adjacent g u v && (set.contains s u && set.contains s v))
unfolding adjacent
adjacent-induced g s u v =
    pairs-retain g.edges (λ p. set.contains s p.0 && set.contains s p.1) (min u v) (max u v) ∙ ap (λ t. set.contains g.edges (edge u v) && t) (both_ends (set.contains s) u v)

pub IsGraph-induced : {g : PlainGraph} → IsGraph g → (s : NameSet) → IsGraph (induced g s)
IsGraph-induced {g} is s =
    let inside = λ (w : ℕ). contains-intersection g.vertices s w in
    IsGraph_by
    (λ w h. is.names w (and_parts _ _ (sym (inside w) ∙ h)).0)
    (λ u v h.
    let parts = and_parts _ _ (sym (pairs-retain g.edges (λ p. set.contains s p.0 && set.contains s p.1) u v) ∙ h) in
    let ends = and_parts _ _ parts.1 in
    (is.ordered u v parts.0, inside u ∙ and_from _ _ (is.low_end u v parts.0) ends.0, inside v ∙ and_from _ _ (is.high_end u v parts.0) ends.1))

pub adjacent-without_vertex : (g : PlainGraph) (v a b : ℕ) → adjacent (without_vertex g v) a b ≡ (adjacent g a b && (not (a == v) && not (b == v)))
unfolding adjacent
adjacent-without_vertex g v a b =
    pairs-retain g.edges (λ p. not (p.0 == v) && not (p.1 == v)) (min a b) (max a b) ∙ ap (λ t. set.contains g.edges (edge a b) && t) (both_ends (λ x. not (x == v)) a b)

pub IsGraph-without_vertex : {g : PlainGraph} → IsGraph g → (v : ℕ) → IsGraph (without_vertex g v)
IsGraph-without_vertex {g} is v =
    let kept = λ (w : ℕ). contains-remove g.vertices v w in
    IsGraph_by
    (λ w h. is.names w (and_parts _ _ (sym (kept w) ∙ h)).1)
    (λ a b h.
    let parts = and_parts _ _ (sym (pairs-retain g.edges (λ p. not (p.0 == v) && not (p.1 == v)) a b) ∙ h) in
    let ends = and_parts _ _ parts.1 in
    (is.ordered a b parts.0, kept a ∙ and_from _ _ ends.0 (is.low_end a b parts.0), kept b ∙ and_from _ _ ends.1 (is.high_end a b parts.0)))

pub adjacent-without_edge : (g : PlainGraph) (u v a b : ℕ) → adjacent (without_edge g u v) a b ≡ (not (((a == u) && (b == v)) || ((a == v) && (b == u))) && adjacent g a b)
unfolding adjacent
adjacent-without_edge g u v a b =
    pairs-remove g.edges (min u v) (max u v) (min a b) (max a b) ∙ ap (λ t. not t && set.contains g.edges (edge a b)) (same_edge a b u v)

pub IsGraph-without_edge : {g : PlainGraph} → IsGraph g → (u v : ℕ) → IsGraph (without_edge g u v)
IsGraph-without_edge {g} is u v =
    IsGraph_by is.names (λ a b h. graph_ends is a b (and_parts _ _ (sym (pairs-remove g.edges (min u v) (max u v) a b) ∙ h)).1)
