-- What writes to the rows of a graph make of it, one lemma for each method of `Graph`.
use Rattle.std.specs.Prelude.{◌≡◌, ℕ, ◌+◌, ◌*◌, ◌/◌, ◌^◌, ◌<◌, ◌≤◌, ◌≢◌, Bool, true, false, cond, not, ◌&&◌, ◌||◌, ◌==◌, List, [], ◌∷◌, ◌++◌, length, get_or, replicate, sum_by, refl}
use Rattle.std.proofs.Common.{subst, ap, sym, ◌∙◌, arith, inl, inr, set, take, drop, mul-le-mul, nat_le, nat_lt, ltb-true}
use Rattle.std.proofs.lemmas.Bool.{true≢false, cases_Bool, cases_lt, cases_eq, eq-eqb, ne_eqb, false_from_ne_true, and_parts}
use Rattle.std.proofs.lemmas.Bool.Decides.{nat_tests}
use Rattle.std.proofs.lemmas.List.{get_or_read, get_or_past, get_or-replicate, get_or-set_same, get_or-set_other, get_or_append_left, get_or_push, length_push, length-replicate, length-set}
use Rattle.std.proofs.lemmas.List.Sums.{sum_by-cons}
use Rattle.std.proofs.Math.Seq.{take-append_seam}
use Rattle.std.specs.List.{refill}
use Rattle.std.specs.FinSet as set
use Rattle.md_graph.specs.declared.TheConstants.{NAMES}
use Rattle.md_graph.specs.Sets.{NameSet, Has}
use Rattle.md_graph.specs.NameSet.{AllBelow, ascending, range}
use Rattle.md_graph.specs.PlainGraph.{PlainGraph, IsGraph, adjacent, neighbours, empty_graph, with_vertex, with_range, with_edge, with_edges, without_vertex, without_edge, induced, complement}
use Rattle.md_graph.specs.Rows.{row_of, edges_of, graph_of, AreRows, HasRoom}
use Rattle.md_graph.proofs.Counting.{rows_twice, rows_le}
use Rattle.md_graph.proofs.EachRow.{Lists, Lists-ascending, Lists-head, Lists-rest}
use Rattle.md_graph.proofs.Limits.{NAMES-lt}
use Rattle.md_graph.proofs.Ranges.{contains-range}
use Rattle.md_graph.proofs.SetLemmas.{of_insert, of_remove, of_union}
use Rattle.md_graph.proofs.SetLaws.{contains-empty, contains-insert, contains-remove, contains-union, contains-difference, contains-intersection, same_set}
use Rattle.md_graph.proofs.GraphLemmas.{rows_of_graph, IsGraph-graph_of, adjacent-graph_of, neighbours-graph_of, adjacent_ends, IsGraph-empty_graph, adjacent-empty_graph, IsGraph-with_vertex, adjacent-with_vertex, IsGraph-with_range, adjacent-with_range, IsGraph-with_edge, adjacent-with_edge, IsGraph-with_edges, adjacent-with_edges, IsGraph-without_vertex, adjacent-without_vertex, IsGraph-without_edge, adjacent-without_edge, contains-neighbours, IsGraph-induced, IsGraph-complement, adjacent-induced, adjacent-complement}

-- what `rows[v]` gives
pub row_read : {limit : ℕ} {live : NameSet} {rows : List NameSet} → AreRows limit live rows → (v : ℕ) → v < limit → (x : NameSet) → x ≡ get_or rows v x → x ≡ row_of rows v
row_read {limit} {live} {rows} a v name x e = let in_rows : v < length rows = omega (arith, a.one_each) in get_or_read rows v x in_rows e set.empty

pub row_is : {limit : ℕ} {live : NameSet} {rows : List NameSet} {g : PlainGraph} → AreRows limit live rows → graph_of live rows ≡ g → (v : ℕ) → v < limit → (x : NameSet) → x ≡ get_or rows v x → x ≡ neighbours g v
row_is {limit} {live} {rows} {g} a e v name x read =
    row_read a v name x read ∙ sym (neighbours-graph_of a v) ∙ ap (λ h. neighbours h v) e

pub bit_is : {limit : ℕ} {live : NameSet} {rows : List NameSet} {g : PlainGraph} → AreRows limit live rows → graph_of live rows ≡ g → (u v : ℕ) → u < limit → (x : NameSet) → x ≡ get_or rows u x → set.contains x v ≡ adjacent g u v
bit_is {limit} {live} {rows} {g} a e u v name x read =
    ap (λ s. set.contains s v) (row_read a u name x read) ∙ sym (adjacent-graph_of a u v) ∙ ap (λ h. adjacent h u v) e

pub still_below : {limit : ℕ} {live : NameSet} {rows : List NameSet} {g : PlainGraph} → AreRows limit live rows → graph_of live rows ≡ g → AllBelow g.vertices limit
still_below a e v m = a.names v (ap (λ h. set.contains h.vertices v) e ∙ m)

-- the vertices are names
all_names : {limit : ℕ} {live : NameSet} {rows : List NameSet} → AreRows limit live rows → (v : ℕ) → Has live v → v < NAMES
all_names a v m = let name = a.names v m in let few = a.few in omega arith

-- no edge runs at a number that is no name
pub no_edge : {limit : ℕ} {live : NameSet} {rows : List NameSet} {g : PlainGraph} → AreRows limit live rows → graph_of live rows ≡ g → (u v : ℕ) → limit ≤ u → adjacent g u v ≡ false
no_edge {limit} {live} {rows} {g} a e u v past =
    let is : IsGraph g = subst IsGraph e (IsGraph-graph_of a) in
    false_from_ne_true _ (λ h. let name = still_below a e u (adjacent_ends is u v h).0 in omega arith)

pub row_of-replicate : (n v : ℕ) → row_of (replicate n set.empty) v ≡ set.empty
row_of-replicate n v =
    elim (cases_lt v n) [
      | inl below ↦ get_or-replicate n v set.empty set.empty below
      | inr past ↦ get_or_past (replicate n set.empty) v set.empty (rw (length-replicate n set.empty) past)
    ]

-- more rows, those behind the old ones without members
pub rows_grown : {limit : ℕ} {live : NameSet} {rows : List NameSet} {g : PlainGraph} → AreRows limit live rows → graph_of live rows ≡ g → (new : List NameSet) → ((v : ℕ) → row_of new v ≡ row_of rows v) → (more : ℕ) → length new ≡ more → limit ≤ more → more ≤ NAMES → AreRows more live new × (graph_of live new ≡ g)
rows_grown {limit} {live} {rows} {g} a e new same more n above few =
    let is : IsGraph g = subst IsGraph e (IsGraph-graph_of a) in
    let below : AllBelow g.vertices more = λ v m. (let old = still_below a e v m in omega arith) in
    rows_of_graph is below few (ap (λ h. h.vertices) e) n (λ u v. ap (λ s. set.contains s v) (same u) ∙ sym (adjacent-graph_of a u v) ∙ ap (λ h. adjacent h u v) e)

-- the row of a name behind those made
pub row_past : {limit : ℕ} {live : NameSet} {rows : List NameSet} {g : PlainGraph} → AreRows limit live rows → graph_of live rows ≡ g → (v : ℕ) → limit ≤ v → {none : NameSet} → none ≡ set.empty → none ≡ neighbours g v
row_past {limit} {live} {rows} {g} a e v past {none} empty =
    empty ∙ sym (get_or_past rows v set.empty (omega (arith, a.one_each))) ∙ sym (neighbours-graph_of a v) ∙ ap (λ h. neighbours h v) e

-- rows without members are those of the graph without vertices
pub rows_new : {limit : ℕ} {live : NameSet} {rows : List NameSet} → limit ≤ NAMES → live ≡ set.empty → length rows ≡ limit → ((v : ℕ) → row_of rows v ≡ set.empty) → AreRows limit live rows × (graph_of live rows ≡ empty_graph)
rows_new {limit} {live} {rows} few none n empty =
    rows_of_graph IsGraph-empty_graph (λ v m. absurd (true≢false (sym m ∙ contains-empty v))) few none n (λ u v. ap (λ s. set.contains s v) (empty u) ∙ contains-empty v ∙ sym (adjacent-empty_graph u v))

-- no row is made yet
pub no_rows_yet : {live : NameSet} {rows : List NameSet} → live ≡ set.empty → rows ≡ [] → (n : ℕ) → n ≡ 0 → AreRows n live rows × (graph_of live rows ≡ empty_graph)
no_rows_yet {live} {rows} none e n zero =
    rows_new (omega (arith, zero)) none (ap length e ∙ sym zero) (λ v. ap (λ r. row_of r v) e)

-- the room for other rows, as much or more
pub room_for : {limit size room : ℕ} {none : NameSet} → HasRoom limit size room none → (size' room' : ℕ) → size' ≤ limit → limit ≤ room' → {none' : NameSet} → none' ≡ none → HasRoom limit size' room' none'
room_for has size' room' made fits same = record {
  made = made;
  names = has.names;
  fits = fits;
  empty = same ∙ has.empty;
}

below_with_vertex : {limit : ℕ} {live : NameSet} {rows : List NameSet} {g : PlainGraph} → AreRows limit live rows → graph_of live rows ≡ g → (v : ℕ) → v < limit → AllBelow (with_vertex g v).vertices limit
below_with_vertex {limit} a e v name w m =
    elim (of_insert _ v w m) [
      | inl same ↦ omega arith
      | inr old ↦ still_below a e w old
    ]

below_with_range : {limit : ℕ} {live : NameSet} {rows : List NameSet} {g : PlainGraph} → AreRows limit live rows → graph_of live rows ≡ g → (from count : ℕ) → from + count ≤ limit → AllBelow (with_range g from count).vertices limit
below_with_range {limit} {live} {rows} {g} a e from count names w m =
    elim (of_union g.vertices (range from count) w m) [
      | inl old ↦ still_below a e w old
      | inr new ↦ let within : w < from + count = ltb-true w (from + count) (and_parts (nat_le from w) (nat_lt w (from + count)) (sym (contains-range from count w) ∙ new)).1 in omega arith
    ]

pub rows_add_vertex : {limit : ℕ} {live : NameSet} {rows : List NameSet} {g : PlainGraph} → AreRows limit live rows → graph_of live rows ≡ g → (v : ℕ) → v < limit → {new : NameSet} → new ≡ set.insert live v → AreRows limit new rows × (graph_of new rows ≡ with_vertex g v)
rows_add_vertex {limit} {live} {rows} {g} a e v name {new} is_new =
    let is : IsGraph g = subst IsGraph e (IsGraph-graph_of a) in
    let law = λ (x y : ℕ). sym (adjacent-graph_of a x y) ∙ ap (λ h. adjacent h x y) e ∙ sym (adjacent-with_vertex g v x y) in
    rows_of_graph (IsGraph-with_vertex is v (let few = a.few in omega arith)) (below_with_vertex a e v name) a.few (is_new ∙ ap (λ h. set.insert h.vertices v) e) a.one_each law

pub rows_add_range : {limit : ℕ} {live : NameSet} {rows : List NameSet} {g : PlainGraph} → AreRows limit live rows → graph_of live rows ≡ g → (from count : ℕ) → from + count ≤ limit → {new : NameSet} → new ≡ set.union live (range from count) → AreRows limit new rows × (graph_of new rows ≡ with_range g from count)
rows_add_range {limit} {live} {rows} {g} a e from count names {new} is_new =
    let is : IsGraph g = subst IsGraph e (IsGraph-graph_of a) in
    let law = λ (x y : ℕ). sym (adjacent-graph_of a x y) ∙ ap (λ h. adjacent h x y) e ∙ sym (adjacent-with_range g from count x y) in
    rows_of_graph (IsGraph-with_range is from count (let few = a.few in omega arith)) (below_with_range a e from count names) a.few (is_new ∙ ap (λ h. set.union h.vertices (range from count)) e) a.one_each law

-- the rows after one is replaced
pub contains-set_row : (rows : List NameSet) (u : ℕ) (new : NameSet) (a b : ℕ) → u < length rows → set.contains (row_of (set rows u new) a) b ≡ cond (a == u) (set.contains new b) (set.contains (row_of rows a) b)
contains-set_row rows u new a b below =
    elim (cases_eq a u) [
      | inl same ↦ rw (same, eq-eqb u u refl, get_or-set_same rows u new set.empty below) refl
      | inr other ↦ rw (ne_eqb a u other, get_or-set_other rows u a new set.empty other) refl
    ]

-- two rows that change at each other's name, by a change that is `op` on members
twice_set : {limit : ℕ} {live : NameSet} {rows : List NameSet} (op : Bool → Bool → Bool) (f : NameSet → ℕ → NameSet) → ((q : Bool) → op false q ≡ q) → ((s : NameSet) (k y : ℕ) → set.contains (f s k) y ≡ op (y == k) (set.contains s y)) → AreRows limit live rows → (u v : ℕ) → u < limit → v < limit → u ≢ v → (new_u old_u new_v old_v : NameSet) → new_u ≡ f old_u v → old_u ≡ get_or rows u old_u → new_v ≡ f old_v u → old_v ≡ get_or (set rows u new_u) v old_v → (x y : ℕ) → set.contains (row_of (set (set rows u new_u) v new_v) x) y ≡ op (((x == u) && (y == v)) || ((x == v) && (y == u))) (set.contains (row_of rows x) y)
twice_set {limit} {live} {rows} op f keeps gives a u v name_u name_v differ new_u old_u new_v old_v is_u read_u is_v read_v x y =
    let in_u : u < length rows = omega (arith, a.one_each) in
    let in_v : v < length (set rows u new_u) = omega (arith, a.one_each, length-set rows u new_u) in
    let other : v ≢ u = λ e. differ (sym e) in
    let row_u : old_u ≡ row_of rows u = row_read a u name_u old_u read_u in
    let row_v : old_v ≡ row_of rows v = get_or_read (set rows u new_u) v old_v in_v read_v set.empty ∙ get_or-set_other rows u v new_u set.empty other in
    let at_u : set.contains new_u y ≡ op (y == v) (set.contains (row_of rows u) y) = ap (λ s. set.contains s y) is_u ∙ gives old_u v y ∙ ap (λ s. op (y == v) (set.contains s y)) row_u in
    let at_v : set.contains new_v y ≡ op (y == u) (set.contains (row_of rows v) y) = ap (λ s. set.contains s y) is_v ∙ gives old_v u y ∙ ap (λ s. op (y == u) (set.contains s y)) row_v in
    let test_u : (y == v) ≡ ((y == v) || false) = grind arith in
    let test_v : (y == u) ≡ (((v == u) && (y == v)) || (y == u)) = grind (arith, nat_tests) in
    contains-set_row (set rows u new_u) v new_v x y in_v
    ∙ elim (cases_eq x v) [
      | inl same_v ↦ rw (same_v, eq-eqb v v refl) (at_v ∙ ap (λ t. op t (set.contains (row_of rows v) y)) test_v)
      | inr not_v ↦ rw (ne_eqb x v not_v, contains-set_row rows u new_u x y in_u) (elim (cases_eq x u) [
        | inl same_u ↦ rw (same_u, eq-eqb u u refl) (at_u ∙ ap (λ t. op t (set.contains (row_of rows u) y)) test_u)
        | inr not_u ↦ rw (ne_eqb x u not_u) (sym (keeps (set.contains (row_of rows x) y)))
      ])
    ]

pub rows_add_edge : {limit : ℕ} {live : NameSet} {rows : List NameSet} {g : PlainGraph} → AreRows limit live rows → graph_of live rows ≡ g → (u v : ℕ) → Has g.vertices u → Has g.vertices v → u ≢ v → {new_u old_u new_v old_v : NameSet} → new_u ≡ set.insert old_u v → old_u ≡ get_or rows u old_u → new_v ≡ set.insert old_v u → old_v ≡ get_or (set rows u new_u) v old_v → AreRows limit live (set (set rows u new_u) v new_v) × (graph_of live (set (set rows u new_u) v new_v) ≡ with_edge g u v)
rows_add_edge {limit} {live} {rows} {g} a e u v mu mv differ {new_u} {old_u} {new_v} {old_v} is_u read_u is_v read_v =
    let is : IsGraph g = subst IsGraph e (IsGraph-graph_of a) in
    let law = λ (x y : ℕ). twice_set ◌||◌ set.insert (λ _. refl) contains-insert a u v (still_below a e u mu) (still_below a e v mv) differ new_u old_u new_v old_v is_u read_u is_v read_v x y ∙ ap (λ t. (((x == u) && (y == v)) || ((x == v) && (y == u))) || t) (sym (adjacent-graph_of a x y) ∙ ap (λ h. adjacent h x y) e) ∙ sym (adjacent-with_edge g u v x y) in
    let n : length (set (set rows u new_u) v new_v) ≡ limit = length-set (set rows u new_u) v new_v ∙ length-set rows u new_u ∙ a.one_each in
    rows_of_graph (IsGraph-with_edge is u v mu mv differ) (still_below a e) a.few (ap (λ h. h.vertices) e) n law

-- what is kept of the edge between u and v
abbrev without : Bool → Bool → Bool
without p q = not p && q

pub rows_remove_edge : {limit : ℕ} {live : NameSet} {rows : List NameSet} {g : PlainGraph} → AreRows limit live rows → graph_of live rows ≡ g → (u v : ℕ) → adjacent g u v ≡ true → {new_u old_u new_v old_v : NameSet} → new_u ≡ set.remove old_u v → old_u ≡ get_or rows u old_u → new_v ≡ set.remove old_v u → old_v ≡ get_or (set rows u new_u) v old_v → AreRows limit live (set (set rows u new_u) v new_v) × (graph_of live (set (set rows u new_u) v new_v) ≡ without_edge g u v)
rows_remove_edge {limit} {live} {rows} {g} a e u v there {new_u} {old_u} {new_v} {old_v} is_u read_u is_v read_v =
    let is : IsGraph g = subst IsGraph e (IsGraph-graph_of a) in
    let ends = adjacent_ends is u v there in
    let law = λ (x y : ℕ). twice_set without set.remove (λ _. refl) contains-remove a u v (still_below a e u ends.0) (still_below a e v ends.1) ends.2 new_u old_u new_v old_v is_u read_u is_v read_v x y ∙ ap (λ t. not (((x == u) && (y == v)) || ((x == v) && (y == u))) && t) (sym (adjacent-graph_of a x y) ∙ ap (λ h. adjacent h x y) e) ∙ sym (adjacent-without_edge g u v x y) in
    let n : length (set (set rows u new_u) v new_v) ≡ limit = length-set (set rows u new_u) v new_v ∙ length-set rows u new_u ∙ a.one_each in
    rows_of_graph (IsGraph-without_edge is u v) (still_below a e) a.few (ap (λ h. h.vertices) e) n law

-- the ends of an edge are names
pub ends_are_names : {limit : ℕ} {live : NameSet} {rows : List NameSet} {g : PlainGraph} → AreRows limit live rows → graph_of live rows ≡ g → (u v : ℕ) → adjacent g u v ≡ true → (u < limit) × (v < limit)
ends_are_names {limit} {live} {rows} {g} a e u v there =
    let is : IsGraph g = subst IsGraph e (IsGraph-graph_of a) in
    let ends = adjacent_ends is u v there in
    (still_below a e u ends.0, still_below a e v ends.1)

-- ---- all rows of a slice

-- the elements of a `Vec` after a call that has its slice
pub refilled : (n : ℕ) (xs ws : List NameSet) → length ws ≡ n → refill n xs ws ≡ ws
refilled n xs ws e =
    ap (λ k. take k (ws ++ drop (length ws) xs)) (sym e) ∙ take-append_seam ws (drop (length ws) xs)

-- a name that is no vertex has no neighbours
row_dead : {limit : ℕ} {live : NameSet} {rows : List NameSet} → AreRows limit live rows → (u : ℕ) → set.contains live u ≡ false → row_of rows u ≡ set.empty
row_dead {limit} {live} {rows} a u dead =
    same_set (row_of rows u) set.empty (λ v. false_from_ne_true _ (λ h. true≢false (sym (a.inside v u (a.both_ways v u ∙ h)) ∙ dead)) ∙ sym (contains-empty v))

pub rows_clear : {limit : ℕ} {live : NameSet} {rows : List NameSet} → AreRows limit live rows → (n : ℕ) (old ws : List NameSet) → n ≡ length rows → old ≡ rows → length ws ≡ length old → ((u : ℕ) → row_of ws u ≡ cond (set.contains live u) set.empty (row_of old u)) → {new : NameSet} → new ≡ set.empty → AreRows limit new (refill n rows ws) × (graph_of new (refill n rows ws) ≡ empty_graph)
rows_clear {limit} {live} {rows} a n old ws len same kept cleared none =
    let same_len = ap length same in
    let whole = refilled n rows ws (omega arith) in
    let row = λ (u : ℕ). ap (λ r. row_of r u) whole ∙ cleared u ∙ elim (cases_Bool (set.contains live u)) [
      | inl t ↦ rw t refl
      | inr f ↦ rw (f, same) (row_dead a u f)
    ] in
    rows_new a.few none (ap length whole ∙ kept ∙ same_len ∙ a.one_each) row

-- Whether y is in the row of x after v takes in `others`, and each of these v: `old` is the row of x between
-- the two, `was` says whether y was in it at first, `new` whether it is in that of v between the two.
star_row : (others : NameSet) (v x y : ℕ) (old : NameSet) (was new : Bool) → set.contains old y ≡ cond (x == v) new was → (x ≡ v → new ≡ (was || set.contains others y)) → set.contains others v ≡ false → set.contains (cond (set.contains others x) (set.insert old v) old) y ≡ ((((x == v) && set.contains others y) || ((y == v) && set.contains others x)) || was)
star_row others v x y old was new e at_v differ =
    elim (cases_eq x v) [
      | inl same ↦
          let out : set.contains others x ≡ false = ap (set.contains others) same ∙ differ in
          let now : set.contains old y ≡ (was || set.contains others y) = e ∙ ap (λ b. cond b new was) (eq-eqb x v same) ∙ at_v same in
          rw out (grind (arith, nat_tests))
      | inr other ↦
          let now : set.contains old y ≡ was = e ∙ ap (λ b. cond b new was) (ne_eqb x v other) in
          elim (cases_Bool (set.contains others x)) [
            | inl t ↦ rw (t, contains-insert old v y) (grind (arith, nat_tests))
            | inr f ↦ rw f (grind (arith, nat_tests))
          ]
    ]

pub rows_add_edges : {limit : ℕ} {live : NameSet} {rows : List NameSet} {g : PlainGraph} → AreRows limit live rows → graph_of live rows ≡ g → (v : ℕ) (others : NameSet) → Has g.vertices v → ((w : ℕ) → Has others w → Has g.vertices w) → set.contains others v ≡ false → (new_v old_v : NameSet) → new_v ≡ set.union old_v others → old_v ≡ get_or rows v old_v → (n : ℕ) (old ws : List NameSet) → n ≡ length rows → old ≡ set rows v new_v → length ws ≡ length old → ((u : ℕ) → row_of ws u ≡ cond (set.contains others u) (set.insert (row_of old u) v) (row_of old u)) → AreRows limit live (refill n (set rows v new_v) ws) × (graph_of live (refill n (set rows v new_v) ws) ≡ with_edges g v others)
rows_add_edges {limit} {live} {rows} {g} a e v others mv members differ new_v old_v is read n old ws len same kept each =
    let is_graph : IsGraph g = subst IsGraph e (IsGraph-graph_of a) in
    let name_v : v < limit = still_below a e v mv in
    let in_v : v < length rows = omega (arith, a.one_each) in
    let same_len = ap length same ∙ length-set rows v new_v in
    let whole = refilled n (set rows v new_v) ws (omega (arith, length-set rows v new_v)) in
    let below = λ (w : ℕ) (m : Has others w). is_graph.names w (members w m) in
    let has = λ (x y : ℕ). sym (adjacent-graph_of a x y) ∙ ap (λ h. adjacent h x y) e in
    let at_v = λ (y : ℕ). ap (λ s. set.contains s y) (is ∙ ap (λ s. set.union s others) (row_read a v name_v old_v read)) ∙ contains-union (row_of rows v) others y in
    let law = λ (x y : ℕ). ap (λ r. set.contains (row_of r x) y) whole ∙ ap (λ s. set.contains s y) (each x) ∙ star_row others v x y (row_of old x) _ (set.contains new_v y) (ap (λ r. set.contains (row_of r x) y) same ∙ contains-set_row rows v new_v x y in_v) (λ here. at_v y ∙ ap (λ w. set.contains (row_of rows w) y || set.contains others y) (sym here)) differ ∙ ap (λ t. (((x == v) && set.contains others y) || ((y == v) && set.contains others x)) || t) (has x y) ∙ sym (adjacent-with_edges g v others below x y) in
    rows_of_graph (IsGraph-with_edges is_graph v others mv members differ) (still_below a e) a.few (ap (λ h. h.vertices) e) (ap length whole ∙ kept ∙ same_len ∙ a.one_each) law

-- Whether y is in the row of x after each of `others`, the neighbours of v, leaves v out and the row of v is cleared.
gone_row : (others : NameSet) (v x y : ℕ) (old new_v : NameSet) → new_v ≡ set.empty → {now : Bool} → now ≡ set.contains (cond (set.contains others x) (set.remove old v) old) y → set.contains others x ≡ set.contains old v → cond (x == v) (set.contains new_v y) now ≡ (set.contains old y && (not (x == v) && not (y == v)))
gone_row others v x y old new_v none {now} e at_v =
    elim (cases_eq x v) [
      | inl same ↦
          let out : set.contains new_v y ≡ false = ap (λ s. set.contains s y) none ∙ contains-empty y in
          grind (arith, nat_tests)
      | inr other ↦ elim (cases_Bool (set.contains others x)) [
        | inl t ↦
            let left : now ≡ (not (y == v) && set.contains old y) = e ∙ rw t (contains-remove old v y) in
            grind (arith, nat_tests)
        | inr f ↦
            let left : now ≡ set.contains old y = e ∙ rw f refl in
            let out : set.contains old v ≡ false = sym at_v ∙ f in
            elim (cases_eq y v) [
              | inl same ↦ let gone : set.contains old y ≡ false = ap (set.contains old) same ∙ out in grind (arith, nat_tests)
              | inr apart ↦ grind (arith, nat_tests)
            ]
      ]
    ]

pub rows_remove_vertex : {limit : ℕ} {live : NameSet} {rows : List NameSet} {g : PlainGraph} → AreRows limit live rows → graph_of live rows ≡ g → (v : ℕ) → Has g.vertices v → (row others : NameSet) → row ≡ get_or rows v row → others ≡ row → (n : ℕ) (old ws : List NameSet) → n ≡ length rows → old ≡ rows → length ws ≡ length old → ((u : ℕ) → row_of ws u ≡ cond (set.contains others u) (set.remove (row_of old u) v) (row_of old u)) → {new_v : NameSet} → new_v ≡ set.empty → {new : NameSet} → new ≡ set.remove live v → AreRows limit new (set (refill n rows ws) v new_v) × (graph_of new (set (refill n rows ws) v new_v) ≡ without_vertex g v)
rows_remove_vertex {limit} {live} {rows} {g} a e v mv row others read is n old ws len same kept each {new_v} none {new} is_new =
    let is_graph : IsGraph g = subst IsGraph e (IsGraph-graph_of a) in
    let name_v : v < limit = still_below a e v mv in
    let same_len = ap length same in
    let whole = refilled n rows ws (omega arith) in
    let in_v : v < length ws = omega (arith, a.one_each) in
    let points = is ∙ row_read a v name_v row read in
    let has = λ (x y : ℕ). sym (adjacent-graph_of a x y) ∙ ap (λ h. adjacent h x y) e in
    let law = λ (x y : ℕ). ap (λ r. set.contains (row_of (set r v new_v) x) y) whole ∙ contains-set_row ws v new_v x y in_v ∙ gone_row others v x y (row_of rows x) new_v none (ap (λ s. set.contains s y) (each x ∙ ap (λ r. cond (set.contains others x) (set.remove (row_of r x) v) (row_of r x)) same)) (ap (λ s. set.contains s x) points ∙ a.both_ways v x) ∙ ap (λ t. t && (not (x == v) && not (y == v))) (has x y) ∙ sym (adjacent-without_vertex g v x y) in
    let size : length (set (refill n rows ws) v new_v) ≡ limit = length-set (refill n rows ws) v new_v ∙ ap length whole ∙ kept ∙ same_len ∙ a.one_each in
    rows_of_graph (IsGraph-without_vertex is_graph v) (λ w m. still_below a e w (of_remove g.vertices v w m).1) a.few (is_new ∙ ap (λ h. set.remove h.vertices v) e) size law

-- ---- rows made one after another

-- the rows of the names below n in a graph
pub record Made (h : PlainGraph) (n : ℕ) (rows : List NameSet) : Type 0 where
  pub size : length rows ≡ n
  pub each : (k : ℕ) → k < n → row_of rows k ≡ neighbours h k

pub Made-start : (h : PlainGraph) (rows : List NameSet) → rows ≡ [] → Made h 0 rows
Made-start h rows e = record { size = ap length e; each = λ k below. absurd (omega arith) }

pub Made-more : {h : PlainGraph} {n : ℕ} {rows : List NameSet} → Made h n rows → (row : NameSet) → row ≡ neighbours h n → (new : List NameSet) → new ≡ rows ++ row ∷ [] → Made h (n + 1) new
Made-more {h} {n} {rows} before row is new e = record {
  size = ap length e ∙ length_push rows row ∙ ap (λ k. k + 1) before.size;
  each = λ k below. ap (λ r. row_of r k) e ∙ elim (cases_lt k n) [
    | inl old ↦ get_or_append_left rows (row ∷ []) set.empty k (omega (arith, before.size)) ∙ before.each k old
    | inr last ↦ let here : n ≡ k = omega arith in get_or_push rows row set.empty k (before.size ∙ here) ∙ is ∙ ap (neighbours h) here
  ];
}

Made-all : {limit : ℕ} {h : PlainGraph} {n : ℕ} {rows : List NameSet} → IsGraph h → Made h n rows → n ≡ limit → limit ≤ NAMES → AllBelow h.vertices limit → {live : NameSet} → live ≡ h.vertices → AreRows limit live rows × (graph_of live rows ≡ h)
Made-all {limit} {h} {n} {rows} is made all few below {live} e =
    rows_of_graph is below few e (made.size ∙ all) (λ u v. elim (cases_lt u n) [
      | inl below ↦ ap (λ s. set.contains s v) (made.each u below) ∙ contains-neighbours is u v
      | inr past ↦ ap (λ s. set.contains s v) (get_or_past rows u set.empty (omega (arith, made.size))) ∙ contains-empty v ∙ sym (false_from_ne_true (adjacent h u v) (λ there. let name = below u (adjacent_ends is u v there).0 in omega arith))
    ])

-- where the rows are counted as `size`
pub Made-end : {limit : ℕ} {h : PlainGraph} {n : ℕ} {rows : List NameSet} → IsGraph h → Made h n rows → n ≡ limit → limit ≤ NAMES → AllBelow h.vertices limit → {live : NameSet} → live ≡ h.vertices → (size : ℕ) → size ≡ length rows → AreRows size live rows × (graph_of live rows ≡ h)
Made-end {limit} {h} {n} {rows} is made all few below {live} e size counted =
    let same : limit ≡ size = omega (arith, made.size) in
    subst (λ k. AreRows k live rows × (graph_of live rows ≡ h)) same (Made-all is made all few below e)

pub graph_is : {limit : ℕ} {live : NameSet} {rows : List NameSet} {g : PlainGraph} → AreRows limit live rows → graph_of live rows ≡ g → IsGraph g
graph_is a e = subst IsGraph e (IsGraph-graph_of a)

complement_bits : (v q : ℕ) (rest live row there : Bool) {vertex : Bool} → rest ≡ (live && not row) → live ≡ vertex → row ≡ there → (not (q == v) && rest) ≡ ((true && vertex) && (not (v == q) && not there))
complement_bits v q rest live row there e f h = grind (arith, nat_tests)

-- the rows of the complement
pub complement_dead : {limit : ℕ} {live : NameSet} {rows : List NameSet} {g : PlainGraph} → AreRows limit live rows → graph_of live rows ≡ g → (v : ℕ) → set.contains live v ≡ false → {none : NameSet} → none ≡ set.empty → none ≡ neighbours (complement g) v
complement_dead {limit} {live} {rows} {g} a e v dead {none} is_none =
    let is = graph_is a e in
    let dead_g : set.contains g.vertices v ≡ false = sym (ap (λ h. set.contains h.vertices v) e) ∙ dead in
    is_none ∙ same_set set.empty (neighbours (complement g) v) (λ q. contains-empty q ∙ sym (contains-neighbours (IsGraph-complement is) v q ∙ adjacent-complement is v q ∙ rw dead_g refl))

pub complement_row_is : {limit : ℕ} {live : NameSet} {rows : List NameSet} {g : PlainGraph} → AreRows limit live rows → graph_of live rows ≡ g → (v : ℕ) → v < limit → set.contains live v ≡ true → (row : NameSet) → row ≡ get_or rows v row → (rest : NameSet) → rest ≡ set.difference live row → (others : NameSet) → others ≡ set.remove rest v → others ≡ neighbours (complement g) v
complement_row_is {limit} {live} {rows} {g} a e v name alive row read rest is_rest others is_others =
    let is = graph_is a e in
    let live_is = λ (q : ℕ). ap (λ h. set.contains h.vertices q) e in
    same_set others (neighbours (complement g) v) (λ q.
    let left = ap (λ s. set.contains s q) is_others ∙ contains-remove rest v q in
    let middle = ap (λ s. set.contains s q) is_rest ∙ contains-difference live row q in
    let here = bit_is a e v q name row read in
    let alive_g : set.contains g.vertices v ≡ true = sym (live_is v) ∙ alive in
    let alive_q = live_is q in
    left ∙ complement_bits v q _ _ _ _ middle alive_q here ∙ sym (contains-neighbours (IsGraph-complement is) v q ∙ adjacent-complement is v q ∙ rw alive_g refl))

-- the rows of an induced graph
pub induced_dead : {limit : ℕ} {live : NameSet} {rows : List NameSet} {g : PlainGraph} → AreRows limit live rows → graph_of live rows ≡ g → (s : NameSet) (v : ℕ) → set.contains s v ≡ false → {none : NameSet} → none ≡ set.empty → none ≡ neighbours (induced g s) v
induced_dead {limit} {live} {rows} {g} a e s v out {none} is_none =
    is_none ∙ same_set set.empty (neighbours (induced g s) v) (λ q. contains-empty q ∙ sym (contains-neighbours (IsGraph-induced (graph_is a e) s) v q ∙ adjacent-induced g s v q ∙ rw out (grind arith)))

pub induced_row_is : {limit : ℕ} {live : NameSet} {rows : List NameSet} {g : PlainGraph} → AreRows limit live rows → graph_of live rows ≡ g → (s : NameSet) (v : ℕ) → set.contains s v ≡ true → (row : NameSet) → row ≡ neighbours g v → (both : NameSet) → both ≡ set.intersection row s → both ≡ neighbours (induced g s) v
induced_row_is {limit} {live} {rows} {g} a e s v in_s row is both is_both =
    same_set both (neighbours (induced g s) v) (λ q.
    ap (λ t. set.contains t q) is_both
    ∙ contains-intersection row s q
    ∙ ap (λ b. b && set.contains s q) (ap (λ t. set.contains t q) is ∙ contains-neighbours (graph_is a e) v q)
    ∙ sym (contains-neighbours (IsGraph-induced (graph_is a e) s) v q ∙ adjacent-induced g s v q ∙ rw in_s refl))

-- ---- the number of edges

-- the sum of the lengths of the rows of the listed names
abbrev pub ends_of : List NameSet → List ℕ → ℕ
ends_of rows xs = sum_by (λ v. set.len (row_of rows v)) xs

both_live : {limit : ℕ} {live : NameSet} {rows : List NameSet} → AreRows limit live rows → (u v : ℕ) → Has (row_of rows u) v → Has live u × Has live v
both_live a u v h = (a.inside v u (a.both_ways v u ∙ h), a.inside u v h)

-- over all vertices it is twice the number of edges
ends_of-all : {limit : ℕ} {live : NameSet} {rows : List NameSet} → AreRows limit live rows → ends_of rows (ascending live) ≡ 2 * set.len (edges_of rows)
unfolding edges_of
ends_of-all {limit} {live} {rows} a = rows_twice live (row_of rows) NAMES (both_live a) (all_names a) a.both_ways a.no_loop

square_lt : (n : ℕ) → n < 2 ^ 16 → n * n < 2 ^ 32
square_lt n h =
    let top : n ≤ 65535 = omega arith in let le : n * n ≤ 65535 * 65535 = mul-le-mul top top in omega arith

ends_of-lt : {limit : ℕ} {live : NameSet} {rows : List NameSet} → AreRows limit live rows → ends_of rows (ascending live) < 2 ^ 32
ends_of-lt {limit} {live} {rows} a =
    let le = rows_le live (row_of rows) NAMES (both_live a) (all_names a) in
    let fit = square_lt NAMES NAMES-lt in
    omega arith

-- the ends are counted but for those at the listed names
pub record Counted (live : NameSet) (rows : List NameSet) (ends : ℕ) (xs : List ℕ) : Type 0 where
  pub left : Lists live xs
  pub counted : ends + ends_of rows xs ≡ ends_of rows (ascending live)

pub Counted-start : {live : NameSet} {rows : List NameSet} {xs : List ℕ} → xs ≡ ascending live → AllBelow live NAMES → Counted live rows 0 xs
Counted-start {live} {rows} {xs} e below = record {
  left = Lists-ascending xs e below;
  counted = let same = ap (ends_of rows) e in omega arith;
}

pub Counted-more : {limit : ℕ} {live : NameSet} {rows : List NameSet} {ends : ℕ} {xs : List ℕ} → AreRows limit live rows → Counted live rows ends xs → (x : ℕ) (rest : List ℕ) → xs ≡ x ∷ rest → (row : NameSet) → row ≡ get_or rows x row → (k : ℕ) → k ≡ set.len row → Counted live rows (ends + k) rest
Counted-more {limit} {live} {rows} {ends} {xs} a before x rest e row read k is =
    let one = is ∙ ap set.len (row_read a x (a.names x (Lists-head before.left x rest e)) row read) in
    let split = ap (ends_of rows) e ∙ sum_by-cons (λ v. set.len (row_of rows v)) x rest in
    record {
      left = Lists-rest before.left x rest e;
      counted = omega (arith, before.counted);
    }

pub Counted-fits : {limit : ℕ} {live : NameSet} {rows : List NameSet} {ends : ℕ} {xs : List ℕ} → AreRows limit live rows → Counted live rows ends xs → ends < 2 ^ 32
Counted-fits a before = let fit = ends_of-lt a in omega (arith, before.counted)

pub Counted-end : {limit : ℕ} {live : NameSet} {rows : List NameSet} {g : PlainGraph} {ends : ℕ} {xs : List ℕ} → AreRows limit live rows → graph_of live rows ≡ g → Counted live rows ends xs → xs ≡ [] → ends / 2 ≡ set.len g.edges
Counted-end {limit} {live} {rows} {g} a e before none =
    let all = ends_of-all a in
    let last = ap (ends_of rows) none in
    let edges = ap (λ h. set.len h.edges) e in
    omega (arith, before.counted)
