-- What writes to the rows of a directed graph make of it, one lemma for each method of `Digraph`.
use Rattle.std.specs.Prelude.{◌≡◌, ℕ, ◌<◌, ◌≤◌, ◌≢◌, Bool, false, cond, ◌&&◌, ◌||◌, ◌==◌, List, [], length, get_or, refl}
use Rattle.std.proofs.Common.{subst, ap, sym, ◌∙◌, arith, inl, inr, set}
use Rattle.std.proofs.lemmas.Bool.{true≢false, cases_Bool, cases_eq, eq-eqb, ne_eqb, false_from_ne_true}
use Rattle.std.proofs.lemmas.List.{get_or_read, length-set}
use Rattle.std.specs.List.{refill}
use Rattle.std.specs.FinSet as set
use Rattle.md_graph.specs.Sets.{NameSet, Has}
use Rattle.md_graph.specs.NameSet.{AllBelow}
use Rattle.md_graph.specs.Rows.{row_of}
use Rattle.md_graph.proofs.RowLemmas.{contains-set_row, refilled}
use Rattle.md_graph.proofs.SetLemmas.{of_insert}
use Rattle.md_graph.proofs.SetLaws.{contains-empty, contains-insert, same_set}
use Rattle.md_digraph.specs.declared.TheConstants.{DIRECTED_NAMES}
use Rattle.md_digraph.specs.PlainDigraph.{PlainDigraph, has_arc_to, successors, predecessors, IsDigraph, empty_digraph, digraph_with_vertex, with_arc}
use Rattle.md_digraph.specs.ArcRows.{digraph_of, AreArcRows}
use Rattle.md_digraph.proofs.DigraphLemmas.{contains-successors, contains-predecessors, has_arc_to-digraph_of, IsDigraph-digraph_of, rows_of_digraph, has_arc_to-empty_digraph, IsDigraph-empty_digraph, has_arc_to-with_vertex, IsDigraph-with_vertex, has_arc_to-with_arc, IsDigraph-with_arc}

module _ {limit : ℕ} {live : NameSet} {out into : List NameSet} {g : PlainDigraph} (a : AreArcRows limit live out into) (e : digraph_of live out ≡ g) where
  pub digraph_is : IsDigraph g
  digraph_is = subst IsDigraph e (IsDigraph-digraph_of a)

  pub still_below : AllBelow g.vertices limit
  still_below v m = a.names v (ap (λ h. set.contains h.vertices v) e ∙ m)

  arc_is : (u v : ℕ) → set.contains (row_of out u) v ≡ has_arc_to g u v
  arc_is u v = sym (has_arc_to-digraph_of a u v) ∙ ap (λ h. has_arc_to h u v) e

  arc_back_is : (u v : ℕ) → set.contains (row_of into v) u ≡ has_arc_to g u v
  arc_back_is u v = sym (a.both_ways u v) ∙ arc_is u v

  -- what `out[u]` and `into[v]` give
  out_read : (u : ℕ) → u < limit → (x : NameSet) → x ≡ get_or out u x → x ≡ row_of out u
  out_read u name x read = let inside : u < length out = omega (arith, a.out_each) in get_or_read out u x inside read set.empty

  into_read : (u : ℕ) → u < limit → (x : NameSet) → x ≡ get_or into u x → x ≡ row_of into u
  into_read u name x read = let inside : u < length into = omega (arith, a.into_each) in get_or_read into u x inside read set.empty

  pub arc_bit : (u v : ℕ) → u < limit → (x : NameSet) → x ≡ get_or out u x → set.contains x v ≡ has_arc_to g u v
  arc_bit u v name x read = ap (λ s. set.contains s v) (out_read u name x read) ∙ arc_is u v

  pub successors_are : (u : ℕ) → u < limit → (x : NameSet) → x ≡ get_or out u x → x ≡ successors g u
  successors_are u name x read = same_set _ _ (λ v. arc_bit u v name x read ∙ sym (contains-successors digraph_is u v))

  pub predecessors_are : (v : ℕ) → v < limit → (x : NameSet) → x ≡ get_or into v x → x ≡ predecessors g v
  predecessors_are v name x read =
      same_set _ _ (λ u. ap (λ s. set.contains s u) (into_read v name x read) ∙ arc_back_is u v ∙ sym (contains-predecessors digraph_is v u))

  -- no arc leaves a number that is no name
  pub no_arc_from : (u v : ℕ) → limit ≤ u → has_arc_to g u v ≡ false
  no_arc_from u v past = false_from_ne_true _ (λ h. let name = still_below u (digraph_is.tail u v h) in omega arith)

  -- more rows, those behind the old ones without members
  pub rows_grown : (out' into' : List NameSet) → ((v : ℕ) → row_of out' v ≡ row_of out v) → ((v : ℕ) → row_of into' v ≡ row_of into v) → (more : ℕ) → length out' ≡ more → length into' ≡ more → limit ≤ more → more ≤ DIRECTED_NAMES → AreArcRows more live out' into' × (digraph_of live out' ≡ g)
  rows_grown out' into' same_out same_into more n_out n_into above few =
      let below : AllBelow g.vertices more = λ v m. (let old = still_below v m in omega arith) in
      rows_of_digraph digraph_is below few (ap (λ h. h.vertices) e) n_out n_into
      (λ u v. ap (λ s. set.contains s v) (same_out u) ∙ arc_is u v)
      (λ u v. ap (λ s. set.contains s u) (same_into v) ∙ arc_back_is u v)

  pub rows_add_vertex : (v : ℕ) → v < limit → {new : NameSet} → new ≡ set.insert live v → AreArcRows limit new out into × (digraph_of new out ≡ digraph_with_vertex g v)
  rows_add_vertex v name {new} is_new =
      rows_of_digraph (IsDigraph-with_vertex digraph_is v (let few = a.few in omega arith))
      (λ w m. elim (of_insert g.vertices v w m) [ inl same ↦ omega arith | inr old ↦ still_below w old ])
      a.few (is_new ∙ ap (λ h. set.insert h.vertices v) e) a.out_each a.into_each
      (λ x y. arc_is x y ∙ sym (has_arc_to-with_vertex g v x y))
      (λ x y. arc_back_is x y ∙ sym (has_arc_to-with_vertex g v x y))

  pub rows_add_arc : (u v : ℕ) → Has g.vertices u → Has g.vertices v → u ≢ v → {new_u old_u new_v old_v : NameSet} → new_u ≡ set.insert old_u v → old_u ≡ get_or out u old_u → new_v ≡ set.insert old_v u → old_v ≡ get_or into v old_v → AreArcRows limit live (set out u new_u) (set into v new_v) × (digraph_of live (set out u new_u) ≡ with_arc g u v)
  rows_add_arc u v mu mv differ {new_u} {old_u} {new_v} {old_v} is_u read_u is_v read_v =
      rows_of_digraph (IsDigraph-with_arc digraph_is u v mu mv differ) still_below a.few (ap (λ h. h.vertices) e)
      (length-set out u new_u ∙ a.out_each) (length-set into v new_v ∙ a.into_each)
      (λ x y. set_row out u v x y new_u old_u inside_u is_u (out_read u name_u old_u read_u) ∙ ap (λ t. ((x == u) && (y == v)) || t) (arc_is x y) ∙ sym (has_arc_to-with_arc g u v x y))
      (λ x y. set_row into v u y x new_v old_v inside_v is_v (into_read v name_v old_v read_v) ∙ turned (y == v) (x == u) _ ∙ ap (λ t. ((x == u) && (y == v)) || t) (arc_back_is x y) ∙ sym (has_arc_to-with_arc g u v x y))
    where
      name_u : u < limit
      name_u = still_below u mu

      name_v : v < limit
      name_v = still_below v mv

      inside_u : u < length out
      inside_u = let n = a.out_each in let name = name_u in omega arith

      inside_v : v < length into
      inside_v = let n = a.into_each in let name = name_v in omega arith

      turned : (p q r : Bool) → ((p && q) || r) ≡ ((q && p) || r)
      turned p q r = grind arith

      -- a row that takes in one name
      set_row : (rows : List NameSet) (at k x y : ℕ) (new old : NameSet) → at < length rows → new ≡ set.insert old k → old ≡ row_of rows at → set.contains (row_of (set rows at new) x) y ≡ (((x == at) && (y == k)) || set.contains (row_of rows x) y)
      set_row rows at k x y new old inside is row =
          contains-set_row rows at new x y inside
          ∙ elim (cases_eq x at) [
            | inl same ↦ rw (same, eq-eqb at at refl) (ap (λ s. set.contains s y) is ∙ contains-insert old k y ∙ ap (λ s. (y == k) || set.contains s y) row)
            | inr other ↦ rw (ne_eqb x at other) refl
          ]

  -- a name that is no vertex has empty rows
  out_dead : (u : ℕ) → set.contains live u ≡ false → row_of out u ≡ set.empty
  out_dead u dead =
      same_set (row_of out u) set.empty (λ v. false_from_ne_true _ (λ h. true≢false (sym (a.tail u v h) ∙ dead)) ∙ sym (contains-empty v))

  into_dead : (u : ℕ) → set.contains live u ≡ false → row_of into u ≡ set.empty
  into_dead u dead =
      same_set (row_of into u) set.empty (λ v. false_from_ne_true _ (λ h. true≢false (sym (a.head v u (a.both_ways v u ∙ h)) ∙ dead)) ∙ sym (contains-empty v))

-- rows without members are those of the directed graph without vertices
pub rows_new : {limit : ℕ} {live : NameSet} {out into : List NameSet} → limit ≤ DIRECTED_NAMES → live ≡ set.empty → length out ≡ limit → length into ≡ limit → ((v : ℕ) → row_of out v ≡ set.empty) → ((v : ℕ) → row_of into v ≡ set.empty) → AreArcRows limit live out into × (digraph_of live out ≡ empty_digraph)
rows_new few none n_out n_into no_out no_into =
    rows_of_digraph IsDigraph-empty_digraph (λ v m. absurd (true≢false (sym m ∙ contains-empty v))) few none n_out n_into
    (λ u v. ap (λ s. set.contains s v) (no_out u) ∙ contains-empty v ∙ sym (has_arc_to-empty_digraph u v))
    (λ u v. ap (λ s. set.contains s u) (no_into v) ∙ contains-empty u ∙ sym (has_arc_to-empty_digraph u v))

-- no row is made yet
pub no_rows_yet : {live : NameSet} {out into : List NameSet} → live ≡ set.empty → out ≡ [] → into ≡ [] → (n : ℕ) → n ≡ 0 → AreArcRows n live out into × (digraph_of live out ≡ empty_digraph)
no_rows_yet none no_out no_into n zero =
    rows_new (omega (arith, zero)) none (ap length no_out ∙ sym zero) (ap length no_into ∙ sym zero) (λ v. ap (λ r. row_of r v) no_out) (λ v. ap (λ r. row_of r v) no_into)

-- the rows of one family after those of the vertices are cleared
cleared_row : (live : NameSet) (rows : List NameSet) (n : ℕ) (old ws : List NameSet) → n ≡ length rows → old ≡ rows → length ws ≡ length old → ((u : ℕ) → row_of ws u ≡ cond (set.contains live u) set.empty (row_of old u)) → ((u : ℕ) → set.contains live u ≡ false → row_of rows u ≡ set.empty) → (length (refill n rows ws) ≡ length rows) × ((u : ℕ) → row_of (refill n rows ws) u ≡ set.empty)
cleared_row live rows n old ws len same kept cleared dead =
    let same_len = ap length same in
    let whole = refilled n rows ws (omega arith) in (
      ap length whole ∙ kept ∙ same_len,
      λ u. ap (λ r. row_of r u) whole ∙ cleared u ∙ elim (cases_Bool (set.contains live u)) [
        | inl t ↦ rw t refl
        | inr f ↦ rw (f, same) (dead u f)
      ],
    )

pub rows_clear : {limit : ℕ} {live : NameSet} {out into : List NameSet} → AreArcRows limit live out into → (n m : ℕ) (old_out ws_out old_into ws_into : List NameSet)
    → n ≡ length out → old_out ≡ out → length ws_out ≡ length old_out → ((u : ℕ) → row_of ws_out u ≡ cond (set.contains live u) set.empty (row_of old_out u))
    → m ≡ length into → old_into ≡ into → length ws_into ≡ length old_into → ((u : ℕ) → row_of ws_into u ≡ cond (set.contains live u) set.empty (row_of old_into u))
    → {new : NameSet} → new ≡ set.empty → AreArcRows limit new (refill n out ws_out) (refill m into ws_into) × (digraph_of new (refill n out ws_out) ≡ empty_digraph)
rows_clear {limit} {live} {out} {into} a n m old_out ws_out old_into ws_into len_out same_out kept_out each_out len_into same_into kept_into each_into none =
    let of_out = cleared_row live out n old_out ws_out len_out same_out kept_out each_out (out_dead a refl) in
    let of_into = cleared_row live into m old_into ws_into len_into same_into kept_into each_into (into_dead a refl) in
    rows_new a.few none (of_out.0 ∙ a.out_each) (of_into.0 ∙ a.into_each) of_out.1 of_into.1
