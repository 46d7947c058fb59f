-- A vertex more of a cotree: the first, or one beside others.
use Rattle.std.proofs.Common.{◌≡◌, ◌≢◌, ℕ, ◌+◌, ◌*◌, ◌<◌, ◌≤◌, ◌^◌, ◌↔◌, Bool, true, false, cond, ◌&&◌, ◌||◌, ◌==◌, List, [], ◌∷◌, length, Result, Ok, Err, Option, Some, None, refl, sym, ◌∙◌, ap, subst, inl, inr, arith}
use Rattle.std.proofs.lemmas.Bool.{cases_eq, cases_lt, false_from_ne_true, eq-eqb, eqb-true}
use Rattle.std.proofs.lemmas.List.Elements.{All-head, All-tail}
use Rattle.std.proofs.lemmas.Option.{same_Some}
use Rattle.std.specs.Result.{OnOk, IsErr}
use Rattle.std.specs.List.{All}
use Rattle.std.specs.List.Sorted.{IsStrictlyIncreasing}
use Rattle.std.specs.FinSet as set_of
use Rattle.std.specs.Option.{option_map}
use Rattle.md_graph.specs.declared.TheConstants.{NAMES}
use Rattle.md_graph.specs.Sets.{Has, Lacks}
use Rattle.md_graph.specs.PlainGraph.{PlainGraph, IsGraph, adjacent, empty_graph, with_vertex, joined_graph}
use Rattle.md_graph.proofs.SetLemmas.{clash, empty_lacks, insert_new, of_only}
use Rattle.md_graph.proofs.GraphLemmas.{same_graph, adjacent_ends, IsGraph-empty_graph, adjacent-empty_graph, IsGraph-with_vertex, adjacent-with_vertex, IsGraph-with_edges, adjacent-with_edges}
use Rattle.md_modules.specs.InducedPaths.{HasInducedPath}
use Rattle.md_lists.specs.declared.TheConstants.{PLACES}
use Rattle.md_lists.specs.declared.kinds.PlaceKind.TheVariants.{Leaf}
use Rattle.md_lists.specs.Words.{holds_once}
use Rattle.md_graph.specs.Linked.{times}
use Rattle.md_lists.specs.Links.{Links, kind_at, AreLinks, with_kind, spare_count}
use Rattle.md_tree.specs.TreeGraph.{graph_of_tree}
use Rattle.md_cotree.specs.declared.cotree.Cotree.{Cotree}
use Rattle.md_cotree.specs.PlaceTrees.{PlaceTree, tip, no_more, then, place_of, leaves_in, leaf_count, shape, FillsLists}
use Rattle.md_cotree.specs.Cotrees.{AreEntries, place_at, IsKeptAs, Denotes}
use Rattle.md_cotree.specs.Forests.{IsForest}
use Rattle.md_cotree.proofs.Frames.{hit, miss}
use Rattle.md_cotree.proofs.Growing.{leaf_named, leaf_forest}
use Rattle.md_cotree.proofs.Leaves.{no_place}
use Rattle.md_cotree.proofs.Kept.{one_graph}
use Rattle.md_cotree.proofs.NoPaths.{cotree_no_path}
use Rattle.md_cotree.proofs.Room.{room}
use Rattle.md_cotree.proofs.TreeGraphs.{some_graph}
use Rattle.md_cotree_edit.specs.Counts.{name_in}
use Rattle.md_cotree_edit.specs.Contexts.{AreTreesKept}
use Rattle.md_cotree_edit.specs.Marks.{CanTake, hits_in, full_in, none_walked, TellMarks, AreStill, ClimbView, CanMarkAll, CanTakeIn, CanGrow, IsLinkedIn}
use Rattle.md_cotree_edit.proofs.Trees.SameRows.{SameTree, tree_name, tree_edge}
use Rattle.md_cotree_edit.proofs.Trees.KeptTrees.{no_parent, same_root, from_fits, to_fits}
use Rattle.md_cotree_edit.proofs.Trees.AdjacencyByCounts.{AreNamed, graph_in, counted_has, has_counted}
use Rattle.md_cotree_edit.proofs.Insertions.TakenGraph.{lacks_listed, inserted_graph, witness_path}
use Rattle.md_cotree_edit.proofs.Insertions.PathByVertex.{take_or_breach}
use Rattle.md_cotree_edit.proofs.Trees.KeptNames.{few_leaves, kept_tips, kept_named, kept_room}
use Rattle.md_cotree_edit.proofs.EdgeTurns.ApartByParents.{leaf_name}
use Rattle.md_cotree_edit.proofs.Marks.OnlyMarksDiffer.{kept_still, still_spare, still_same}
use Rattle.md_cotree_edit.proofs.Marks.MarkedAll.{hits_none, hits_more}
use Rattle.md_cotree_edit.proofs.Marks.MarksAroundHole.{full_low}
use Rattle.md_cotree_edit.proofs.Insertions.MarkedNames.{none_of_low, few_hits, full_of_hits, hits_of_full}
use Rattle.md_cotree_edit.proofs.Insertions.NewLeaf.{WholeBeside, taken_all}
use Rattle.md_cotree_edit.proofs.Trees.GraphWithoutName.{leaves_few}
use Rattle.md_graph.proofs.NameLemmas.{increases_rest}

-- ---- the first vertex

-- no vertex is a row without trees
empty_forest : (c : Cotree) → IsKeptAs c None → AreLinks c.lists → IsForest c [] no_more
empty_forest c kept ok = record {
  fits = kept.fits;
  links = ok;
  on_stack = refl;
  entries = kept.entries;
  names = kept.names;
  leaves = kept.leaves;
  unmarked = kept.unmarked;
}

pub first_room : (c : Cotree) → IsKeptAs c None → AreLinks c.lists → 0 < spare_count c.lists
first_room c kept ok = let all = room c.lists no_more ok kept.fits in omega arith

pub first_fits : (c : Cotree) → IsKeptAs c None → c.leaves + 1 < 2 ^ 32
first_fits c kept = let none = kept.leaves in omega arith

module _ (x : ℕ) (within : x < NAMES) where
  -- the graph of one leaf
  leaf_graph : (p : ℕ) → graph_in (tip p x) ≡ with_vertex empty_graph x
  leaf_graph p =
      same_graph is_graph (IsGraph-with_vertex IsGraph-empty_graph x within) refl (λ a b. none a b ∙ sym (adjacent-with_vertex empty_graph x a b ∙ adjacent-empty_graph a b))
    where
      is_graph : IsGraph (graph_in (tip p x))
      is_graph = some_graph (shape (tip p x)) (λ v h. subst (λ z. z < NAMES) (sym (of_only x v h)) within)

      none : (a b : ℕ) → adjacent (graph_in (tip p x)) a b ≡ false
      none a b = false_from_ne_true _ (λ j. let ends = adjacent_ends is_graph a b j in ends.2 (of_only x a ends.0 ∙ sym (of_only x b ends.1)))

  -- no vertex has a neighbour to be
  joined_none : joined_graph empty_graph x [] ≡ with_vertex empty_graph x
  joined_none =
      same_graph
      (IsGraph-with_edges one x (set_of.from_list []) (insert_new set_of.empty x) (λ w h. clash h (lacks_listed [] w refl)) (lacks_listed [] x refl)) one refl
      (λ a b. adjacent-with_edges (with_vertex empty_graph x) x (set_of.from_list []) (λ w h. clash h (lacks_listed [] w refl)) a b
      ∙ (λ i. (((a == x) && lacks_listed [] b refl i) || ((b == x) && lacks_listed [] a refl i)) || adjacent (with_vertex empty_graph x) a b)
      ∙ last (a == x) (b == x) (adjacent (with_vertex empty_graph x) a b))
    where
      one : IsGraph (with_vertex empty_graph x)
      one = IsGraph-with_vertex IsGraph-empty_graph x within

      last : (p q r : Bool) → (((p && false) || (q && false)) || r) ≡ r
      last true true r = refl
      last true false r = refl
      last false true r = refl
      last false false r = refl

  pub planted : (c d : Cotree) → IsKeptAs c None → AreLinks c.lists → (p : ℕ) → kind_at c.lists p ≡ None → p < PLACES → d.lists ≡ with_kind c.lists p (Some (Leaf x)) → AreLinks d.lists →
      ((w : ℕ) → place_at d w ≡ cond (w == x) (Some p) (place_at c w)) → AreEntries d.places → d.root ≡ Some p → d.leaves ≡ c.leaves + 1 → Denotes d (joined_graph empty_graph x [])
  planted c d kept ok p free inside made links placed entries root counted = (
    Some (tip p x),
    record {
      fits = forest.fits;
      root = root;
      entries = forest.entries;
      names = forest.names;
      leaves = forest.leaves;
      alternates = (tt, tt);
      unmarked = forest.unmarked;
    },
    leaf_graph p ∙ sym joined_none,
  )
    where
      forest : IsForest d (p ∷ []) (then (tip p x) no_more)
      forest =
          leaf_forest c d [] (p ∷ []) x p free inside made links placed entries counted refl
          (no_parent (place_at c x) (λ q. sym (kept.names x q))) no_more (empty_forest c kept ok)

-- ---- a vertex beside others

hits_listed : (ns : List ℕ) (t : PlaceTree) → ((v : ℕ) → 0 < times v ns → name_in v t ≡ 1) → hits_in (λ v. times v ns) t ≡ length ns
hits_listed [] t there = hits_none t
hits_listed (n ∷ ns) t there =
    let first = there n (let h = hit n n refl in omega arith) in
    let rest = hits_listed ns t (λ v some. there v (omega arith)) in
    let e = hits_more (λ v. times v ns) n t in
    omega arith

module _ (c : Cotree) (x : ℕ) (ns : List ℕ) (t : PlaceTree) (can : CanGrow c x ns t) (ok : AreLinks c.lists) where
  pub kept_lists : AreTreesKept c.lists (then t no_more)
  kept_lists = from_fits c.lists t ok can.kept.fits

  pub grow_marks : (places : List (Option ℕ)) → places ≡ c.places.items → CanMarkAll c.lists places ns t
  grow_marks places is = subst (λ ps. CanMarkAll c.lists ps ns t) (sym is) (record {
    kept = kept_lists;
    alternates = can.kept.alternates.0;
    unmarked = can.kept.unmarked;
    different = can.different;
    once = can.there;
    leaves = λ v some. go v (can.there v some) (place_at c v) refl;
  })
    where
      go : (v : ℕ) → name_in v t ≡ 1 → (o : Option ℕ) → place_at c v ≡ o → (p : ℕ) × (place_at c v ≡ Some p) × (leaves_in p v t ≡ 1)
      go v one None is = clash (counted_has t v (omega arith)) (no_place c t can.kept v is)
      go v one (Some p) is = (p, is, kept_tips c t can.kept p v is p ∙ ap (λ b. cond b 1 0) (eq-eqb p p refl))

  pub grow_room : 3 < spare_count c.lists
  grow_room = kept_room c t can.kept ok

  pub grow_fits : c.leaves + 1 < 2 ^ 32
  grow_fits = let e = can.kept.leaves in let low = few_leaves t (kept_named c t can.kept) in omega arith

  pub grow_hits : hits_in (λ v. times v ns) t ≡ length ns
  grow_hits = hits_listed ns t can.there

  -- as many neighbours as leaves are all names
  grow_all : length ns ≡ c.leaves → full_in (λ v. times v ns) t ≡ 1
  grow_all all = full_of_hits (λ v. times v ns) can.different t (let e = grow_hits in let f = can.kept.leaves in omega arith)

  grow_not_all : length ns ≢ c.leaves → full_in (λ v. times v ns) t ≡ 0
  grow_not_all other =
      none_of_low (full_in (λ v. times v ns) t) (full_low (λ v. times v ns) can.different t) (λ full. other
      (let e = grow_hits in let f = can.kept.leaves in let g = hits_of_full (λ v. times v ns) can.different t full in omega arith))

  pub grow_top : (top : ℕ) → c.root ≡ Some top → place_of t ≡ top
  grow_top top is = same_Some (place_of t) top (sym can.kept.root ∙ is)

  pub grow_joined : length ns ≡ c.leaves → (l : Links) (r : Option ℕ) (leaf : ℕ) →
      WholeBeside true t l r leaf x → IsLinkedIn l r (λ v. times v ns) x leaf t
  grow_joined all l r leaf is = taken_all (λ v. times v ns) can.different t can.kept.alternates.0 (grow_all all) l r leaf x is

  module _ (k : Links) (still : AreStill c.lists k) (told : TellMarks k (λ v. times v ns) none_walked t) where
    abbrev pub grow_view : ClimbView
    grow_view = record { marks = λ v. times v ns; tree = t }

    pub grow_take : length ns ≢ c.leaves → CanTakeIn k c.root x grow_view
    grow_take other = record {
      climb = record {
        kept = kept_still c.lists k (then t no_more) still kept_lists;
        told = told;
        marks = can.different;
        alternates = can.kept.alternates.0;
      };
      root = can.kept.root;
      fresh = can.fresh;
      not_all = grow_not_all other;
    }

    pub marked_room : 3 < spare_count k
    marked_room = subst (λ n. 3 < n) (sym (still_spare c.lists k still)) grow_room

  pub grow_none : (none : Bool) → (none ≡ true) ↔ (length ns ≡ 0) → (none ≡ true) ↔ (hits_in (λ v. times v ns) t ≡ 0)
  grow_none none is = ((λ e. grow_hits ∙ is.0 e), (λ e. is.1 (sym grow_hits ∙ e)))

  -- the steps of both calls
  pub grow_bound : (k : Links) → AreStill c.lists k → TellMarks k (λ v. times v ns) none_walked t → length ns ≢ c.leaves → (none : Bool) → (none ≡ true) ↔ (length ns ≡ 0) → (begun marked ended : ℕ) → marked ≤ begun + 10 * length ns →
      ((d : ClimbView) → CanTakeIn k c.root x d → (none ≡ true) ↔ (hits_in d.marks d.tree ≡ 0) → ended ≤ marked + 23 + 64 * hits_in d.marks d.tree) → ended ≤ begun + 23 + 74 * length ns
  grow_bound k still told other none is begun marked ended few more =
      let e = more (grow_view k still told) (grow_take k still told other) (grow_none none is) in
      let low = few in
      let hits = grow_hits in
      omega arith

  -- refused, it is as it was
  pub grow_same : (m : Links) (r : Option ℕ) → AreLinks m → AreStill c.lists m → m.marked ≡ [] → r ≡ c.root → ◌≡◌ {A = Cotree} (record c { lists = m; root = r }) c
  grow_same m r ok_m still unmarked root =
      let same = still_same c.lists m ok ok_m still can.kept.unmarked unmarked in
      λ i. record c { lists = same i; root = root i }

  module _ (d : Cotree) (leaf : ℕ) (placed : (w : ℕ) → place_at d w ≡ cond (w == x) (Some leaf) (place_at c w)) (entries : AreEntries d.places) (counted : d.leaves ≡ c.leaves + 1) (ok_d : AreLinks d.lists) (unmarked : d.lists.marked ≡ [])
      (taken : IsLinkedIn d.lists d.root (λ v. times v ns) x leaf t) where
    found : (s : PlaceTree) × FillsLists d.lists (then s no_more) × SameTree taken.tree s
    found = to_fits d.lists ok_d taken.tree taken.kept

    absent : place_at c x ≡ None
    absent = no_parent (place_at c x) (λ q. let e = can.kept.names x q in let low = leaf_name q x t in let none = can.fresh in omega arith)

    grown_kept : IsKeptAs d (Some found.0)
    grown_kept = record {
      fits = found.1;
      root = taken.root ∙ ap Some (sym (same_root taken.tree found.0 found.2));
      entries = entries;
      names = λ v p.
          let e = found.2.tips p v in
          let f = taken.inserted.tips p v in
          let named : cond ((leaf == p) && (x == v)) 1 0 + (leaves_in p v t + 0) ≡ holds_once (place_at d v) p =
          leaf_named c.places.items d.places.items x leaf placed absent (then t no_more) can.kept.names v p in
          omega arith;
      leaves = let e = found.2.leaves in let f = taken.inserted.leaves in let g = can.kept.leaves in omega arith;
      alternates = found.2.alternates (taken.alternates, tt);
      unmarked = unmarked;
    }

    pub grown : Denotes d (joined_graph (graph_in t) x ns)
    grown = (
      Some found.0,
      grown_kept,
      inserted_graph t (kept_named c t can.kept) x can.within can.fresh ns can.different can.there found.0 leaf (record {
        tips = λ p v. let e = found.2.tips p v in let f = taken.inserted.tips p v in omega arith;
        named = λ v. tree_name taken.tree found.0 found.2 v ∙ taken.inserted.named v;
        edges = λ a b. tree_edge taken.tree found.0 found.2 a b ∙ taken.inserted.edges a b;
        leaves = let e = found.2.leaves in let f = taken.inserted.leaves in omega arith;
      }),
    )

-- a list is empty as far as it has no item
pub decided_none : (none : Bool) (ns : List ℕ) → none ≡ (length ns == 0) → (none ≡ true) ↔ (length ns ≡ 0)
decided_none none ns is = ((λ e. eqb-true (length ns) 0 (sym is ∙ e)), (λ e. is ∙ eq-eqb (length ns) 0 e))

-- ---- from the graph

-- in an ascending list each name stands once
above_first : (n v : ℕ) (ns : List ℕ) → IsStrictlyIncreasing (n ∷ ns) → 0 < times v ns → n < v
above_first n v [] is some = absurd (omega arith)
above_first n v (m ∷ ms) is some =
    let first : n < m = is 0 (omega arith) in
    elim (cases_eq m v) [
      | inl same ↦ omega arith
      | inr other ↦ let e = miss m v other in let rest = above_first m v ms (increases_rest n (m ∷ ms) is) (omega arith) in omega arith
    ]

listed_once : (ns : List ℕ) → IsStrictlyIncreasing ns → (v : ℕ) → times v ns ≤ 1
listed_once [] is v = omega arith
listed_once (n ∷ ns) is v =
    let rest = listed_once ns (increases_rest n ns is) v in
    elim (cases_eq n v) [
      | inl same ↦
          let h = hit n v same in
          elim (cases_lt 0 (times v ns)) [ inl some ↦ absurd (let above = above_first n v ns is some in omega arith) | inr none ↦ omega arith ]
      | inr other ↦ let e = miss n v other in omega arith
    ]

all_listed : (P : ℕ → Type 0) (ns : List ℕ) → All P ns → (v : ℕ) → 0 < times v ns → P v
all_listed P [] all v some = absurd (omega arith)
all_listed P (n ∷ ns) all v some =
    elim (cases_eq n v) [
      | inl same ↦ subst P same (All-head P n ns all)
      | inr other ↦ all_listed P ns (All-tail P n ns all) v (let e = miss n v other in omega arith)
    ]

-- what an insertion meets
abbrev CanAdd : Cotree → ℕ → List ℕ → Type 0
CanAdd c x ns = (g : PlainGraph) × Denotes c g × (x < NAMES) × Lacks g.vertices x × All (Has g.vertices) ns × IsStrictlyIncreasing ns

pub none_some : {p : ℕ} → ◌≡◌ {A = Option ℕ} None (Some p) → ⊥
none_some e = absurd (cc)

module _ (c : Cotree) (x : ℕ) (ns : List ℕ) (can : CanAdd c x ns) where
  -- there is no vertex
  module _ (rootless : c.root ≡ None) where
    nothing : IsKeptAs c None × (can.0 ≡ empty_graph)
    nothing = go can.1.0 can.1.1 can.1.2
      where
        go : (o : Option PlaceTree) → IsKeptAs c o → graph_of_tree (option_map shape o) ≡ can.0 → IsKeptAs c None × (can.0 ≡ empty_graph)
        go None kept is = (kept, sym is)
        go (Some t) kept is = absurd (none_some (sym rootless ∙ kept.root))

    no_neighbours : ns ≡ []
    no_neighbours = go ns can.4
      where
        go : (ns : List ℕ) → All (Has can.0.vertices) ns → ns ≡ []
        go [] all = refl
        go (n ∷ ns) all = clash (subst (λ g. Has g.vertices n) nothing.1 (All-head (Has can.0.vertices) n ns all)) (empty_lacks n)

    pub first_done : (d : Cotree) → Denotes d (joined_graph empty_graph x []) → (g : PlainGraph) → Denotes c g → Denotes d (joined_graph g x ns)
    first_done d is g den =
        subst (λ h. Denotes d (joined_graph h x ns)) (sym nothing.1 ∙ one_graph c can.0 g can.1 den) (subst (λ l. Denotes d (joined_graph empty_graph x l)) (sym no_neighbours) is)

  -- there is one
  module _ (top : ℕ) (rooted : c.root ≡ Some top) where
    abbrev kept_t : (t : PlaceTree) × IsKeptAs c (Some t) × (graph_in t ≡ can.0)
    kept_t = go can.1.0 can.1.1 can.1.2
      where
        go : (o : Option PlaceTree) → IsKeptAs c o → graph_of_tree (option_map shape o) ≡ can.0 → (t : PlaceTree) × IsKeptAs c (Some t) × (graph_in t ≡ can.0)
        go None kept is = absurd (none_some (sym kept.root ∙ rooted))
        go (Some t) kept is = (t, kept, is)

    abbrev pub old_tree : PlaceTree
    old_tree = kept_t.0

    named : AreNamed old_tree
    named = kept_named c old_tree kept_t.1

    pub can_grow : CanGrow c x ns old_tree
    can_grow = record {
      kept = kept_t.1;
      within = can.2;
      fresh = elim (cases_lt 0 (name_in x old_tree)) [
        | inl some ↦ clash (subst (λ g. Has g.vertices x) kept_t.2 (counted_has old_tree x some)) can.3
        | inr none ↦ omega arith
      ];
      different = listed_once ns can.5;
      there = λ v some.
          let has = has_counted old_tree v (subst (λ g. Has g.vertices v) (sym kept_t.2) (all_listed (Has can.0.vertices) ns can.4 v some)) in
          let once = named.once v in
          omega arith;
    }

    to_graph : (g : PlainGraph) → Denotes c g → graph_in old_tree ≡ g
    to_graph g den = kept_t.2 ∙ one_graph c can.0 g can.1 den

    -- as many neighbours as vertices are as many as leaves
    pub all_leaves : (g : PlainGraph) → Denotes c g → length ns ≡ set_of.len g.vertices → length ns ≡ c.leaves
    all_leaves g den all =
        let few : leaf_count old_tree ≤ set_of.len g.vertices = subst (λ h. leaf_count old_tree ≤ set_of.len h.vertices) (to_graph g den) (leaves_few old_tree named) in
        let low = few_hits (λ v. times v ns) can_grow.different old_tree in
        let hits = hits_listed ns old_tree can_grow.there in
        let leaves = kept_t.1.leaves in
        omega arith

    pub grow_done : (d : Cotree) → Denotes d (joined_graph (graph_in old_tree) x ns) → (g : PlainGraph) → Denotes c g → Denotes d (joined_graph g x ns)
    grow_done d is g den = subst (λ h. Denotes d (joined_graph h x ns)) (to_graph g den) is

    -- refused, the graph with the vertex has an induced path
    pub refused_path : (CanTake (λ v. times v ns) old_tree → ⊥) → (g : PlainGraph) → Denotes c g → HasInducedPath (adjacent (joined_graph g x ns)) (joined_graph g x ns).vertices
    refused_path never g den =
        subst (λ h. HasInducedPath (adjacent (joined_graph h x ns)) (joined_graph h x ns).vertices) (to_graph g den)
        (elim (take_or_breach (λ v. times v ns) can_grow.different old_tree kept_t.1.alternates.0 named.once) [
          | inl takes ↦ absurd (never takes)
          | inr witness ↦ witness_path old_tree named x can.2 can_grow.fresh ns can_grow.different can_grow.there witness
        ])

-- done, it has none
pub done_no_path : (d : Cotree) (g : PlainGraph) (x : ℕ) (ns : List ℕ) → Denotes d (joined_graph g x ns) → HasInducedPath (adjacent (joined_graph g x ns)) (joined_graph g x ns).vertices → ⊥
done_no_path d g x ns is path = cotree_no_path d (joined_graph g x ns) is path

-- what can't be done is refused
pub err_of_not_ok : {T E : Type 0} → (r : Result T E) → OnOk r ⊥ → IsErr r
err_of_not_ok (Ok x) none = absurd none
err_of_not_ok (Err e) none = refl
