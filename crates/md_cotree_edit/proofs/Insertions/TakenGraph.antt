-- The graph of a tree that has taken a new leaf in, and the induced path where it can't.
use Rattle.std.proofs.Common.{◌≡◌, ◌≢◌, ℕ, ◌*◌, ◌<◌, ◌≤◌, Bool, true, false, cond, ◌&&◌, ◌||◌, ◌==◌, List, [], ◌∷◌, refl, sym, ◌∙◌, ap, subst, inl, inr, arith}
use Rattle.std.proofs.lemmas.Bool.{cases_eq, cases_lt, eq-eqb, ne_eqb, false_from_ne_true}
use Rattle.std.specs.FinSet as set
use Rattle.std.specs.FinSet.{contains-from_list_nat}
use Rattle.std.specs.List.{list_any}
use Rattle.std.specs.Ordering.{nat_cmp}
use Rattle.md_graph.specs.declared.TheConstants.{NAMES}
use Rattle.md_graph.specs.Sets.{Has, Lacks}
use Rattle.md_graph.specs.PlainGraph.{PlainGraph, IsGraph, adjacent, with_vertex, joined_graph}
use Rattle.md_graph.proofs.SetLemmas.{clash, insert_new, insert_old, of_insert, same_members}
use Rattle.md_graph.proofs.GraphLemmas.{adjacent_ends, adjacent_self, adjacent_sym, IsGraph-with_vertex, adjacent-with_vertex, IsGraph-with_edges, adjacent-with_edges}
use Rattle.md_modules.specs.InducedPaths.{HasInducedPath}
use Rattle.md_modules.proofs.Paths.{path_of_values}
use Rattle.md_modules.proofs.Turns.{graph_adjacency}
use Rattle.md_graph.specs.Linked.{times}
use Rattle.md_tree.specs.Trees.{names}
use Rattle.md_cotree.specs.PlaceTrees.{PlaceTree, shape}
use Rattle.md_cotree.proofs.Frames.{hit, miss}
use Rattle.md_cotree.proofs.TreeGraphs.{some_graph}
use Rattle.md_cotree_edit.specs.Counts.{name_in, edge_in}
use Rattle.md_cotree_edit.specs.Marks.{IsInserted}
use Rattle.md_cotree_edit.proofs.Trees.LocalCounts.{edge_none}
use Rattle.md_cotree_edit.proofs.Trees.AdjacencyByCounts.{AreNamed, graph_in, told_graph, same_value, counted_has, has_counted, graph_by_pairs}
use Rattle.md_cotree_edit.proofs.Insertions.PathByVertex.{Witness}

-- a name of the list is in the set of its names, and no other is
listed : (ns : List ℕ) (b : ℕ) → set.contains (set.from_list {R = nat_cmp} ns) b ≡ list_any (λ y. y == b) ns
listed ns b = contains-from_list_nat ns b

any_some : (ns : List ℕ) (b : ℕ) → 0 < times b ns → list_any (λ y. y == b) ns ≡ true
any_some [] b some = absurd (omega arith)
any_some (n ∷ ns) b some =
    elim (cases_eq n b) [
      | inl same ↦ ap (λ t. t || list_any (λ y. y == b) ns) (eq-eqb n b same)
      | inr other ↦ (λ i. ne_eqb n b other i || any_some ns b (let m = miss n b other in omega arith) i)
    ]

any_none : (ns : List ℕ) (b : ℕ) → times b ns ≡ 0 → list_any (λ y. y == b) ns ≡ false
any_none [] b none = refl
any_none (n ∷ ns) b none =
    let other : n ≡ b → ⊥ = λ e. (let h = hit n b e in omega arith) in
    (λ i. ne_eqb n b other i || any_none ns b (let m = miss n b other in omega arith) i)

pub has_listed : (ns : List ℕ) (b : ℕ) → 0 < times b ns → Has (set.from_list {R = nat_cmp} ns) b
has_listed ns b some = listed ns b ∙ any_some ns b some

pub lacks_listed : (ns : List ℕ) (b : ℕ) → times b ns ≡ 0 → Lacks (set.from_list {R = nat_cmp} ns) b
lacks_listed ns b none = listed ns b ∙ any_none ns b none

pub of_listed : (ns : List ℕ) (b : ℕ) → Has (set.from_list {R = nat_cmp} ns) b → 0 < times b ns
of_listed ns b h = elim (cases_lt 0 (times b ns)) [ inl some ↦ some | inr none ↦ clash h (lacks_listed ns b (omega arith)) ]

module _ (t : PlaceTree) (named : AreNamed t) (x : ℕ) (within : x < NAMES) (fresh : name_in x t ≡ 0) (ns : List ℕ) (different : (v : ℕ) → times v ns ≤ 1) (there : (v : ℕ) → 0 < times v ns → name_in v t ≡ 1) where
  abbrev g : PlainGraph
  g = graph_in t

  abbrev joined : PlainGraph
  joined = joined_graph g x ns

  is_graph : IsGraph g
  is_graph = some_graph (shape t) named.low

  lacks_x : Lacks g.vertices x
  lacks_x = false_from_ne_true _ (λ h. absurd (let some = has_counted t x h in omega arith))

  listed_has : (w : ℕ) → Has (set.from_list {R = nat_cmp} ns) w → Has g.vertices w
  listed_has w h = counted_has t w (let one = there w (of_listed ns w h) in omega arith)

  listed_low : (w : ℕ) → Has (set.from_list {R = nat_cmp} ns) w → w < NAMES
  listed_low w h = is_graph.names w (listed_has w h)

  x_unlisted : Lacks (set.from_list {R = nat_cmp} ns) x
  x_unlisted = false_from_ne_true _ (λ h. clash (listed_has x h) lacks_x)

  pub joined_is_graph : IsGraph joined
  joined_is_graph =
      IsGraph-with_edges (IsGraph-with_vertex is_graph x within) x (set.from_list ns) (insert_new g.vertices x) (λ w h. insert_old g.vertices x w (listed_has w h)) x_unlisted

  joined_tells : (a b : ℕ) → adjacent joined a b ≡ ((((a == x) && set.contains (set.from_list {R = nat_cmp} ns) b) || ((b == x) && set.contains (set.from_list {R = nat_cmp} ns) a)) || adjacent g a b)
  joined_tells a b =
      adjacent-with_edges (with_vertex g x) x (set.from_list ns) listed_low a b
      ∙ ap (λ t. (((a == x) && set.contains (set.from_list {R = nat_cmp} ns) b) || ((b == x) && set.contains (set.from_list {R = nat_cmp} ns) a)) || t) (adjacent-with_vertex g x a b)

  -- two names of the tree
  joined_old : (a b : ℕ) → a ≢ x → b ≢ x → adjacent joined a b ≡ adjacent g a b
  joined_old a b no_a no_b = joined_tells a b ∙ (λ i. ((ne_eqb a x no_a i && set.contains (set.from_list {R = nat_cmp} ns) b) || (ne_eqb b x no_b i && set.contains (set.from_list {R = nat_cmp} ns) a)) || adjacent g a b)

  -- the new name and another
  joined_new : (b : ℕ) → b ≢ x → adjacent joined x b ≡ set.contains (set.from_list {R = nat_cmp} ns) b
  joined_new b no_b =
      joined_tells x b ∙ (λ i. ((eq-eqb x x refl i && set.contains (set.from_list {R = nat_cmp} ns) b) || (ne_eqb b x no_b i && set.contains (set.from_list {R = nat_cmp} ns) x)) || off i)
      ∙ last (set.contains (set.from_list {R = nat_cmp} ns) b)
    where
      off : adjacent g x b ≡ false
      off = false_from_ne_true _ (λ j. clash (adjacent_ends is_graph x b j).0 lacks_x)

      last : (t : Bool) → (((true && t) || false) || false) ≡ t
      last true = refl
      last false = refl

  not_x : (a : ℕ) → 0 < name_in a t → a ≢ x
  not_x a some e = let h = subst (λ z. 0 < name_in z t) e some in omega arith

  old_value : (k : Bool) (a b : ℕ) → 0 < name_in a t → 0 < name_in b t → edge_in a b t ≡ cond k 1 0 → adjacent joined a b ≡ k
  old_value k a b ha hb e = joined_old a b (not_x a ha) (not_x b hb) ∙ same_value (adjacent g a b) k (sym (told_graph t named a b ha hb) ∙ e)

  new_true : (a : ℕ) → 0 < name_in a t → times a ns ≡ 1 → adjacent joined x a ≡ true
  new_true a ha e = joined_new a (not_x a ha) ∙ has_listed ns a (omega arith)

  new_false : (a : ℕ) → 0 < name_in a t → times a ns ≡ 0 → adjacent joined x a ≡ false
  new_false a ha e = joined_new a (not_x a ha) ∙ lacks_listed ns a e

  has_old : (a : ℕ) → 0 < name_in a t → Has joined.vertices a
  has_old a ha = insert_old g.vertices x a (counted_has t a ha)

  -- three names that witness it make an induced path with the new one
  pub witness_path : Witness (λ v. times v ns) t → HasInducedPath (adjacent joined) joined.vertices
  witness_path w = go w.k refl
    where
      values : IsGraph joined
      values = joined_is_graph

      go : (k : Bool) → w.k ≡ k → HasInducedPath (adjacent joined) joined.vertices
      go true e =
          path_of_values (graph_adjacency values) joined.vertices x w.a w.r w.z
          (insert_new g.vertices x, has_old w.a w.in_a, has_old w.r w.in_r, has_old w.z w.in_z) (
            new_true w.a w.in_a w.mark_a,
            old_value true w.a w.r w.in_a w.in_r (w.ar ∙ ap (λ b. cond b 1 0) e),
            old_value true w.r w.z w.in_r w.in_z (w.rz ∙ ap (λ b. cond b 1 0) e),
          ) (
            new_false w.r w.in_r (w.mark_r ∙ ap (λ b. cond b 0 1) e),
            new_false w.z w.in_z w.mark_z,
            old_value false w.a w.z w.in_a w.in_z (w.az ∙ ap (λ b. cond b 0 1) e),
          )
      go false e =
          path_of_values (graph_adjacency values) joined.vertices w.r x w.a w.z
          (has_old w.r w.in_r, insert_new g.vertices x, has_old w.a w.in_a, has_old w.z w.in_z) (
            adjacent_sym joined w.r x ∙ new_true w.r w.in_r (w.mark_r ∙ ap (λ b. cond b 0 1) e),
            new_true w.a w.in_a w.mark_a,
            old_value true w.a w.z w.in_a w.in_z (w.az ∙ ap (λ b. cond b 0 1) e),
          ) (
            adjacent_sym joined w.r w.a ∙ old_value false w.a w.r w.in_a w.in_r (w.ar ∙ ap (λ b. cond b 1 0) e),
            old_value false w.r w.z w.in_r w.in_z (w.rz ∙ ap (λ b. cond b 1 0) e),
            new_false w.z w.in_z w.mark_z,
          )

  module _ (s : PlaceTree) (leaf : ℕ) (is : IsInserted (λ v. times v ns) leaf x t s) where
    count_x : name_in x s ≡ 1
    count_x = let e = is.named x in let h = hit x x refl in omega arith

    count_old : (a : ℕ) → a ≢ x → name_in a s ≡ name_in a t
    count_old a other = let e = is.named a in let m = miss x a (λ z. other (sym z)) in omega arith

    inserted_names : names (shape s) ≡ set.insert (names (shape t)) x
    inserted_names =
        same_members (names (shape s)) (set.insert (names (shape t)) x)
        (λ a h. elim (cases_eq a x) [
          | inl same ↦ subst (Has (set.insert (names (shape t)) x)) (sym same) (insert_new (names (shape t)) x)
          | inr other ↦ insert_old (names (shape t)) x a (counted_has t a (let some = has_counted s a h in let e = count_old a other in omega arith))
        ])
        (λ a h. elim (cases_eq a x) [
          | inl same ↦ counted_has s a (let e = count_x in let f : name_in a s ≡ name_in x s = ap (λ z. name_in z s) same in omega arith)
          | inr other ↦ counted_has s a (let some = has_counted t a (old_of a other h) in let e = count_old a other in omega arith)
        ])
      where
        old_of : (a : ℕ) → a ≢ x → Has (set.insert (names (shape t)) x) a → Has (names (shape t)) a
        old_of a other h = elim (of_insert (names (shape t)) x a h) [ inl same ↦ absurd (other same) | inr old ↦ old ]

    pub inserted_named : AreNamed s
    inserted_named = record {
      once = λ a. elim (cases_eq a x) [
        | inl same ↦ let e = count_x in let f : name_in a s ≡ name_in x s = ap (λ z. name_in z s) same in omega arith
        | inr other ↦ let e = count_old a other in let o = named.once a in omega arith
      ];
      low = λ a h. elim (cases_eq a x) [
        | inl same ↦ subst (λ z. z < NAMES) (sym same) within
        | inr other ↦ named.low a (counted_has t a (let some = has_counted s a h in let e = count_old a other in omega arith))
      ];
    }

    pub inserted_graph : graph_in s ≡ joined
    inserted_graph = graph_by_pairs s s inserted_named (λ a. refl) joined joined_is_graph (sym inserted_names) pairs
      where
        told_s : (a b : ℕ) → Has (names (shape s)) a → Has (names (shape s)) b → edge_in a b s ≡ cond (adjacent (graph_in s) a b) 1 0
        told_s a b ha hb = told_graph s inserted_named a b (has_counted s a ha) (has_counted s b hb)

        value : (p q : Bool) (n : ℕ) → cond p 1 0 ≡ n → (n ≡ 1 → q ≡ true) → (n ≡ 0 → q ≡ false) → p ≡ q
        value true q n e if_one if_none = sym (if_one (sym e))
        value false q n e if_one if_none = sym (if_none (sym e))

        -- the new name and an old one
        edge_x : (b : ℕ) → b ≢ x → 0 < name_in b t → edge_in x b s ≡ times b ns
        edge_x b other some =
            let e = is.edges x b in
            let none = edge_none x b t fresh in
            let o = named.once b in
            let one : name_in b t ≡ 1 = omega arith in
            let h : ◌≡◌ {A = ℕ} (cond (x == x) (times b ns * name_in b t) 0) (times b ns * name_in b t) = ap (λ z. cond z (times b ns * name_in b t) 0) (eq-eqb x x refl) in
            let m : ◌≡◌ {A = ℕ} (cond (x == b) (times x ns * name_in x t) 0) 0 = ap (λ z. cond z (times x ns * name_in x t) 0) (ne_eqb x b (λ z. other (sym z))) in
            let f : times b ns * name_in b t ≡ times b ns * 1 = ap (λ z. times b ns * z) one in
            omega arith

        new_pair : (b : ℕ) → b ≢ x → Has (names (shape s)) x → Has (names (shape s)) b → adjacent (graph_in s) x b ≡ adjacent joined x b
        new_pair b other hx hb =
            let some : 0 < name_in b t = (let c = has_counted s b hb in let e = count_old b other in omega arith) in
            value (adjacent (graph_in s) x b) (adjacent joined x b) (times b ns) (sym (told_s x b hx hb) ∙ edge_x b other some) (λ one. new_true b some one) (λ none. new_false b some none)

        old_pair : (a b : ℕ) → a ≢ x → b ≢ x → Has (names (shape s)) a → Has (names (shape s)) b → adjacent (graph_in s) a b ≡ adjacent joined a b
        old_pair a b no_a no_b ha hb =
            let some_a : 0 < name_in a t = (let c = has_counted s a ha in let e = count_old a no_a in omega arith) in
            let some_b : 0 < name_in b t = (let c = has_counted s b hb in let e = count_old b no_b in omega arith) in
            let e = is.edges a b in
            let m : ◌≡◌ {A = ℕ} (cond (x == a) (times b ns * name_in b t) 0) 0 = ap (λ z. cond z (times b ns * name_in b t) 0) (ne_eqb x a (λ z. no_a (sym z))) in
            let n : ◌≡◌ {A = ℕ} (cond (x == b) (times a ns * name_in a t) 0) 0 = ap (λ z. cond z (times a ns * name_in a t) 0) (ne_eqb x b (λ z. no_b (sym z))) in
            let same : edge_in a b s ≡ edge_in a b t = omega arith in
            same_value (adjacent (graph_in s) a b) (adjacent g a b) (sym (told_s a b ha hb) ∙ same ∙ told_graph t named a b some_a some_b) ∙ sym (joined_old a b no_a no_b)

        pairs : (a b : ℕ) → Has (names (shape s)) a → Has (names (shape s)) b → adjacent (graph_in s) a b ≡ adjacent joined a b
        pairs a b ha hb =
            elim (cases_eq a x) [
              | inl same_a ↦ elim (cases_eq b x) [
                | inl same_b ↦ (λ i. adjacent (graph_in s) (same_a i) (same_b i)) ∙ adjacent_self (some_graph (shape s) inserted_named.low) x ∙ sym (adjacent_self joined_is_graph x) ∙ (λ i. adjacent joined (sym same_a i) (sym same_b i))
                | inr other ↦ ap (λ z. adjacent (graph_in s) z b) same_a ∙ new_pair b other (subst (Has (names (shape s))) same_a ha) hb ∙ ap (λ z. adjacent joined z b) (sym same_a)
              ]
              | inr other ↦ elim (cases_eq b x) [
                | inl same_b ↦
                    ap (λ z. adjacent (graph_in s) a z) same_b ∙ adjacent_sym (graph_in s) a x ∙ new_pair a other (subst (Has (names (shape s))) same_b hb) ha
                    ∙ adjacent_sym joined x a ∙ ap (λ z. adjacent joined a z) (sym same_b)
                | inr neither ↦ old_pair a b other neither ha hb
              ]
            ]
