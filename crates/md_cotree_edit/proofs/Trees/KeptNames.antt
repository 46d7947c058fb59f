-- What a kept tree gives: its names stand once, and there is room beside it.
use Rattle.std.proofs.Common.{◌≡◌, ℕ, ◌+◌, ◌*◌, ◌<◌, ◌≤◌, Bool, true, false, cond, ◌&&◌, ◌==◌, List, [], ◌∷◌, ◌++◌, length, Option, Some, None, refl, sym, ◌∙◌, ap, subst, inl, inr, arith, length-append}
use Rattle.std.proofs.lemmas.Bool.{cases_eq, cases_lt, eq-eqb}
use Rattle.md_graph.specs.declared.TheConstants.{NAMES}
use Rattle.md_lists.specs.Words.{holds_once}
use Rattle.md_graph.specs.Linked.{times}
use Rattle.md_lists.specs.Links.{AreLinks, spare_count}
use Rattle.md_lists.proofs.ListLaws.{times-append, few}
use Rattle.md_cotree.specs.declared.cotree.Cotree.{Cotree}
use Rattle.md_cotree.specs.PlaceTrees.{PlaceTree, tip, inner, PlaceTrees, no_more, then, leaves_in, leaves_among, leaf_count, leaf_counts, node_count, node_counts, row_length, Alternates, AllAlternate, times_in, times_among}
use Rattle.md_cotree.specs.Cotrees.{place_at, IsKeptAs}
use Rattle.md_cotree.proofs.Frames.{hit, miss}
use Rattle.md_cotree.proofs.NoPaths.{kept_below}
use Rattle.md_cotree.proofs.Room.{room}
use Rattle.md_cotree_edit.specs.Counts.{name_in, name_row}
use Rattle.md_cotree_edit.proofs.Trees.AdjacencyByCounts.{AreNamed, counted_has}

cond_both : (a b : Bool) → a ≡ true → b ≡ true → ◌≡◌ {A = ℕ} (cond (a && b) 1 0) 1
cond_both a b e f = λ i. cond (e i && f i) 1 0

-- ---- a name whose leaves stand at one place stands there

mutual
  pub name_tips : (a x : ℕ) (t : PlaceTree) → ((p : ℕ) → leaves_in p x t ≤ cond (a == p) 1 0) → name_in x t ≤ leaves_in a x t
  name_tips a x (tip p v) low =
      elim (cases_eq v x) [
        | inl same ↦
            let one = cond_both (p == p) (v == x) (eq-eqb p p refl) (eq-eqb v x same) in
            let at = low p in
            let here : a ≡ p = elim (cases_eq a p) [ inl e ↦ e | inr other ↦ absurd (let m = miss a p other in omega arith) ] in
            let full = cond_both (p == a) (v == x) (eq-eqb p a (sym here)) (eq-eqb v x same) in
            let h = hit v x same in
            omega arith
        | inr other ↦ let m = miss v x other in omega arith
      ]
  name_tips a x (inner p k ts) low = names_tips a x ts low

  names_tips : (a x : ℕ) (ts : PlaceTrees) → ((p : ℕ) → leaves_among p x ts ≤ cond (a == p) 1 0) → name_row x ts ≤ leaves_among a x ts
  names_tips a x no_more low = omega arith
  names_tips a x (then t ts) low =
      let first = name_tips a x t (λ p. let e = low p in omega arith) in
      let rest = names_tips a x ts (λ p. let e = low p in omega arith) in
      omega arith

mutual
  pub tips_low : (p v : ℕ) (t : PlaceTree) → leaves_in p v t ≤ times_in p t
  tips_low p v (tip q w) = go (q == p) (w == v)
    where
      go : (a b : Bool) → cond (a && b) 1 0 ≤ cond a 1 0
      go true true = omega arith
      go true false = omega arith
      go false b = omega arith
  tips_low p v (inner q k ts) = let rest = all_tips_low p v ts in omega arith

  pub all_tips_low : (p v : ℕ) (ts : PlaceTrees) → leaves_among p v ts ≤ times_among p ts
  all_tips_low p v no_more = omega arith
  all_tips_low p v (then t ts) = let first = tips_low p v t in let rest = all_tips_low p v ts in omega arith

-- ---- names in a list

abbrev mutual
  pub name_list : PlaceTree → List ℕ
  name_list (tip p v) = v ∷ []
  name_list (inner p k ts) = names_list ts

  pub names_list : PlaceTrees → List ℕ
  names_list no_more = []
  names_list (then t ts) = name_list t ++ names_list ts

mutual
  list_times : (x : ℕ) (t : PlaceTree) → times x (name_list t) ≡ name_in x t
  list_times x (tip p v) = omega arith
  list_times x (inner p k ts) = lists_times x ts

  pub lists_times : (x : ℕ) (ts : PlaceTrees) → times x (names_list ts) ≡ name_row x ts
  lists_times x no_more = refl
  lists_times x (then t ts) = let e = times-append x (name_list t) (names_list ts) in let a = list_times x t in let b = lists_times x ts in omega arith

mutual
  list_long : (t : PlaceTree) → length (name_list t) ≡ leaf_count t
  list_long (tip p v) = refl
  list_long (inner p k ts) = lists_long ts

  pub lists_long : (ts : PlaceTrees) → length (names_list ts) ≡ leaf_counts ts
  lists_long no_more = refl
  lists_long (then t ts) = let e = length-append (name_list t) (names_list ts) in let a = list_long t in let b = lists_long ts in omega arith

pub few_leaves : (t : PlaceTree) → AreNamed t → leaf_count t ≤ NAMES
few_leaves t is =
    subst (λ n. n ≤ NAMES) (list_long t)
    (few NAMES (name_list t) (λ x. let o = is.once x in let e = list_times x t in omega arith) (λ x high.
    elim (cases_lt 0 (name_in x t)) [
      | inl some ↦ absurd (let low = is.low x (counted_has t x some) in omega arith)
      | inr none ↦ let e = list_times x t in omega arith
    ]))

mutual
  few_nodes : (t : PlaceTree) → Alternates t → node_count t + 1 ≤ 2 * leaf_count t
  few_nodes (tip p v) is = omega arith
  few_nodes (inner p k ts) is = let rest = few_below ts is.2 in let two = is.0 in omega arith

  pub few_below : (ts : PlaceTrees) → AllAlternate ts → node_counts ts + row_length ts ≤ 2 * leaf_counts ts
  few_below no_more is = omega arith
  few_below (then t ts) is = let first = few_nodes t is.0 in let rest = few_below ts is.1 in omega arith

module _ (c : Cotree) (t : PlaceTree) (kept : IsKeptAs c (Some t)) where
  pub kept_tips : (a x : ℕ) → place_at c x ≡ Some a → (p : ℕ) → leaves_in p x t ≡ cond (a == p) 1 0
  kept_tips a x is p = let e = kept.names x p ∙ ap (λ o. holds_once o p) is in omega arith

  pub kept_named : AreNamed t
  kept_named = record { once = λ x. go x (place_at c x) refl; low = kept_below c t kept }
    where
      go : (x : ℕ) (o : Option ℕ) → place_at c x ≡ o → name_in x t ≤ 1
      go x None is =
          let none = name_tips 0 x t (λ p. let e = kept.names x p ∙ ap (λ o. holds_once o p) is in omega arith) in
          let e = kept.names x 0 ∙ ap (λ o. holds_once o 0) is in
          omega arith
      go x (Some a) is =
          let low = name_tips a x t (λ p. let e = kept_tips a x is p in omega arith) in
          let e = kept_tips a x is a in
          let h = hit a a refl in
          omega arith

  pub kept_room : AreLinks c.lists → 3 < spare_count c.lists
  kept_room ok =
      let all = room c.lists (then t no_more) ok kept.fits in
      let nodes = few_nodes t kept.alternates.0 in
      let leaves = few_leaves t kept_named in
      omega arith
