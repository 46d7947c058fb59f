-- Names are marked one by one.
use Rattle.std.proofs.Common.{◌≡◌, ℕ, ◌+◌, ◌*◌, ◌<◌, ◌≤◌, cond, ◌==◌, List, [], ◌∷◌, length, get_or, take, drop, Option, Some, None, refl, sym, ◌∙◌, ap, subst, inl, inr, arith}
use Rattle.std.proofs.lemmas.Bool.{cases_eq, cases_lt}
use Rattle.std.proofs.lemmas.List.{take_more, take_all, take-append-drop, get_or_past}
use Rattle.std.proofs.lemmas.Option.{none-some, same_Some}
use Rattle.md_graph.specs.Linked.{times}
use Rattle.md_lists.specs.Links.{Links, AreLinks}
use Rattle.md_lists.proofs.ListLaws.{times-append, times-first}
use Rattle.md_cotree.specs.PlaceTrees.{PlaceTree, tip, inner, PlaceTrees, no_more, then, leaves_in, Alternates, AllAlternate}
use Rattle.md_cotree.proofs.Frames.{hit, miss}
use Rattle.md_cotree_edit.specs.Counts.{name_in, name_row}
use Rattle.md_cotree_edit.specs.Marks.{AreNameMarks, more, hits_in, hits_row, full_in, full_row, full_count, full_nodes, full_nodes_row, walked_count, tally_in, tally_row, note_in, note_row, none_walked, TellMarks, AreStill, MarkView, CanMark, CanMarkAll}
use Rattle.md_cotree_edit.proofs.Trees.LocalCounts.{cond_zero, sum_none}
use Rattle.md_cotree_edit.proofs.Marks.OnlyMarksDiffer.{kept_still, unmarked_tally, unmarked_note}
use Rattle.md_cotree_edit.proofs.Marks.MarksAroundHole.{all_full, fulls_low, walked_none}

-- ---- how many are marked

flip : (n v : ℕ) → ◌≡◌ {A = ℕ} (cond (n == v) 1 0) (cond (v == n) 1 0)
flip n v =
    elim (cases_eq n v) [
      | inl same ↦ hit n v same ∙ sym (hit v n (sym same))
      | inr other ↦ miss n v other ∙ sym (miss v n (λ e. other (sym e)))
    ]

mutual
  pub hits_more : (m : ℕ → ℕ) (n : ℕ) (t : PlaceTree) → hits_in (more m n) t ≡ name_in n t + hits_in m t
  hits_more m n (tip p v) = ap (λ x. x + m v) (flip n v)
  hits_more m n (inner p k ts) = hits_row_more m n ts

  hits_row_more : (m : ℕ → ℕ) (n : ℕ) (ts : PlaceTrees) → hits_row (more m n) ts ≡ name_row n ts + hits_row m ts
  hits_row_more m n no_more = refl
  hits_row_more m n (then t ts) = let a = hits_more m n t in let b = hits_row_more m n ts in omega arith

mutual
  pub hits_none : (t : PlaceTree) → hits_in (λ v. times v []) t ≡ 0
  hits_none (tip p v) = refl
  hits_none (inner p k ts) = hits_row_none ts

  hits_row_none : (ts : PlaceTrees) → hits_row (λ v. times v []) ts ≡ 0
  hits_row_none no_more = refl
  hits_row_none (then t ts) = let a = hits_none t in let b = hits_row_none ts in omega arith

-- names that stand once at most are as many marks at most
pub hits_names : (names : List ℕ) (t : PlaceTree) → ((v : ℕ) → 0 < times v names → name_in v t ≤ 1) → hits_in (λ v. times v names) t ≤ length names
hits_names [] t once = let e = hits_none t in omega arith
hits_names (x ∷ xs) t once =
    let e = hits_more (λ v. times v xs) x t in
    let rest = hits_names xs t (λ v some. once v (omega arith)) in
    let one = once x (let h = times-first x xs in omega arith) in
    omega arith

-- ---- a full node has two children or more, so there are fewer of them than names that are marked

module _ (m : ℕ → ℕ) (marks : AreNameMarks m) where
  mutual
    pub nodes_hits : (t : PlaceTree) → Alternates t → full_nodes m t + full_in m t ≤ hits_in m t
    nodes_hits (tip p v) is = omega arith
    nodes_hits (inner p k ts) is =
        let rest = nodes_row_hits ts is.2 in
        let two = is.0 in
        let low = fulls_low m marks ts in
        elim (cases_lt 0 (full_row m ts)) [
          | inl some ↦ let all = all_full m marks ts some in omega arith
          | inr none ↦ omega arith
        ]

    pub nodes_row_hits : (ts : PlaceTrees) → AllAlternate ts → full_nodes_row m ts + full_count m ts ≤ hits_row m ts
    nodes_row_hits no_more is = omega arith
    nodes_row_hits (then t ts) is = let a = nodes_hits t is.0 in let b = nodes_row_hits ts is.1 in omega arith

  -- ---- nothing is told where nothing is marked

  mutual
    pub tally_zero : (p : ℕ) (t : PlaceTree) → Alternates t → hits_in m t ≡ 0 → tally_in m p t ≡ 0
    tally_zero p (tip q v) is none = refl
    tally_zero p (inner q k ts) is none = sum_none _ _ (cond_zero (q == p) (full_count m ts) (let e = nodes_row_hits ts is.2 in omega arith)) (tallies_zero p ts is.2 none)

    pub tallies_zero : (p : ℕ) (ts : PlaceTrees) → AllAlternate ts → hits_row m ts ≡ 0 → tally_row m p ts ≡ 0
    tallies_zero p no_more is none = refl
    tallies_zero p (then t ts) is none = sum_none _ _ (tally_zero p t is.0 (omega arith)) (tallies_zero p ts is.1 (omega arith))

  mutual
    pub note_zero : (p : ℕ) (t : PlaceTree) → Alternates t → hits_in m t ≡ 0 → note_in m none_walked p t ≡ 0
    note_zero p (tip q v) is none = cond_zero (q == p) (m v) none
    note_zero p (inner q k ts) is none =
        sum_none _ _
        (cond_zero (q == p) (full_row m ts + 2 * walked_count m none_walked ts) (let e = nodes_hits (inner q k ts) is in let f = walked_none m ts in omega arith))
        (notes_zero p ts is.2 none)

    pub notes_zero : (p : ℕ) (ts : PlaceTrees) → AllAlternate ts → hits_row m ts ≡ 0 → note_row m none_walked p ts ≡ 0
    notes_zero p no_more is none = refl
    notes_zero p (then t ts) is none = sum_none _ _ (note_zero p t is.0 (omega arith)) (notes_zero p ts is.1 (omega arith))

-- ---- one by one

-- the first names are marked
abbrev pub first_marks : List ℕ → ℕ → ℕ → ℕ
first_marks names i v = times v (take i names)

pub record IsMarkedTo (l : Links) (names : List ℕ) (i begun steps : ℕ) (t : PlaceTree) : Type 0 where
  pub told : TellMarks l (first_marks names i) none_walked t
  pub few : steps ≤ begun + (5 * i + 5 * full_nodes (first_marks names i) t)

module _ (l0 : Links) (ok0 : AreLinks l0) (places : List (Option ℕ)) (names : List ℕ) (t : PlaceTree) (can : CanMarkAll l0 places names t) where
  pub marked_begun : (begun : ℕ) → IsMarkedTo l0 names 0 begun begun t
  marked_begun begun = record {
    told = record {
      tallies = λ p. unmarked_tally l0 ok0 can.unmarked p ∙ sym (tally_zero (λ v. times v []) none_marked p t can.alternates (hits_none t));
      notes = λ p. unmarked_note l0 ok0 can.unmarked p ∙ sym (note_zero (λ v. times v []) none_marked p t can.alternates (hits_none t));
    };
    few = omega arith;
  }
    where
      none_marked : AreNameMarks (λ v. times v [])
      none_marked v = omega arith

  -- names before one, with it
  taken : (i v : ℕ) → i < length names → times v (take (i + 1) names) ≡ more (first_marks names i) (get_or names i 0) v
  taken i v low = ap (times v) (take_more names i 0 low) ∙ times-append v (take i names) (get_or names i 0 ∷ []) ∙ omega arith

  some_taken : (i v : ℕ) → times v (take i names) ≤ times v names
  some_taken i v = let e = times-append v (take i names) (drop i names) in let f = ap (times v) (take-append-drop i names) in omega arith

  stands : (i : ℕ) → i < length names → 0 < times (get_or names i 0) names
  stands i low = let e = taken i (get_or names i 0) low in let h = hit (get_or names i 0) (get_or names i 0) refl in let s = some_taken (i + 1) (get_or names i 0) in omega arith

  -- the place of a name
  pub place_within : (i : ℕ) → i < length names → get_or names i 0 < length places
  place_within i low =
      elim (cases_lt (get_or names i 0) (length places)) [
        | inl within ↦ within
        | inr past ↦
            let at = can.leaves (get_or names i 0) (stands i low) in
            absurd (none-some at.0 (sym (get_or_past places (get_or names i 0) None past) ∙ at.1))
      ]

  pub no_place : (i : ℕ) → i < length names → get_or places (get_or names i 0) None ≡ None → ⊥
  no_place i low none = let at = can.leaves (get_or names i 0) (stands i low) in none-some at.0 (sym none ∙ at.1)

  module _ (l : Links) (still : AreStill l0 l) (i begun steps : ℕ) (low : i < length names) (is : IsMarkedTo l names i begun steps t)
      (leaf : ℕ) (at : get_or places (get_or names i 0) None ≡ Some leaf) where
    abbrev pub one_view : MarkView
    one_view = record { marks = first_marks names i; name = get_or names i 0; tree = t }

    pub can_mark : CanMark l leaf one_view
    can_mark = record {
      kept = kept_still l0 l (then t no_more) still can.kept;
      told = is.told;
      marks = λ v. let e = some_taken i v in let f = can.different v in omega arith;
      fresh =
          let e = taken i (get_or names i 0) low in
          let h = hit (get_or names i 0) (get_or names i 0) refl in
          let s = some_taken (i + 1) (get_or names i 0) in
          let f = can.different (get_or names i 0) in
          omega arith;
      once = can.once (get_or names i 0) (stands i low);
      leaf =
          let here = can.leaves (get_or names i 0) (stands i low) in
          subst (λ p. leaves_in p (get_or names i 0) t ≡ 1) (same_Some here.0 leaf (sym here.1 ∙ at)) here.2;
    }

    pub marked_more : (k : Links) (after : ℕ) → TellMarks k (more (first_marks names i) (get_or names i 0)) none_walked t →
        after + 5 * full_nodes (first_marks names i) t ≤ steps + 5 + 5 * full_nodes (more (first_marks names i) (get_or names i 0)) t → IsMarkedTo k names (i + 1) begun after t
    marked_more k after told few = record {
      told = subst (λ m. TellMarks k m none_walked t) (sym same) told;
      few = let e = is.few in let f : full_nodes (first_marks names (i + 1)) t ≡ full_nodes (more (first_marks names i) (get_or names i 0)) t = ap (λ m. full_nodes m t) same in omega arith;
    }
      where
        same : first_marks names (i + 1) ≡ more (first_marks names i) (get_or names i 0)
        same = λ j. λ v. taken i v low j

  pub marked_end : (l : Links) (i begun steps : ℕ) → length names ≤ i → i ≤ length names → IsMarkedTo l names i begun steps t →
      TellMarks l (λ v. times v names) none_walked t × (steps ≤ begun + 10 * length names)
  marked_end l i begun steps past within is =
      let all : take i names ≡ names = take_all i names past in (
        subst (λ (xs : List ℕ). TellMarks l (λ v. times v xs) none_walked t) all is.told,
        (let a = is.few in
            let b : full_nodes (first_marks names i) t ≡ full_nodes (λ v. times v names) t = ap (λ (xs : List ℕ). full_nodes (λ v. times v xs) t) all in
            let c = nodes_hits (λ v. times v names) can.different t can.alternates in
            let e = hits_names names t (λ v some. let one = can.once v some in omega arith) in
            omega arith),
      )
