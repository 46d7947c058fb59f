-- There are few marked places: four at most for each name that is marked.
use Rattle.std.specs.Prelude.{⊤}
use Rattle.std.proofs.Common.{◌≡◌, ℕ, zero, suc, ◌+◌, ◌-◌, ◌*◌, ◌<◌, ◌≤◌, min, Bool, true, false, cond, ◌==◌, List, [], ◌∷◌, ◌++◌, length, replicate, refl, sym, ◌∙◌, ap, inl, inr, arith, length-append}
use Rattle.std.proofs.lemmas.List.{length-replicate}
use Rattle.std.proofs.lemmas.Bool.{cases_eq, cases_lt}
use Rattle.md_graph.specs.Linked.{times}
use Rattle.md_lists.specs.Links.{Links, AreLinks}
use Rattle.md_lists.proofs.ListLaws.{times-append, times-split, times-first, split}
use Rattle.md_cotree.specs.PlaceTrees.{PlaceTree, tip, inner, PlaceTrees, no_more, then, place_of, times_in, times_among, row_length, IsInner, NoneInner, Alternates, AllAlternate}
use Rattle.md_cotree.proofs.Frames.{hit, miss}
use Rattle.md_cotree_edit.specs.Contexts.{AreTreesKept}
use Rattle.md_cotree_edit.specs.Marks.{AreNameMarks, hits_in, hits_row, full_in, full_row, full_count, walked_count, tally_in, tally_row, note_in, note_row, Passes, Walked, AllWalked, TellMarks}
use Rattle.md_cotree_edit.proofs.Trees.LocalCounts.{cond_no, cond_yes, not_at}
use Rattle.md_cotree_edit.proofs.Trees.KeptTrees.{kept_once}
use Rattle.md_cotree_edit.proofs.Marks.MarkedBelow.{root_mark}
use Rattle.md_cotree_edit.proofs.Marks.MarksAroundHole.{full_low, tally_none, tallies_none, note_none, notes_none}

-- a list that has each item no more often than another is no longer
pub no_longer : (xs ys : List ℕ) → ((p : ℕ) → times p xs ≤ times p ys) → length xs ≤ length ys
no_longer [] ys low = omega arith
no_longer (x ∷ xs) ys low =
    let at = split x ys (let e = low x in let h = times-first x xs in omega arith) in
    let rest = no_longer xs (at.0 ++ at.1) (λ p.
    let e = low p in
    let f = ap (times p) at.2 in
    let g = times-split p x at.0 at.1 in
    let h = times-append p at.0 at.1 in
    omega arith) in
    let e = ap length at.2 in
    let f = length-append at.0 (x ∷ at.1) in
    let g = length-append at.0 at.1 in
    omega arith

-- ---- 1 where a node is marked, and how many are

abbrev pub own : (ℕ → ℕ) → (ℕ → ℕ) → PlaceTree → ℕ
own m w t = min 1 (root_mark m w t)

abbrev mutual
  pub marked_in : (ℕ → ℕ) → (ℕ → ℕ) → PlaceTree → ℕ
  marked_in m w (tip p v) = own m w (tip p v)
  marked_in m w (inner p k ts) = own m w (inner p k ts) + marked_row m w ts

  pub marked_row : (ℕ → ℕ) → (ℕ → ℕ) → PlaceTrees → ℕ
  marked_row m w no_more = 0
  marked_row m w (then t ts) = marked_in m w t + marked_row m w ts

abbrev mutual
  marked_list : (ℕ → ℕ) → (ℕ → ℕ) → PlaceTree → List ℕ
  marked_list m w (tip p v) = replicate (own m w (tip p v)) p
  marked_list m w (inner p k ts) = replicate (own m w (inner p k ts)) p ++ marked_lists m w ts

  marked_lists : (ℕ → ℕ) → (ℕ → ℕ) → PlaceTrees → List ℕ
  marked_lists m w no_more = []
  marked_lists m w (then t ts) = marked_list m w t ++ marked_lists m w ts

times-replicate : (n x p : ℕ) → times x (replicate n p) ≡ cond (p == x) n 0
times-replicate zero x p = elim (cases_eq p x) [ inl same ↦ sym (cond_yes p x 0 same) | inr other ↦ sym (cond_no p x 0 other) ]
times-replicate (suc n) x p =
    let rest = times-replicate n x p in
    elim (cases_eq p x) [
      | inl same ↦ let a = cond_yes p x n same in let b = cond_yes p x (suc n) same in let h = hit p x same in omega arith
      | inr other ↦ let a = cond_no p x n other in let b = cond_no p x (suc n) other in let h = miss p x other in omega arith
    ]

module _ (m w : ℕ → ℕ) where
  mutual
    list_long : (t : PlaceTree) → length (marked_list m w t) ≡ marked_in m w t
    list_long (tip p v) = length-replicate (min 1 (m v)) p
    list_long (inner p k ts) =
        length-append (replicate (own m w (inner p k ts)) p) (marked_lists m w ts) ∙ (λ i. length-replicate (own m w (inner p k ts)) p i + lists_long ts i)

    lists_long : (ts : PlaceTrees) → length (marked_lists m w ts) ≡ marked_row m w ts
    lists_long no_more = refl
    lists_long (then t ts) = length-append (marked_list m w t) (marked_lists m w ts) ∙ (λ i. list_long t i + lists_long ts i)

  -- a marked place stands in the list
  low_sum : (b : Bool) (x f c g tally note rest all : ℕ) → x ≡ min 1 (f + (c + 2 * g)) → min 1 (tally + note) ≤ rest → all ≡ cond b x 0 + rest → min 1 ((cond b f 0 + tally) + (cond b (c + 2 * g) 0 + note)) ≤ all
  low_sum true x f c g tally note rest all is low e = omega arith
  low_sum false x f c g tally note rest all is low e = omega arith

  mutual
    listed : (x : ℕ) (t : PlaceTree) → min 1 (tally_in m x t + note_in m w x t) ≤ times x (marked_list m w t)
    listed x (tip p v) = let e = times-replicate (min 1 (m v)) x p in tip_low (p == x) (m v) _ e
      where
        tip_low : (b : Bool) (n all : ℕ) → all ≡ cond b (min 1 n) 0 → min 1 (0 + cond b n 0) ≤ all
        tip_low true n all e = omega arith
        tip_low false n all e = omega arith
    listed x (inner p k ts) =
        low_sum (p == x) (own m w (inner p k ts)) (full_count m ts) (full_row m ts) (walked_count m w ts) (tally_row m x ts) (note_row m w x ts) (times x (marked_lists m w ts)) (times x (marked_list m w (inner p k ts))) refl (all_listed x ts)
        (times-append x (replicate (own m w (inner p k ts)) p) (marked_lists m w ts) ∙ ap (λ n. n + times x (marked_lists m w ts)) (times-replicate (own m w (inner p k ts)) x p))

    all_listed : (x : ℕ) (ts : PlaceTrees) → min 1 (tally_row m x ts + note_row m w x ts) ≤ times x (marked_lists m w ts)
    all_listed x no_more = omega arith
    all_listed x (then t ts) = low_both _ _ _ _ _ _ _ (listed x t) (all_listed x ts) (times-append x (marked_list m w t) (marked_lists m w ts))
      where
        low_both : (a b c e f g all : ℕ) → min 1 (a + c) ≤ f → min 1 (b + e) ≤ g → all ≡ f + g → min 1 ((a + b) + (c + e)) ≤ all
        low_both a b c e f g all low_a low_b is = omega arith

  -- ---- what was walked over is marked

  abbrev mutual
    IsBacked : PlaceTree → Type 0
    IsBacked (tip p v) = w p ≤ min 1 (m v)
    IsBacked (inner p k ts) = (w p ≤ min 1 (full_count m ts + (full_row m ts + 2 * walked_count m w ts))) × AreBacked ts

    AreBacked : PlaceTrees → Type 0
    AreBacked no_more = ⊤
    AreBacked (then t ts) = IsBacked t × AreBacked ts

  root_backed : (t : PlaceTree) → IsBacked t → w (place_of t) ≤ own m w t
  root_backed (tip p v) is = is
  root_backed (inner p k ts) is = is.0

  rest_back : (a b c e f : ℕ) → a ≤ min 1 ((b + e) + (c + f)) → b ≡ 0 → c ≡ 0 → a ≤ min 1 (e + f)
  rest_back a b c e f low none_b none_c = omega arith

  mutual
    backed_in : (t : PlaceTree) → ((p : ℕ) → times_in p t ≤ 1) → ((p : ℕ) → 0 < times_in p t → w p ≤ min 1 (tally_in m p t + note_in m w p t)) → IsBacked t
    backed_in (tip q v) one low = let h = hit q q refl in tip_back _ _ _ (low q (omega arith)) (cond_yes q q (m v) refl)
      where
        tip_back : (a b c : ℕ) → a ≤ min 1 (0 + b) → b ≡ c → a ≤ min 1 c
        tip_back a b c low e = omega arith
    backed_in (inner q k ts) one low = (
      (let h = hit q q refl in
          let o = one q in
          let none : times_among q ts ≡ 0 = omega arith in
          root_back _ _ _ _ _ _ _ (low q (omega arith)) (cond_yes q q (full_count m ts) refl) (cond_yes q q (full_row m ts + 2 * walked_count m w ts) refl) (tallies_none m q ts none) (notes_none m w q ts none)),
      all_backed ts (λ p. let o = one p in omega arith) (λ p some.
          let o = one p in
          let other = not_at q p (omega arith) in
          rest_back _ _ _ _ _ (low p (omega arith)) (cond_no q p (full_count m ts) other) (cond_no q p (full_row m ts + 2 * walked_count m w ts) other)),
    )
      where
        root_back : (a b c e f x y : ℕ) → a ≤ min 1 ((b + e) + (c + f)) → b ≡ x → c ≡ y → e ≡ 0 → f ≡ 0 → a ≤ min 1 (x + y)
        root_back a b c e f x y low is_b is_c none_e none_f = omega arith

    all_backed : (ts : PlaceTrees) → ((p : ℕ) → times_among p ts ≤ 1) → ((p : ℕ) → 0 < times_among p ts → w p ≤ min 1 (tally_row m p ts + note_row m w p ts)) → AreBacked ts
    all_backed no_more one low = tt
    all_backed (then t ts) one low = (
      backed_in t (λ p. let o = one p in omega arith) (λ p some.
          let o = one p in
          first_back _ _ _ _ _ (low p (omega arith)) (tallies_none m p ts (omega arith)) (notes_none m w p ts (omega arith))),
      all_backed ts (λ p. let o = one p in omega arith) (λ p some.
          let o = one p in
          rest_back _ _ _ _ _ (low p (omega arith)) (tally_none m p t (omega arith)) (note_none m w p t (omega arith))),
    )
      where
        first_back : (a b c e f : ℕ) → a ≤ min 1 ((b + e) + (c + f)) → e ≡ 0 → f ≡ 0 → a ≤ min 1 (b + c)
        first_back a b c e f low none_e none_f = omega arith

  -- ---- few are marked

  record IsLight (t : PlaceTree) : Type 0 where
    full : full_in m t ≡ 1 → marked_in m w t + 1 ≤ 2 * hits_in m t
    low : full_in m t ≡ 0 → marked_in m w t + own m w t ≤ 4 * hits_in m t
    deep : full_in m t ≡ 0 → (IsInner t false → ⊥) → marked_in m w t + 2 * own m w t ≤ 4 * hits_in m t

  record AreLight (ts : PlaceTrees) : Type 0 where
    full : 0 < full_row m ts → marked_row m w ts + row_length ts ≤ 2 * hits_row m ts
    some : marked_row m w ts + 3 * full_count m ts ≤ 4 * hits_row m ts
    walked : NoneInner ts false → marked_row m w ts + 2 * walked_count m w ts ≤ 4 * hits_row m ts

  gone : (f x : ℕ) → f ≡ 1 → (1 - f) * x ≡ 0
  gone f x e = ap (λ z. (1 - z) * x) e ∙ omega arith

  stays : (f x : ℕ) → f ≡ 0 → (1 - f) * x ≡ x
  stays f x e = ap (λ z. (1 - z) * x) e ∙ omega arith

  both_some : (a b : ℕ) → 0 < a * b → (0 < a) × (0 < b)
  both_some a b some =
      elim (cases_lt 0 a) [
        | inl here ↦ elim (cases_lt 0 b) [
          | inl there ↦ (here, there)
          | inr none ↦ absurd (let e : b ≡ 0 = omega arith in let z = ap (λ x. a * x) e in omega arith)
        ]
        | inr none ↦ absurd (let e : a ≡ 0 = omega arith in let z = ap (λ x. x * b) e in omega arith)
      ]

  module _ (marks : AreNameMarks m) where
    mutual
      light_in : (t : PlaceTree) → Walked m w t → Alternates t → IsBacked t → IsLight t
      light_in (tip p v) walked alternates backed = record { full = λ e. omega arith; low = λ e. omega arith; deep = λ e other. omega arith }
      light_in (inner p k ts) walked alternates backed =
          let rest = light_row ts walked.2 alternates.2 backed.1 in
          node k alternates.1 walked.1 rest
        where
          full_node : AreLight ts → full_row m ts ≡ 1 → marked_in m w (inner p k ts) + 1 ≤ 2 * hits_row m ts
          full_node rest e = let a = rest.full (omega arith) in let two = alternates.0 in omega arith

          node : (k : Bool) → NoneInner ts k → (walked_count m w ts ≡ 1 → Passes k (full_count m ts) (row_length ts)) → AreLight ts → IsLight (inner p k ts)
          node true none passes rest = record {
            full = λ e. full_node rest e;
            low = λ e. let a = series passes rest e in omega arith;
            deep = λ e other. series passes rest e;
          }
            where
              series : (walked_count m w ts ≡ 1 → full_count m ts + 1 ≡ row_length ts) → AreLight ts → full_row m ts ≡ 0 → marked_in m w (inner p true ts) + 2 * own m w (inner p true ts) ≤ 4 * hits_row m ts
              series passes rest e =
                  elim (cases_lt 0 (full_count m ts)) [
                    | inl some ↦ let a = rest.some in omega arith
                    | inr without ↦ elim (cases_lt 0 (walked_count m w ts)) [
                      | inl there ↦ absurd (let low = walked.0 in let two = alternates.0 in let f = passes (omega arith) in omega arith)
                      | inr nowhere ↦ let a = rest.some in omega arith
                    ]
                  ]
          node false none passes rest = record {
            full = λ e. full_node rest e;
            low = λ e. parallel rest e;
            deep = λ e other. absurd (other refl);
          }
            where
              parallel : AreLight ts → full_row m ts ≡ 0 → marked_in m w (inner p false ts) + own m w (inner p false ts) ≤ 4 * hits_row m ts
              parallel rest e =
                  elim (cases_lt 0 (full_count m ts)) [
                    | inl some ↦ let a = rest.some in omega arith
                    | inr without ↦ let a = rest.walked none in omega arith
                  ]

      light_row : (ts : PlaceTrees) → AllWalked m w ts → AllAlternate ts → AreBacked ts → AreLight ts
      light_row no_more walked alternates backed = record { full = λ e. omega arith; some = omega arith; walked = λ none. omega arith }
      light_row (then t ts) walked alternates backed =
          let a = light_in t walked.0 alternates.0 backed.0 in
          let b = light_row ts walked.1 alternates.1 backed.1 in
          let low = full_low m marks t in
          record {
            full = λ some.
                let both = both_some (full_in m t) (full_row m ts) some in
                let f = a.full (omega arith) in
                let g = b.full both.1 in
                omega arith;
            some = elim (cases_lt 0 (full_in m t)) [
              | inl is ↦ let f = a.full (omega arith) in let g = b.some in omega arith
              | inr not ↦ let f = a.low (omega arith) in let g = b.some in omega arith
            ];
            walked = λ none. elim (cases_lt 0 (full_in m t)) [
              | inl is ↦ sum_full _ _ _ _ _ _ (a.full (omega arith)) (b.walked none.1) (gone (full_in m t) (w (place_of t)) (omega arith))
              | inr not ↦ sum_not _ _ _ _ _ _ _ _ (a.deep (omega arith) none.0) (b.walked none.1) (stays (full_in m t) (w (place_of t)) (omega arith)) (root_backed t backed.0)
            ];
          }
        where
          sum_full : (c h x cs hs xs : ℕ) → c + 1 ≤ 2 * h → cs + 2 * xs ≤ 4 * hs → x ≡ 0 → (c + cs) + 2 * (x + xs) ≤ 4 * (h + hs)
          sum_full c h x cs hs xs a b e = omega arith

          sum_not : (c h x cs hs xs o v : ℕ) → c + 2 * o ≤ 4 * h → cs + 2 * xs ≤ 4 * hs → x ≡ v → v ≤ o → (c + cs) + 2 * (x + xs) ≤ 4 * (h + hs)
          sum_not c h x cs hs xs o v a b e low = omega arith

pub few_marked : (l : Links) (m w : ℕ → ℕ) (t : PlaceTree) → AreLinks l → AreTreesKept l (then t no_more) → TellMarks l m w t → Walked m w t → AreNameMarks m → Alternates t → ((p : ℕ) → w p ≤ times p l.marked) → length l.marked ≤ 4 * hits_in m t
few_marked l m w t ok kept told walked marks alternates below =
    let backed = backed_in m w t (λ p. let o = kept_once l (then t no_more) kept p in omega arith) (λ p some. let low = below p in let e = is_marked p in omega arith) in
    let light = light_in m w marks t walked alternates backed in
    let long = no_longer l.marked (marked_list m w t) (λ p. let e = is_marked p in let low = listed m w p t in omega arith) in
    let count = list_long m w t in
    let low = full_low m marks t in
    elim (cases_lt 0 (full_in m t)) [
      | inl is ↦ let a = light.full (omega arith) in omega arith
      | inr not ↦ let a = light.low (omega arith) in omega arith
    ]
  where
    is_marked : (p : ℕ) → times p l.marked ≡ min 1 (tally_in m p t + note_in m w p t)
    is_marked p = ok.marks p ∙ (λ i. min 1 (told.tallies p i + told.notes p i))
