-- Of the marked places only the lowest mixed node has no note.
use Rattle.std.proofs.Common.{◌≡◌, ◌≢◌, ◌⊎◌, ℕ, ◌+◌, ◌-◌, ◌*◌, ◌<◌, ◌≤◌, min, Bool, true, false, cond, ◌==◌, List, [], ◌∷◌, refl, ◌∙◌, ap, inl, inr, arith}
use Rattle.std.proofs.lemmas.Bool.{cases_eq}
use Rattle.md_graph.specs.Linked.{times}
use Rattle.md_lists.specs.Links.{Links, tally_at, note_at, AreLinks}
use Rattle.md_cotree.specs.PlaceTrees.{PlaceTree, tip, inner, PlaceTrees, no_more, then, place_of, Alternates, AllAlternate}
use Rattle.md_cotree_edit.specs.Contexts.{Frame, fill, plug}
use Rattle.md_cotree_edit.specs.Marks.{AreNameMarks, hits_row, full_in, full_row, full_count, mixed_in, mixed_count, walked_count, tally_in, tally_row, note_in, note_row, LowestView, whole, AreBesideIt, AreReady, IsLowest}
use Rattle.md_cotree_edit.proofs.Trees.LocalCounts.{cond_no, cond_yes}
use Rattle.md_cotree_edit.proofs.Trees.CountsAtNode.{Sub, sub_plug, node_tally, node_note}
use Rattle.md_cotree_edit.proofs.Marks.MarkedBelow.{bit, left_zero, full_mixed, unhit_mixed, unhit_count, walks_low, walk_hit, are_shown}
use Rattle.md_cotree_edit.proofs.Marks.MarksAroundHole.{fulls_low}

-- the place has a note there if it has a tally there
abbrev pub IsQuiet : (ℕ → ℕ) → (ℕ → ℕ) → ℕ → PlaceTree → Type 0
IsQuiet m w p t = (tally_in m p t ≡ 0) ⊎ (0 < note_in m w p t)

abbrev RowQuiet : (ℕ → ℕ) → (ℕ → ℕ) → ℕ → PlaceTrees → Type 0
RowQuiet m w p ts = (tally_row m p ts ≡ 0) ⊎ (0 < note_row m w p ts)

both_quiet : (a b x y : ℕ) → (a ≡ 0) ⊎ (0 < x) → (b ≡ 0) ⊎ (0 < y) → (a + b ≡ 0) ⊎ (0 < x + y)
both_quiet a b x y (inl e) (inl f) = inl (omega arith)
both_quiet a b x y (inl e) (inr f) = inr (omega arith)
both_quiet a b x y (inr e) f = inr (omega arith)

module _ (m w : ℕ → ℕ) (marks : AreNameMarks m) (p : ℕ) where
  mutual
    -- all places of a tree that is full, or without marked names
    quiet_tree : (t : PlaceTree) → mixed_in m t ≡ 0 → Alternates t → IsQuiet m w p t
    quiet_tree (tip q v) none is = inl refl
    quiet_tree (inner q k ts) none is =
        elim (bit (full_row m ts) (fulls_low m marks ts)) [
          | inl e ↦
              let unfull : (1 - full_row m ts) * min 1 (hits_row m ts) ≡ (1 - 0) * min 1 (hits_row m ts) = ap (λ z. (1 - z) * min 1 (hits_row m ts)) e in
              let unhit : hits_row m ts ≡ 0 = omega arith in
              let count = unhit_count m ts is.2 unhit in
              let here : (cond (q == p) (full_count m ts) 0 ≡ 0) ⊎ (0 < cond (q == p) (full_row m ts + 2 * walked_count m w ts) 0) =
              inl (elim (cases_eq q p) [
                | inl same ↦ let y = cond_yes q p (full_count m ts) same in omega arith
                | inr other ↦ cond_no q p (full_count m ts) other
              ]) in
              both_quiet _ _ _ _ here (quiet_row ts (unhit_mixed m marks ts unhit) is.2)
          | inr e ↦
              elim (cases_eq q p) [
                | inl same ↦ inr (let y = cond_yes q p (full_row m ts + 2 * walked_count m w ts) same in omega arith)
                | inr other ↦
                    let here : (cond (q == p) (full_count m ts) 0 ≡ 0) ⊎ (0 < cond (q == p) (full_row m ts + 2 * walked_count m w ts) 0) = inl (cond_no q p (full_count m ts) other) in
                    both_quiet _ _ _ _ here (quiet_row ts (full_mixed m marks ts e) is.2)
              ]
        ]

    quiet_row : (ts : PlaceTrees) → mixed_count m ts ≡ 0 → AllAlternate ts → RowQuiet m w p ts
    quiet_row no_more none is = inl refl
    quiet_row (then t ts) none is = both_quiet _ _ _ _ (quiet_tree t (omega arith) is.0) (quiet_row ts (omega arith) is.1)

  -- a place that isn't the root of a tree whose children are such
  quiet_below : (q : ℕ) (k : Bool) (ts : PlaceTrees) → (q ≡ p → ⊥) → RowQuiet m w p ts → IsQuiet m w p (inner q k ts)
  quiet_below q k ts other rest =
      let here : (cond (q == p) (full_count m ts) 0 ≡ 0) ⊎ (0 < cond (q == p) (full_row m ts + 2 * walked_count m w ts) 0) = inl (cond_no q p (full_count m ts) other) in
      both_quiet _ _ _ _ here rest

beside_mixed : (m : ℕ → ℕ) (marks : AreNameMarks m) (k : Bool) (ts : PlaceTrees) → AreBesideIt m k ts → mixed_count m ts ≡ 0
beside_mixed m marks true ts is = full_mixed m marks ts is
beside_mixed m marks false ts is = unhit_mixed m marks ts is

mark_plug : (m w : ℕ → ℕ) (p : ℕ) (fs : List Frame) (t : PlaceTree) → tally_in m p t + note_in m w p t ≤ tally_in m p (plug fs t) + note_in m w p (plug fs t)
mark_plug m w p [] t = omega arith
mark_plug m w p (f ∷ fs) t = let rest = mark_plug m w p fs (fill f t) in omega arith

alternates_plug : (fs : List Frame) (t : PlaceTree) → Alternates (plug fs t) → Alternates t
alternates_plug [] t is = is
alternates_plug (f ∷ fs) t is = (alternates_plug fs (fill f t) is).2.0

-- a node with a child that isn't full and was walked over
noted_above : (m w : ℕ → ℕ) (q : ℕ) (k : Bool) (t : PlaceTree) (ts : PlaceTrees) → full_in m t ≡ 0 → 0 < w (place_of t) → (p : ℕ) → q ≡ p → 0 < note_in m w p (inner q k (then t ts))
noted_above m w q k t ts unfull walk p same =
    let one : (1 - full_in m t) * w (place_of t) ≡ (1 - 0) * w (place_of t) = ap (λ z. (1 - z) * w (place_of t)) unfull in
    let y = cond_yes q p (full_row m (then t ts) + 2 * walked_count m w (then t ts)) same in
    omega arith

module _ (m w : ℕ → ℕ) (marks : AreNameMarks m) where
  quiet_way : (fs : List Frame) (t : PlaceTree) → ((p : ℕ) → 0 < tally_in m p (plug fs t) + note_in m w p (plug fs t) → 0 < w p) → full_in m t ≡ 0 → 0 < tally_in m (place_of t) t + note_in m w (place_of t) t →
      AreReady m fs → Alternates (plug fs t) → (p : ℕ) → IsQuiet m w p t → IsQuiet m w p (plug fs t)
  quiet_way [] t seen unfull mark ready is p quiet = quiet
  quiet_way (f ∷ fs) t seen unfull mark ready is p quiet =
      let up = mark_plug m w (place_of t) (f ∷ fs) t in
      let walk : 0 < w (place_of t) = seen (place_of t) (omega arith) in
      let above = noted_above m w f.place f.series t f.others unfull walk in
      let around = alternates_plug fs (fill f t) is in
      let others = quiet_row m w marks p f.others (beside_mixed m marks f.series f.others ready.0) around.2.1 in
      let now : IsQuiet m w p (fill f t) =
      elim (cases_eq f.place p) [
        | inl same ↦ inr (above p same)
        | inr other ↦ quiet_below m w marks p f.place f.series (then t f.others) other (both_quiet _ _ _ _ quiet others)
      ] in
      quiet_way fs (fill f t) seen (left_zero (full_in m t) (full_row m f.others) unfull) (let y = above f.place refl in omega arith) ready.1 is p now

-- what the marked places have
pub record AreNoted (l : Links) (place : ℕ) : Type 0 where
  pub none : note_at l place ≡ 0
  pub marked : 0 < times place l.marked
  pub others : (p : ℕ) → 0 < times p l.marked → place ≢ p → 0 < note_at l p

pub are_noted : (l : Links) (d : LowestView) → AreLinks l → IsLowest l d → Alternates (whole d) → AreNoted l d.place
are_noted l d ok is alternates = record {
  none = node_note l (whole d) is.kept d.marks d.walked is.told d.place d.series d.children sub ∙ (let e = is.halves.not_all in let f = no_walk in omega arith);
  marked = let e = ok.marks d.place in let f = node_tally l (whole d) is.kept d.marks d.walked is.told d.place d.series d.children sub in let some = is.halves.some in omega arith;
  others = λ p some other.
      let e = ok.marks p in
      let t = is.told.tallies p in
      let n = is.told.notes p in
      let rows = quiet_row d.marks d.walked is.marks p d.children is.halves.none_mixed (alternates_plug d.frames (inner d.place d.series d.children) alternates).2 in
      let quiet = quiet_way d.marks d.walked is.marks d.frames (inner d.place d.series d.children) seen is.halves.not_all root is.ready alternates p
      (quiet_below d.marks d.walked is.marks p d.place d.series d.children other rows) in
      elim quiet [ inl z ↦ omega arith | inr z ↦ omega arith ];
}
  where
    sub : Sub (inner d.place d.series d.children) (whole d)
    sub = sub_plug (inner d.place d.series d.children) d.frames (inner d.place d.series d.children) (inl refl)

    seen : (p : ℕ) → 0 < tally_in d.marks p (whole d) + note_in d.marks d.walked p (whole d) → 0 < d.walked p
    seen p some = let t = is.told.tallies p in let n = is.told.notes p in let e = ok.marks p in let w = is.walked p in omega arith

    root : 0 < tally_in d.marks d.place (inner d.place d.series d.children) + note_in d.marks d.walked d.place (inner d.place d.series d.children)
    root = let y = cond_yes d.place d.place (full_count d.marks d.children) refl in let some = is.halves.some in omega arith

    no_walk : walked_count d.marks d.walked d.children ≡ 0
    no_walk =
        let low = walks_low d.marks d.walked d.children (λ s at.
        walk_hit (λ p. tally_at l p + note_at l p) d.marks d.walked (λ p. let e = ok.marks p in let w = is.walked p in omega arith) (whole d) (are_shown l (whole d) is.kept d.marks d.walked is.told) alternates
        d.walked (λ p. let e = ok.marks p in let w = is.walked p in omega arith) s (sub_plug s d.frames (inner d.place d.series d.children) (inr at))) in
        let none = is.halves.none_mixed in
        omega arith
