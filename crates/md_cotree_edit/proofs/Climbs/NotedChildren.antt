-- What the notes of the children of a lowest mixed node say: each child is noted as full exactly where it is.
use Rattle.std.proofs.Common.{◌≡◌, ℕ, ◌+◌, ◌-◌, ◌*◌, min, sym, ◌∙◌, ap, inl, inr, arith}
use Rattle.md_graph.specs.Linked.{times}
use Rattle.md_lists.specs.Links.{Links, tally_at, note_at, AreLinks}
use Rattle.md_cotree.specs.PlaceTrees.{PlaceTree, tip, inner, PlaceTrees, no_more, then, place_of, Alternates}
use Rattle.md_cotree_edit.specs.Contexts.{AreTreesKept}
use Rattle.md_cotree_edit.specs.Marks.{AreNameMarks, hits_in, full_in, full_row, mixed_in, mixed_count, TellMarks, LowestView, whole, IsLowest}
use Rattle.md_cotree_edit.specs.Relinks.{AreNoted}
use Rattle.md_cotree_edit.proofs.Marks.MarksAroundHole.{fulls_low}
use Rattle.md_cotree_edit.proofs.Marks.MarkedBelow.{bit, full_walked, unhit_walks, are_shown}
use Rattle.md_cotree_edit.proofs.Trees.CountsAtNode.{Sub, SubRow, sub_refl, sub_trans, sub_plug, alternates_sub, node_note, tip_note}

-- a tree that isn't mixed is full, or has no marked name
pub not_mixed : (m : ℕ → ℕ) (t : PlaceTree) → mixed_in m t ≡ 0 → full_in m t ≡ 0 → hits_in m t ≡ 0
not_mixed m t none e = let f : (1 - 0) * min 1 (hits_in m t) ≡ 0 = ap (λ z. (1 - z) * min 1 (hits_in m t)) (sym e) ∙ none in omega arith

module _ (l : Links) (ok : AreLinks l) (t : PlaceTree) (kept : AreTreesKept l (then t no_more)) (alternates : Alternates t)
    (m w : ℕ → ℕ) (marks : AreNameMarks m) (told : TellMarks l m w t) (walked : (p : ℕ) → w p ≡ times p l.marked) where
  noted_in : (s : PlaceTree) → Sub s t → mixed_in m s ≡ 0 → note_at l (place_of s) ≡ full_in m s
  noted_in (tip q v) sub none = tip_note l t kept m w told q v sub
  noted_in (inner q k ts) sub none =
      let note = node_note l t kept m w told q k ts sub in
      elim (bit (full_row m ts) (fulls_low m marks ts)) [
        | inl e ↦
            let quiet = unhit_walks (λ p. tally_at l p + note_at l p) m w (λ p. let a = ok.marks p in let b = walked p in omega arith) ts
            (λ s below. are_shown l t kept m w told s (sub_trans s (inner q k ts) t (inr below) sub)) (alternates_sub (inner q k ts) t sub alternates).2 (not_mixed m (inner q k ts) none e) in
            omega arith
        | inr e ↦ let full = full_walked m marks w ts e in omega arith
      ]

  noted_row : (ts : PlaceTrees) → ((s : PlaceTree) → SubRow s ts → Sub s t) → mixed_count m ts ≡ 0 → AreNoted (note_at l) m ts
  noted_row no_more below none = tt
  noted_row (then s ts) below none =
      (noted_in s (below s (inl (sub_refl s))) (omega arith), noted_row ts (λ r sub. below r (inr sub)) (omega arith))

pub noted_children : (l : Links) → AreLinks l → (d : LowestView) → IsLowest l d → Alternates (whole d) → AreNoted (note_at l) d.marks d.children
noted_children l ok d is alternates =
    noted_row l ok (whole d) is.kept alternates d.marks d.walked is.marks is.told is.walked d.children
    (λ s sub. sub_plug s d.frames (inner d.place d.series d.children) (inr sub)) is.halves.none_mixed
