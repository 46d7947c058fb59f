-- The texts of arcs, from the pieces of their names.
use Rattle.std.proofs.Common.{◌≡◌, ℕ, ◌<◌, List, [], ◌∷◌, ◌++◌, map, length, drop, codes, append_assoc, append-nil, refl, sym, ◌∙◌, ap, subst, arith}
use Rattle.std.proofs.lemmas.List.Elements.{All-nil, All-cons, All-head, All-tail, All-drop}
use Rattle.std.proofs.lemmas.List.Concat.{flat_map-append}
use Rattle.std.proofs.lemmas.Option.{slice_get-get_or}
use Rattle.std.specs.List.{All}
use Rattle.std.specs.Option.{option_map_or}
use Rattle.md_text.specs.declared.piece.Piece.{Piece}
use Rattle.md_text.specs.Numbers.{decimal}
use Rattle.md_text.specs.Pieces.{AreNumerals, piece_text, text_at, texts_at}
use Rattle.md_forcing.specs.declared.arc.Arc.{Arc}
use Rattle.md_forcing.specs.Forcing.{arc}
use Rattle.md_report.specs.Lines.{arc_text, arcs_text}

-- the piece of a name
name_text : (pieces : List Piece) → AreNumerals pieces → (v : ℕ) → v < length pieces → text_at pieces v ≡ decimal v
name_text pieces are v there =
    let any : Piece = record { bytes = []; used = 0; within = omega arith } in
    ap (λ o. option_map_or piece_text o []) (slice_get-get_or pieces v any there) ∙ are.text v any there

-- the pieces of one tail's arcs are their text
pub heads_text : (pieces : List Piece) → AreNumerals pieces → (start : List ℕ) (tail : ℕ) → start ≡ 32 ∷ (decimal tail ++ 62 ∷ []) → (heads : List ℕ) → All (λ v. v < length pieces) heads →
    texts_at pieces start heads ≡ arcs_text (map (arc tail) heads)
unfolding texts_at
heads_text pieces are start tail is [] there = refl
heads_text pieces are start tail is (v ∷ heads) there =
    let here : text_at pieces v ≡ decimal v = name_text pieces are v (All-head (λ v. v < length pieces) v heads there) in
    let more : texts_at pieces start heads ≡ arcs_text (map (arc tail) heads) = heads_text pieces are start tail is heads (All-tail (λ v. v < length pieces) v heads there) in
    (λ i. (is i ++ here i) ++ more i)
    ∙ ap (λ l. 32 ∷ l ++ arcs_text (map (arc tail) heads)) (append_assoc (decimal tail) (62 ∷ []) (decimal v))

-- ---- arcs that are put, and those behind them

pub arcs_more : (before after put total : List ℕ) (arcs front rest : List Arc) → before ++ arcs_text arcs ≡ total → arcs ≡ front ++ rest → after ≡ before ++ put → put ≡ arcs_text front → after ++ arcs_text rest ≡ total
arcs_more before after put total arcs front rest all cut more is =
    ap (λ l. l ++ arcs_text rest) (more ∙ ap (λ l. before ++ l) is) ∙ append_assoc before (arcs_text front) (arcs_text rest)
    ∙ ap (λ l. before ++ l) (sym (ap arcs_text cut ∙ flat_map-append (λ a. codes " " ++ arc_text a) front rest)) ∙ all

one_arc : (before first second after : List ℕ) (tail head : ℕ) → first ≡ 32 ∷ (decimal tail ++ 62 ∷ []) → second ≡ decimal head → after ≡ (before ++ first) ++ second → after ≡ before ++ arcs_text (arc tail head ∷ [])
one_arc before first second after tail head is_first is_second put =
    put ∙ append_assoc before first second
    ∙ ap (λ l. before ++ l) ((λ i. is_first i ++ is_second i) ∙ ap (λ l. 32 ∷ l) (append_assoc (decimal tail) (62 ∷ []) (decimal head)) ∙ sym (append-nil (32 ∷ (decimal tail ++ 62 ∷ decimal head))))

-- one arc, from what stands before its head and the piece of its head
pub arc_more : (before first second after total : List ℕ) (tail head : ℕ) (arcs rest : List Arc) → before ++ arcs_text arcs ≡ total → arcs ≡ arc tail head ∷ rest → first ≡ 32 ∷ (decimal tail ++ 62 ∷ []) → second ≡ decimal head →
    after ≡ (before ++ first) ++ second → after ++ arcs_text rest ≡ total
arc_more before first second after total tail head arcs rest all cut is_first is_second put =
    arcs_more before after (arcs_text (arc tail head ∷ [])) total arcs (arc tail head ∷ []) rest all cut (one_arc before first second after tail head is_first is_second put) refl

-- ---- the heads of arcs of one tail

module _ (limit : ℕ) where
  abbrev pub IsArcBelow : Arc → Type 0
  IsArcBelow by = (by.tail < limit) × (by.head < limit)

  heads_of : (tail : ℕ) (heads : List ℕ) (rest arcs : List Arc) → All IsArcBelow arcs → arcs ≡ map (arc tail) heads ++ rest → All (λ v. v < limit) heads
  heads_of tail [] rest arcs all cut = All-nil (λ v. v < limit)
  heads_of tail (v ∷ heads) rest arcs all cut =
      let below = subst (All IsArcBelow) cut all in
      All-cons (λ v. v < limit) v heads (All-head IsArcBelow (arc tail v) (map (arc tail) heads ++ rest) below).1
      (heads_of tail heads rest (map (arc tail) heads ++ rest) (All-tail IsArcBelow (arc tail v) (map (arc tail) heads ++ rest) below) refl)

  -- the heads of arcs from a place on
  pub heads_below : (tail at : ℕ) (heads : List ℕ) (rest arcs : List Arc) → All IsArcBelow arcs → drop at arcs ≡ map (arc tail) heads ++ rest → All (λ v. v < limit) heads
  heads_below tail at heads rest arcs all cut = heads_of tail heads rest (drop at arcs) (All-drop IsArcBelow at arcs all) cut

  pub head_below : (tail head at : ℕ) (rest arcs : List Arc) → All IsArcBelow arcs → drop at arcs ≡ arc tail head ∷ rest → head < limit
  head_below tail head at rest arcs all cut = (All-head IsArcBelow (arc tail head) rest (subst (All IsArcBelow) cut (All-drop IsArcBelow at arcs all))).1
