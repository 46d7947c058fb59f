-- Lines are cut out of a text in one way, where no text of a line has a line feed.
use Rattle.std.proofs.Common.{◌≡◌, ◌≢◌, ℕ, List, [], ◌∷◌, ◌++◌, sym, ◌∙◌, refl, append_assoc}
use Rattle.md_report.specs.Cuts.{LacksByte}
use Rattle.md_report.specs.Protocols.{fed_by, IsLineSpelling}
use Rattle.md_report.proofs.Cutting.{one_cut}

module _ {L : Type 0} (text : L → List ℕ) (spells : IsLineSpelling text) where
  fed_front : (line : L) (r : List ℕ) → fed_by text line ++ r ≡ text line ++ 10 ∷ r
  fed_front line r = append_assoc (text line) (10 ∷ []) r

  -- of two texts that begin with a line and its line feed, the lines and what stands behind them are the same where the
  -- texts are
  pub first_line : (k l : L) (r s : List ℕ) → fed_by text k ++ r ≡ fed_by text l ++ s → (k ≡ l) × (r ≡ s)
  first_line k l r s e =
      let i : (text k ≡ text l) × (10 ∷ r ≡ 10 ∷ s) =
      one_cut 10 (text k) (text l) (10 ∷ r) (10 ∷ s) (spells.lacks k) (spells.lacks l) refl refl (sym (fed_front k r) ∙ e ∙ fed_front l s) in
      let f : 10 ∷ r ≡ 10 ∷ s = i.1 in
      (spells.one k l i.0, cc)

  -- what stands before the first line feed of a text that begins with a line is that line's text
  pub line_before : (line : L) (r front behind : List ℕ) → LacksByte 10 front → front ++ 10 ∷ behind ≡ fed_by text line ++ r → front ≡ text line
  line_before line r front behind lacks e =
      (one_cut 10 front (text line) (10 ∷ behind) (10 ∷ r) lacks (spells.lacks line) refl refl (e ∙ fed_front line r)).0

  -- a text without line feed begins with no line
  pub no_line : (line : L) (r front : List ℕ) → LacksByte 10 front → front ≢ fed_by text line ++ r
  no_line line r front lacks e = has (text line) front lacks (e ∙ fed_front line r) where
    has : (xs front : List ℕ) → LacksByte 10 front → front ≡ xs ++ 10 ∷ r → ⊥
    has [] [] lacks e = let f : [] ≡ 10 ∷ r = e in cc
    has [] (y ∷ front) lacks e = let f : y ∷ front ≡ 10 ∷ r = e in lacks.0 (cc)
    has (x ∷ xs) [] lacks e = let f : [] ≡ x ∷ (xs ++ 10 ∷ r) = e in cc
    has (x ∷ xs) (y ∷ front) lacks e = let f : y ∷ front ≡ x ∷ (xs ++ 10 ∷ r) = e in has xs front lacks.1 (cc)
