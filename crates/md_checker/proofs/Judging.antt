-- Where reading stops: the line behind those that are shared with a valid report, or the end of one.
use Rattle.std.proofs.Common.{◌≡◌, ◌≢◌, ◌⊎◌, true, false, ℕ, ◌+◌, ◌≤◌, List, [], ◌∷◌, ◌++◌, length, refl, sym, ◌∙◌, ap, ap₂, subst, inl, inr, arith, append_assoc, append-nil, length-append}
use Rattle.std.specs.Prelude.{◌==◌}
use Rattle.std.specs.List.{flat_map}
use Rattle.std.proofs.lemmas.Grind.{flat_map-append}
use Rattle.md_graph.proofs.SetLemmas.{clash}
use Rattle.md_report.specs.Cuts.{LacksByte}
use Rattle.md_report.specs.Protocols.{fed_by, LeadBy, IsReportBy, CanEnd, IsLast, IsLineSpelling}
use Rattle.md_report.proofs.Behind.{nothing_left}
use Rattle.md_report.proofs.Protocols.{lead_append, lead_split}
use Rattle.md_checker.specs.declared.answer.CheckAnswer.TheVariants.{Rejected}
use Rattle.md_checker.specs.Answers.{SharesFirstBy, IsCheckAnswerBy, HaveComeBy}
use Rattle.md_report.proofs.FirstLines.{first_line, line_before, no_line}

-- no line that may come at q stands next
abbrev pub IsStuck : {P L : Type 0} → (P → L → Type 0) → (L → List ℕ) → P → List ℕ → Type 0
IsStuck {P} {L} MayCome text q rest = (line : L) → MayCome q line → (more : List ℕ) → rest ≢ fed_by text line ++ more

-- a text of some bytes
pub some_left : (rest : List ℕ) → (length rest == 0) ≡ false → rest ≢ []
some_left rest some none = let f : (length rest == 0) ≡ true = ap (λ (w : List ℕ). length w == 0) none in clash f some

module _ {P L : Type 0} (MayCome : P → L → Type 0) (next : P → L → P) (text : L → List ℕ) (last : P) (spells : IsLineSpelling text) (ends : IsLast MayCome last) where
  -- Of lines that lead from p, with a rest behind them, and others with the same text, the others are the first of them;
  -- or all of them, and then a line that stands next in the rest.
  shared : (p q r : P) (lines others : List L) (rest behind : List ℕ) → LeadBy MayCome next p lines q → LeadBy MayCome next p others r →
      flat_map (fed_by text) lines ++ rest ≡ flat_map (fed_by text) others ++ behind →
      ((more : List L) × (lines ≡ others ++ more)) ⊎ ((line : L) × (more : List ℕ) × MayCome q line × (rest ≡ fed_by text line ++ more))
  shared p q r lines [] rest behind leads other same = inl (lines, refl)
  shared p q r [] (k ∷ others) rest behind leads other same =
      inr (k, flat_map (fed_by text) others ++ behind, subst (λ z. MayCome z k) leads other.0, same ∙ append_assoc (fed_by text k) (flat_map (fed_by text) others) behind)
  shared p q r (l ∷ lines) (k ∷ others) rest behind leads other same =
      let one : (l ≡ k) × (flat_map (fed_by text) lines ++ rest ≡ flat_map (fed_by text) others ++ behind) =
      first_line text spells l k (flat_map (fed_by text) lines ++ rest) (flat_map (fed_by text) others ++ behind)
      (sym (append_assoc (fed_by text l) (flat_map (fed_by text) lines) rest) ∙ same ∙ append_assoc (fed_by text k) (flat_map (fed_by text) others) behind) in
      elim (shared (next p l) q r lines others rest behind leads.1 (subst (λ z. LeadBy MayCome next (next p z) others r) (sym one.0) other.1) one.1) [
        | inl w ↦ inl (w.0, ap₂ (λ (z : L) (zs : List L). z ∷ zs) one.0 w.1)
        | inr w ↦ inr w
      ]

  -- lines that lead to the end are followed by none
  at_end : (p q : P) (lines more : List L) → LeadBy MayCome next p lines last → LeadBy MayCome next p (lines ++ more) q → (more ≡ []) × (q ≡ last)
  at_end p q [] [] end leads = (refl, sym leads ∙ end)
  at_end p q [] (l ∷ more) end leads = absurd (ends l (subst (λ z. MayCome z l) end leads.0))
  at_end p q (l ∷ lines) more end leads = at_end (next p l) q lines more end.1 leads.1

  -- where no line stands next, and it isn't the end, the line behind those that have come is told
  pub rejected : (p q : P) (bytes rest : List ℕ) (number : ℕ) → CanEnd MayCome next last p → HaveComeBy MayCome next (fed_by text) p bytes q rest number → IsStuck MayCome text q rest → (q ≡ last → rest ≢ []) →
      IsCheckAnswerBy MayCome next (fed_by text) last p bytes (Rejected number)
  rejected p q bytes rest number can come stuck left =
      let on : (lines : List L) × LeadBy MayCome next q lines last = can come.lines q come.leads in (
        not_whole,
        length come.lines,
        come.counted,
        record {
          shares = record {
            lines = come.lines;
            more = on.0;
            valid = lead_append MayCome next p q last come.lines on.0 come.leads on.1;
            number = refl;
            rest = rest;
            begins = come.text_is;
          };
          most = most;
        },
      )
    where
      not_whole : IsReportBy MayCome next (fed_by text) last p bytes → ⊥
      not_whole whole =
          elim (shared p q last come.lines whole.lines rest [] come.leads whole.leads (sym come.text_is ∙ whole.text ∙ sym (append-nil (flat_map (fed_by text) whole.lines)))) [
            | inl w ↦
                let e : (w.0 ≡ []) × (q ≡ last) = at_end p q whole.lines w.0 whole.leads (subst (λ z. LeadBy MayCome next p z q) w.1 come.leads) in
                let same : come.lines ≡ whole.lines = w.1 ∙ ap (λ z. whole.lines ++ z) e.0 ∙ append-nil whole.lines in
                left e.1 (none_behind (flat_map (fed_by text) whole.lines) rest (sym (ap (λ z. flat_map (fed_by text) z ++ rest) same) ∙ sym come.text_is ∙ whole.text))
            | inr w ↦ stuck w.0 w.2 w.1 w.3
          ]
        where
          none_behind : (xs ys : List ℕ) → xs ++ ys ≡ xs → ys ≡ []
          none_behind [] ys e = e
          none_behind (x ∷ xs) ys e = none_behind xs ys (let f : x ∷ (xs ++ ys) ≡ x ∷ xs = e in cc)

      most : (m : ℕ) → SharesFirstBy MayCome next (fed_by text) last p bytes m → m ≤ length come.lines
      most m first =
          let s : (z : P) × LeadBy MayCome next p first.lines z × LeadBy MayCome next z first.more last = lead_split MayCome next p last first.lines first.more first.valid in
          elim (shared p q s.0 come.lines first.lines rest first.rest come.leads s.1 (sym come.text_is ∙ first.begins)) [
            | inl w ↦ omega (arith, ap length w.1, length-append first.lines w.0, first.number)
            | inr w ↦ absurd (stuck w.0 w.2 w.1 w.3)
          ]

  -- where nothing is left at the end, the report is whole
  pub accepted : (p q : P) (bytes rest : List ℕ) (number : ℕ) → HaveComeBy MayCome next (fed_by text) p bytes q rest number → q ≡ last → rest ≡ [] → IsReportBy MayCome next (fed_by text) last p bytes
  accepted p q bytes rest number come is_end none = record {
    lines = come.lines;
    leads = subst (λ z. LeadBy MayCome next p come.lines z) is_end come.leads;
    text = come.text_is ∙ ap (λ r. flat_map (fed_by text) come.lines ++ r) none ∙ append-nil (flat_map (fed_by text) come.lines);
  }

module _ {P L : Type 0} (MayCome : P → L → Type 0) (next : P → L → P) (text : L → List ℕ) where
  -- one more line has come
  pub came : (p q z : P) (bytes rest front behind : List ℕ) (number : ℕ) → HaveComeBy MayCome next (fed_by text) p bytes q rest number → rest ≡ front ++ 10 ∷ behind →
      ((line : L) × MayCome q line × (front ≡ text line) × (z ≡ next q line)) → HaveComeBy MayCome next (fed_by text) p bytes z behind (number + 1)
  came p q z bytes rest front behind number so cut one = record {
    lines = so.lines ++ one.0 ∷ [];
    leads = lead_append MayCome next p q z so.lines (one.0 ∷ []) so.leads (one.1, sym one.3);
    text_is =
        so.text_is ∙ ap (λ r. flat_map (fed_by text) so.lines ++ r) (cut ∙ ap (λ t. t ++ 10 ∷ behind) one.2 ∙ sym (append_assoc (text one.0) (10 ∷ []) behind))
        ∙ sym (append_assoc (flat_map (fed_by text) so.lines) (fed_by text one.0) behind)
        ∙ ap (λ t. t ++ behind) (sym (flat_map-append (fed_by text) so.lines (one.0 ∷ []) ∙ ap (λ t. flat_map (fed_by text) so.lines ++ t) (append-nil (fed_by text one.0))));
    counted = omega (arith, so.counted, length-append so.lines (one.0 ∷ []));
  }

module _ {P L : Type 0} (MayCome : P → L → Type 0) (text : L → List ℕ) (spells : IsLineSpelling text) where
  -- where the line that stands next may not come, none may
  pub stuck_line : (q : P) (rest front behind : List ℕ) → LacksByte 10 front → rest ≡ front ++ 10 ∷ behind →
      (((line : L) × MayCome q line × (front ≡ text line)) → ⊥) → IsStuck MayCome text q rest
  stuck_line q rest front behind lacks cut none line may more same = none (line, may, line_before text spells line more front behind lacks (sym cut ∙ same))

  -- a rest without line feed is no line
  pub stuck_rest : (q : P) (rest : List ℕ) → LacksByte 10 rest → IsStuck MayCome text q rest
  stuck_rest q rest lacks line may more = no_line text spells line more rest lacks

  -- nor is a rest of no bytes
  pub stuck_empty : (q : P) (rest : List ℕ) → (length rest == 0) ≡ true → IsStuck MayCome text q rest
  stuck_empty q rest none = stuck_rest q rest (subst (LacksByte 10) (sym (nothing_left rest none)) tt)
