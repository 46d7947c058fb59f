-- Lines that lead from place to place, and fronts of reports, whatever the places and the lines are.
use Rattle.std.proofs.Common.{◌≡◌, ℕ, ◌⊎◌, List, [], ◌∷◌, ◌++◌, refl, sym, ◌∙◌, ap, subst, inl, inr}
use Rattle.std.specs.List.{flat_map}
use Rattle.std.specs.Prelude.{◌↔◌}
use Rattle.std.proofs.lemmas.List.{append_assoc}
use Rattle.std.proofs.lemmas.Grind.{flat_map-append}
use Rattle.md_report.specs.Protocols.{LeadBy, IsReportBy, IsBegunBy, IsFrontBy, CanEnd}

-- of two beginnings of one list one begins the other
nested : (xs ys us vs : List ℕ) → xs ++ ys ≡ us ++ vs → ((w : List ℕ) × (us ≡ xs ++ w)) ⊎ ((w : List ℕ) × (xs ≡ us ++ w) × (vs ≡ w ++ ys))
nested [] ys us vs same = inl (us, refl)
nested (x ∷ xs) ys [] vs same = inr (x ∷ xs, refl, sym same)
nested (x ∷ xs) ys (u ∷ us) vs same =
    elim (nested xs ys us vs (cc)) [
      | inl w ↦ inl (w.0, cc)
      | inr w ↦ inr (w.0, cc, w.2)
    ]

module _ {P L : Type 0} (MayCome : P → L → Type 0) (next : P → L → P) where
  pub lead_append : (p q r : P) (lines more : List L) → LeadBy MayCome next p lines q → LeadBy MayCome next q more r → LeadBy MayCome next p (lines ++ more) r
  lead_append p q r [] more leads on = subst (λ z. LeadBy MayCome next z more r) (sym leads) on
  lead_append p q r (line ∷ lines) more leads on = (leads.0, lead_append (next p line) q r lines more leads.1 on)

  pub lead_split : (p r : P) (lines more : List L) → LeadBy MayCome next p (lines ++ more) r → (q : P) × LeadBy MayCome next p lines q × LeadBy MayCome next q more r
  lead_split p r [] more leads = (p, refl, leads)
  lead_split p r (line ∷ lines) more leads =
      let s : (q : P) × LeadBy MayCome next (next p line) lines q × LeadBy MayCome next q more r = lead_split (next p line) r lines more leads.1 in
      (s.0, (leads.0, s.1), s.2)

  -- from a place to which lines lead others lead on as well
  pub can_end_behind : (last p q : P) (lines : List L) → LeadBy MayCome next p lines q → CanEnd MayCome next last p → CanEnd MayCome next last q
  can_end_behind last p q lines leads can more r on = can (lines ++ more) r (lead_append p q r lines more leads on)

  -- lines lead somewhere exactly where they are the first of lines that lead to the last place
  pub lines_lead_by : (last p : P) → CanEnd MayCome next last p → (lines : List L) →
      ((q : P) × LeadBy MayCome next p lines q) ↔ ((more : List L) × LeadBy MayCome next p (lines ++ more) last)
  lines_lead_by last p can lines = (
    (λ leads.
        let rest : (more : List L) × LeadBy MayCome next leads.0 more last = can lines leads.0 leads.1 in
        (rest.0, lead_append p leads.0 last lines rest.0 leads.1 rest.1)),
    λ whole. let s : (q : P) × LeadBy MayCome next p lines q × LeadBy MayCome next q whole.0 last = lead_split p last lines whole.0 whole.1 in (s.0, s.1),
  )

module _ {P L : Type 0} (MayCome : P → L → Type 0) (next : P → L → P) (fed : L → List ℕ) (last : P) where
  -- where a line that may come is begun, the rest of it and of the report is to come
  begun_begins : (p : P) → CanEnd MayCome next last p → (begun : List ℕ) → IsBegunBy MayCome fed p begun → (rest : List ℕ) × IsReportBy MayCome next fed last p (begun ++ rest)
  begun_begins p can begun (inl none) =
      let whole : (lines : List L) × LeadBy MayCome next p lines last = can [] p refl in
      (flat_map fed whole.0, record { lines = whole.0; leads = whole.1; text = ap (λ b. b ++ flat_map fed whole.0) none })
  begun_begins p can begun (inr line) =
      let whole : (lines : List L) × LeadBy MayCome next (next p line.0) lines last = can (line.0 ∷ []) (next p line.0) (line.1, refl) in (
        line.2 ++ flat_map fed whole.0,
        record {
          lines = line.0 ∷ whole.0;
          leads = (line.1, whole.1);
          text = sym (append_assoc begun line.2 (flat_map fed whole.0)) ∙ ap (λ t. t ++ flat_map fed whole.0) (sym line.3);
        },
      )

  of_front : (p : P) → CanEnd MayCome next last p → (bytes : List ℕ) → IsFrontBy MayCome next fed p bytes → (rest : List ℕ) × IsReportBy MayCome next fed last p (bytes ++ rest)
  of_front p can bytes front =
      let on : (rest : List ℕ) × IsReportBy MayCome next fed last front.place (front.begun ++ rest) =
      begun_begins front.place (can_end_behind MayCome next last p front.place front.lines front.leads can) front.begun front.begins in (
        on.0,
        record {
          lines = front.lines ++ on.1.lines;
          leads = lead_append MayCome next p front.place last front.lines on.1.lines front.leads on.1.leads;
          text = ap (λ b. b ++ on.0) front.text ∙ append_assoc (flat_map fed front.lines) front.begun on.0
              ∙ ap (λ b. flat_map fed front.lines ++ b) on.1.text ∙ sym (flat_map-append fed front.lines on.1.lines);
        },
      )

  to_front : (p : P) (lines : List L) → LeadBy MayCome next p lines last → (bytes rest : List ℕ) → bytes ++ rest ≡ flat_map fed lines → IsFrontBy MayCome next fed p bytes
  to_front p [] leads bytes rest text =
      record { lines = []; place = p; leads = refl; begun = bytes; begins = inl (nothing bytes rest text); text = refl }
    where
      nothing : (xs ys : List ℕ) → xs ++ ys ≡ [] → xs ≡ []
      nothing [] ys same = refl
      nothing (x ∷ xs) ys same = absurd (cc)
  to_front p (line ∷ lines) leads bytes rest text =
      elim (nested bytes rest (fed line) (flat_map fed lines) text) [
        | inl w ↦ record { lines = []; place = p; leads = refl; begun = bytes; begins = inr (line, leads.0, w.0, w.1); text = refl }
        | inr w ↦
            let on : IsFrontBy MayCome next fed (next p line) w.0 = to_front (next p line) lines leads.1 w.0 rest (sym w.2) in
            record {
              lines = line ∷ on.lines;
              place = on.place;
              leads = (leads.0, on.leads);
              begun = on.begun;
              begins = on.begins;
              text = w.1 ∙ ap (λ b. fed line ++ b) on.text ∙ sym (append_assoc (fed line) (flat_map fed on.lines) on.begun);
            }
      ]

  -- the fronts of reports are the beginnings of whole ones
  pub fronts_begin_by : (p : P) → CanEnd MayCome next last p → (bytes : List ℕ) →
      IsFrontBy MayCome next fed p bytes ↔ ((rest : List ℕ) × IsReportBy MayCome next fed last p (bytes ++ rest))
  fronts_begin_by p can bytes = (of_front p can bytes, λ whole. to_front p whole.1.lines whole.1.leads bytes whole.0 whole.1.text)
