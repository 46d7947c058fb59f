-- What a line does to a checker: the tests and the places of the parts, along equal places.
use Rattle.std.proofs.Common.{◌≡◌, ◌≢◌, ◌↔◌, ℕ, ◌+◌, Bool, true, false, List, [], ◌∷◌, drop, length, Option, None, Result, Ok, Err, Some, IfOk, IsErr, refl, sym, ◌∙◌, ap, subst, inl, inr, arith}
use Rattle.std.specs.Prelude.{IsTrue, IfSome, slice_get, if◌then◌else◌}
use Rattle.std.proofs.lemmas.List.{drop_all}
use Rattle.std.proofs.lemmas.Option.{slice_get_within}
use Rattle.md_graph.specs.PlainGraph.{PlainGraph}
use Rattle.md_graph.proofs.SetLemmas.{clash}
use Rattle.md_script.specs.declared.edit.Edit as script
use Rattle.md_script.specs.declared.item.Item.{Item}
use Rattle.md_script.specs.Histories.{HistoryFits}
use Rattle.md_report.specs.declared.line.SessionMode.{SessionMode}
use Rattle.md_report.specs.declared.line.SessionMode.TheVariants.{Quiet}
use Rattle.md_report.specs.Cographs.{IsCograph}
use Rattle.md_report.specs.Sessions.{State, first_state}
use Rattle.md_report.specs.Lines.{PlainLine, line_text}
use Rattle.md_report.specs.WellFormedLines.{IsWellFormedLine}
use Rattle.md_bar.specs.ClassLines.{IsWellFormedClass}
use Rattle.md_report.specs.ItemLines.{IsAllowed}
use Rattle.md_report.specs.Places.{Place, at_state, at_items, closed_place, ClosesItems, MayCome, next_place}
use Rattle.md_report.specs.Steps.{state_of}
use Rattle.md_report.specs.Laws.{IsSound}
use Rattle.md_report.proofs.Places.{lead_sound, first_place}
use Rattle.md_report.proofs.Groups.{drop_read}
use Rattle.md_report.proofs.OneLine.{one_line_proof}
use Rattle.md_checker.specs.declared.session_checker.SessionDue.{SessionDue}
use Rattle.md_checker.specs.declared.session_checker.SessionDue.TheVariants.{Head, State as StateDue, Items}
use Rattle.md_checker.specs.Judged.{IsJudged}
use Rattle.md_checker.specs.Standing.{session_place, IsStanding, IsStep, Takes}
use Rattle.md_checker.specs.declared.session_checker.Step.{Step}
use Rattle.md_checker.proofs.Coming.{coming_good}

-- a checker at the items
pub at_the_items : (limit : ℕ) (due : SessionDue) (mode : SessionMode) (g : PlainGraph) (items : List (List script.Edit)) (left : List Item) → due ≡ Items → HistoryFits limit (IsAllowed mode) g items → IsAllowed mode g → IsStanding limit due mode g items left
at_the_items limit due mode g items left is fits allowed = record {
  head = λ d. absurd (let e = sym is ∙ d in cc);
  state = λ d. absurd (let e = sym is ∙ d in cc);
  fits = λ d. fits;
  allowed = λ d some. allowed;
}

-- where a line is due that is not before an item
pub past_items : (limit : ℕ) (due : SessionDue) (mode : SessionMode) (g : PlainGraph) (items : List (List script.Edit)) (left : List Item) → (due ≡ Head → ⊥) → (due ≡ StateDue → ⊥) → (due ≡ Items → ⊥) → IsStanding limit due mode g items left
past_items limit due mode g items left head state items_due = record {
  head = λ d. absurd (head d);
  state = λ d. absurd (state d);
  fits = λ d. absurd (items_due d);
  allowed = λ d some. absurd (items_due d);
}

module _ (limit : ℕ) (mode : SessionMode) (g h : PlainGraph) (items left : List (List script.Edit)) (all : List Item) (n : ℕ) (item : Item) (line : PlainLine) (found : slice_get all n ≡ Some item) where
  -- a line that answers the next item
  pub item_step : (s : Step) → s.due ≡ Items → s.answered ≡ n + 1 → IsJudged true limit mode g items item line h left → IsStep limit (at_items mode (state_of g items) (drop n all)) line s mode h left all
  item_step s due answered judged =
      let rest : drop n all ≡ item ∷ drop (n + 1) all = drop_read all n item found in
      let step = judged.0 in
      record {
        may = subst (λ l. MayCome (at_items mode (state_of g items) l) line) (sym rest) step.line_is;
        next =
            ap (λ d. session_place d mode (state_of h left) (drop s.answered all)) due ∙ ap (λ k. at_items mode (state_of h left) (drop k all)) answered
            ∙ ap (λ x. at_items mode x (drop (n + 1) all)) step.state_is ∙ ap (λ l. next_place (at_items mode (state_of g items) l) line) (sym rest);
        within = omega (arith, answered, slice_get_within all n item found);
        standing = at_the_items limit s.due mode h left (drop s.answered all) due step.fits judged.1;
      }

  -- a line that doesn't
  pub item_lacks : IsJudged false limit mode g items item line h left → (MayCome (at_items mode (state_of g items) (drop n all)) line → ⊥) × ((h ≡ g) × (left ≡ items))
  item_lacks judged = ((λ comes. judged.0 (subst (λ l. MayCome (at_items mode (state_of g items) l) line) (drop_read all n item found) comes)), judged.1)

-- the place behind a line that was fed is sound
pub fed_sound : {E : Type 0} (r : Result Bool E) (p q : Place) (line : PlainLine) → IsSound p → IfOk r (λ taken. IsTrue taken ↔ MayCome p line) →
    IfOk r (λ taken. q ≡ (if taken then next_place p line else p)) → (IsErr r → q ≡ p) → IsSound q
fed_sound (Ok true) p q line sound may next stays = subst IsSound (sym next) (lead_sound p (next_place p line) (line ∷ []) sound (may.0 refl, refl))
fed_sound (Ok false) p q line sound may next stays = subst IsSound (sym next) sound
fed_sound (Err e) p q line sound may next stays = subst IsSound (sym (stays refl)) sound

-- a text by the line that it is of, and one that is of no well-formed line
pub text_may : {E : Type 0} (r : Result Bool E) (p : Place) (l : PlainLine) (text : List ℕ) → text ≡ line_text l → IfOk r (λ taken. IsTrue taken ↔ MayCome p l) →
    IfOk r (λ taken. IsTrue taken ↔ ((line : PlainLine) × MayCome p line × (text ≡ line_text line)))
text_may (Ok taken) p l text is may =
    ((λ yes. (l, may.0 yes, is)), λ some. may.1 (subst (MayCome p) (one_line_proof some.0 l (sym some.2 ∙ is)) some.1))
text_may (Err e) p l text is may = tt

-- the same with the place behind it
pub text_next : {E : Type 0} (r : Result Bool E) (p q : Place) (l : PlainLine) (text : List ℕ) → text ≡ line_text l → IfOk r (λ taken. IsTrue taken ↔ MayCome p l) → IfOk r (λ taken. q ≡ (if taken then next_place p l else p))
    → IfOk r (λ taken. IsTrue taken → (line : PlainLine) × MayCome p line × (text ≡ line_text line) × (q ≡ next_place p line))
text_next (Ok true) p q l text is may next = λ yes. (l, may.0 yes, is, next)
text_next (Ok false) p q l text is may next = λ yes. absurd (clash yes refl)
text_next (Err e) p q l text is may next = tt

-- a text of no well-formed line
pub none_may : (p : Place) (text : List ℕ) → IsSound p → ((line : PlainLine) → IsWellFormedLine line → text ≢ line_text line) → ((line : PlainLine) → IsWellFormedClass line → text ≢ line_text line) →
    ((line : PlainLine) × MayCome p line × (text ≡ line_text line)) → ⊥
none_may p text sound none other some = elim (coming_good p sound some.0 some.1) [ inl good ↦ none some.0 good some.2 | inr good ↦ other some.0 good some.2 ]

-- the place behind a line that was taken by its text is sound
pub taken_sound : {E : Type 0} (r : Result Bool E) (p q : Place) (text : List ℕ) → IsSound p → IfOk r (λ taken. IsTrue taken → Takes p text q) → IfOk r (λ taken. ¬ IsTrue taken → q ≡ p) → (IsErr r → q ≡ p) → IsSound q
taken_sound (Ok true) p q text sound takes refused stays = let t = takes refl in subst IsSound (sym t.3) (lead_sound p (next_place p t.0) (t.0 ∷ []) sound (t.1, refl))
taken_sound (Ok false) p q text sound takes refused stays = subst IsSound (sym (refused (λ f. clash f refl))) sound
taken_sound (Err e) p q text sound takes refused stays = subst IsSound (sym (stays refl)) sound

-- in mode quiet a cograph has no line of its own
opened_step : (limit : ℕ) (g h : PlainGraph) (items left : List (List script.Edit)) (l all : List Item) (line : PlainLine) (s : Step) → IsCograph g → items ≡ [] → IsStep limit (at_items Quiet (state_of g items) l) line s Quiet h left all
    → IsStep limit (at_state Quiet g l) line s Quiet h left all
opened_step limit g h items left l all line s free none step =
    let first : IsStep limit (at_items Quiet (first_state g) l) line s Quiet h left all = subst (λ i. IsStep limit (at_items Quiet (state_of g i) l) line s Quiet h left all) none step in
    record { may = inr (free, first.may); next = first.next ∙ sym (first_place g l line first.may); within = first.within; standing = first.standing }

pub opened_leads : {X : Type 0} (r : Result (Option Step) X) (limit : ℕ) (g h : PlainGraph) (items left : List (List script.Edit)) (l all : List Item) (line : PlainLine) → IsCograph g → items ≡ []
    → IfOk r (λ next. IfSome next (λ s. IsStep limit (at_items Quiet (state_of g items) l) line s Quiet h left all)) → IfOk r (λ next. IfSome next (λ s. IsStep limit (at_state Quiet g l) line s Quiet h left all))
opened_leads (Ok (Some s)) limit g h items left l all line free none steps = opened_step limit g h items left l all line s free none steps
opened_leads (Ok None) limit g h items left l all line free none steps = tt
opened_leads (Err e) limit g h items left l all line free none steps = tt

-- the line behind all answers
pub closing_step : (limit : ℕ) (mode : SessionMode) (g : PlainGraph) (items : List (List script.Edit)) (all : List Item) (n : ℕ) (line : PlainLine) (due : SessionDue) → n ≡ length all → ClosesItems mode g line
    → ((s : State) (l : List Item) → session_place due mode s l ≡ closed_place mode) → (due ≡ Head → ⊥) × (due ≡ StateDue → ⊥) × (due ≡ Items → ⊥)
    → IsStep limit (at_items mode (state_of g items) (drop n all)) line (record { due = due; answered = n }) mode g items all
closing_step limit mode g items all n line due is closes place later =
    let none : drop n all ≡ [] = drop_all n all (omega (arith, is)) in
    record {
      may = subst (λ l. MayCome (at_items mode (state_of g items) l) line) (sym none) closes;
      next = place (state_of g items) (drop n all) ∙ sym (ap (λ l. next_place (at_items mode (state_of g items) l) line) none);
      within = omega (arith, is);
      standing = past_items limit due mode g items (drop n all) later.0 later.1 later.2;
    }
