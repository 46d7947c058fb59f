-- The line of an item in a mode of sessions on cographs, by the line that it has in mode quiet.
use Rattle.std.proofs.Common.{◌≡◌, ◌⊎◌, ℕ, ◌+◌, Bool, true, false, List, [], ◌∷◌, Option, None, Some, refl, sym, ◌∙◌, ap, subst, inl, inr}
use Rattle.std.specs.Prelude.{if◌then◌else◌}
use Rattle.md_graph.specs.PlainGraph.{PlainGraph}
use Rattle.md_graph.proofs.SetLemmas.{clash}
use Rattle.md_bar_tree.specs.declared.Bar.{Bar}
use Rattle.md_script.specs.declared.edit.Edit as script
use Rattle.md_script.specs.declared.edit.EditReason.{EditReason}
use Rattle.md_script.specs.declared.item.Item.{Item}
use Rattle.md_script.specs.declared.item.Item.TheVariants.{One, Undo, Group}
use Rattle.md_script.specs.Edit.{reason_of, after}
use Rattle.md_script.specs.Pasts.{all_after}
use Rattle.md_report.specs.declared.line.SessionMode.{SessionMode}
use Rattle.md_report.specs.declared.line.SessionMode.TheVariants.{Edit, Cograph, Quiet, Of}
use Rattle.md_report.specs.Lines.{PlainLine}
use Rattle.md_report.specs.Cographs.{IsCograph, IsP4Bar}
use Rattle.md_report.specs.ItemLines.{IsAllowed, IsBarred, IsDoneLine, IsLineAt, IsGroupLine, IsUndoLine, AnswersItem}
use Rattle.md_report.specs.Laws.{KeepsCographs}
use Rattle.md_report.specs.Sessions.{State, undone, applied_state, is_applied, state_behind}
use Rattle.md_report.specs.Steps.{state_of, ItemStep}
use Rattle.md_report.proofs.ItemLines.{IsEditLine, edit_line, state_applied}

-- the second line tells in the mode what the first tells in mode quiet, where an item that was applied left the graph h
abbrev pub IsToldLine : SessionMode → PlainGraph → PlainLine → PlainLine → Type 0
IsToldLine mode h line second = ((is_applied line ≡ false) × (second ≡ line)) ⊎ ((is_applied line ≡ true) × (is_applied second ≡ true) × IsDoneLine mode h second)

barred_in : (mode : SessionMode) → KeepsCographs mode → (g : PlainGraph) (bar : Bar) → IsP4Bar g bar → IsBarred mode g bar
barred_in Edit kept g bar path = absurd kept
barred_in Cograph kept g bar path = path
barred_in Quiet kept g bar path = path
barred_in (Of class) kept g bar path = absurd kept

allowed_in : (mode : SessionMode) → KeepsCographs mode → (g : PlainGraph) → IsCograph g → IsAllowed mode g
allowed_in Edit kept g none = absurd kept
allowed_in Cograph kept g none = none
allowed_in Quiet kept g none = none
allowed_in (Of class) kept g none = absurd kept

-- a line that refuses, and one that tells that an item was applied
same_refusal : (mode : SessionMode) (h : PlainGraph) (line second form : PlainLine) → IsToldLine mode h line second → line ≡ form → is_applied form ≡ false → second ≡ form
same_refusal mode h line second form (inl told) is refuses = told.1 ∙ is
same_refusal mode h line second form (inr told) is refuses = absurd (clash (sym (ap is_applied is) ∙ told.0) refuses)

done_in : (mode : SessionMode) (h : PlainGraph) (line second : PlainLine) → IsToldLine mode h line second → is_applied line ≡ true → IsDoneLine mode h second
done_in mode h line second (inl told) done = absurd (clash done told.0)
done_in mode h line second (inr told) done = told.2

module _ (mode : SessionMode) (kept : KeepsCographs mode) (line second : PlainLine) where
  told_edit : (o : Option EditReason) (h : PlainGraph) → IsEditLine o Quiet h line → IsToldLine mode h line second → IsEditLine o mode h second
  told_edit (Some reason) h is told = same_refusal mode h line second _ told is refl
  told_edit None h (inl path) told = inl (path.0, barred_in mode kept h path.0 path.1, same_refusal mode h line second _ told path.2 refl)
  told_edit None h (inr done) told = inr (allowed_in mode kept h done.0, done_in mode h line second told (ap is_applied done.1))

  told_at : (o : Option EditReason) (n : ℕ) (h last : PlainGraph) (Behind Second : Type 0) → IsLineAt o Quiet n h Behind line → IsToldLine mode last line second → (Behind → Second) → IsLineAt o mode n h Second second
  told_at (Some reason) n h last Behind Second is told rest = same_refusal mode last line second _ told is refl
  told_at None n h last Behind Second (inl path) told rest = inl (path.0, barred_in mode kept h path.0 path.1, same_refusal mode last line second _ told path.2 refl)
  told_at None n h last Behind Second (inr behind) told rest = inr (allowed_in mode kept h behind.0, rest behind.1)

  told_group : (n : ℕ) (g : PlainGraph) (edits : List script.Edit) → IsGroupLine Quiet n g edits line → IsToldLine mode (all_after g edits) line second → IsGroupLine mode n g edits second
  told_group n g [] is told = done_in mode g line second told (ap is_applied is)
  told_group n g (edit ∷ edits) is told =
      told_at (reason_of g edit) (n + 1) (after g edit) (all_after (after g edit) edits) (IsGroupLine Quiet (n + 1) (after g edit) edits line) (IsGroupLine mode (n + 1) (after g edit) edits second) is told
      (λ behind. told_group (n + 1) (after g edit) edits behind told)

  told_undo : (g : PlainGraph) (earlier : List PlainGraph) → IsUndoLine Quiet earlier line → IsToldLine mode (undone g earlier).graph line second → IsUndoLine mode earlier second
  told_undo g [] is told = same_refusal mode g line second _ told is refl
  told_undo g (h ∷ earlier) is told = done_in mode h line second told (ap is_applied is)

  told_item : (s : State) (item : Item) → AnswersItem Quiet s item line → IsToldLine mode (applied_state s item).graph line second → AnswersItem mode s item second
  told_item s (One edit) is told =
      (edit_line mode s.graph edit second).1 (told_edit (reason_of s.graph edit) (after s.graph edit) ((edit_line Quiet s.graph edit line).0 is) told)
  told_item s (Group edits) is told = told_group 0 s.graph edits is told
  told_item s Undo is told = told_undo s.graph s.earlier is told

  -- the graph behind a step is that of the item
  told_here : (limit : ℕ) (g : PlainGraph) (items : List (List script.Edit)) (item : Item) (h : PlainGraph) (left : List (List script.Edit)) → ItemStep limit Quiet g items item line h left → IsToldLine mode h line second → IsToldLine mode (applied_state (state_of g items) item).graph line second
  told_here limit g items item h left step (inl told) = inl told
  told_here limit g items item h left step (inr told) =
      let same : h ≡ (applied_state (state_of g items) item).graph = ap (λ (s : State). s.graph) (step.state_is ∙ state_applied (state_of g items) item line told.0) in
      inr (told.0, told.1, subst (λ (k : PlainGraph). IsDoneLine mode k second) same told.2)

  told_answers : (limit : ℕ) (g : PlainGraph) (items was : List (List script.Edit)) (item : Item) (h : PlainGraph) (left : List (List script.Edit)) → items ≡ was → ItemStep limit Quiet g items item line h left → IsToldLine mode h line second →
      AnswersItem mode (state_of g was) item second
  told_answers limit g items was item h left same step told =
      let here = subst (λ (l : List (List script.Edit)). ItemStep limit Quiet g l item line h left) same step in
      told_item (state_of g was) item here.line_is (told_here limit g was item h left here told)

-- a line that tells that an item was refused is the same in each mode
pub refusal_answers : (mode : SessionMode) → KeepsCographs mode → (line : PlainLine) (limit : ℕ) (g : PlainGraph) (items was : List (List script.Edit)) (item : Item) (h : PlainGraph) (left : List (List script.Edit)) → items ≡ was → ItemStep limit Quiet g items item line h left →
    is_applied line ≡ false → AnswersItem mode (state_of g was) item line
refusal_answers mode kept line limit g items was item h left same step refuses = told_answers mode kept line line limit g items was item h left same step (inl (refuses, refl))

-- a line that tells that an item was applied has what the mode tells of the graph behind it
pub done_answers : (mode : SessionMode) → KeepsCographs mode → (line second : PlainLine) (limit : ℕ) (g : PlainGraph) (items was : List (List script.Edit)) (item : Item) (h : PlainGraph) (left : List (List script.Edit)) → items ≡ was → ItemStep limit Quiet g items item line h left →
    is_applied line ≡ true → IsDoneLine mode h second → is_applied second ≡ true → AnswersItem mode (state_of g was) item second
done_answers mode kept line second limit g items was item h left same step applied done tells = told_answers mode kept line second limit g items was item h left same step (inr (applied, tells, done))

-- the state behind an item goes by whether its line tells that it was applied
pub state_told : (line second : PlainLine) (limit : ℕ) (g : PlainGraph) (items was : List (List script.Edit)) (item : Item) (h : PlainGraph) (left : List (List script.Edit)) → items ≡ was → ItemStep limit Quiet g items item line h left → is_applied line ≡ is_applied second →
    state_of h left ≡ state_behind (state_of g was) item second
state_told line second limit g items was item h left same step alike =
    step.state_is ∙ ap (λ (l : List (List script.Edit)). state_behind (state_of g l) item line) same
    ∙ ap (λ (b : Bool). if b then applied_state (state_of g was) item else state_of g was) alike
