-- Steps of a session over an item.
use Rattle.std.proofs.Common.{◌≡◌, ℕ, true, false, List, [], ◌∷◌, length, refl, sym, ◌∙◌, ap, ap₂, subst, arith}
use Rattle.std.proofs.lemmas.List.{take_all}
use Rattle.md_graph.specs.PlainGraph.{PlainGraph}
use Rattle.md_script.specs.declared.edit.Edit as script
use Rattle.md_script.specs.declared.item.Item.{Item}
use Rattle.md_script.specs.declared.item.Item.TheVariants.{Undo}
use Rattle.md_script.specs.Pasts.{taken_back, all_after, MayBack, HasApplied}
use Rattle.md_script.specs.Histories.{graphs_before, HistoryFits}
use Rattle.md_script.proofs.GroupLemmas.{GoesBack}
use Rattle.md_report.specs.declared.line.SessionMode.{SessionMode}
use Rattle.md_report.specs.Lines.{PlainLine}
use Rattle.md_report.specs.Sessions.{applied_state, led_to, is_applied}
use Rattle.md_report.specs.ItemLines.{IsAllowed, IsDoneLine, AnswersItem}
use Rattle.md_report.proofs.ItemLines.{state_applied, state_refused}
use Rattle.md_report.specs.Steps.{state_of, ItemStep}

module _ (limit : ℕ) (mode : SessionMode) (g : PlainGraph) (items : List (List script.Edit)) (item : Item) (line : PlainLine) (h : PlainGraph) (left : List (List script.Edit)) where
  -- an item that is refused leaves all as it was
  pub refused_step : AnswersItem mode (state_of g items) item line → is_applied line ≡ false → h ≡ g → left ≡ items → HistoryFits limit (IsAllowed mode) g items → ItemStep limit mode g items item line h left
  refused_step told refused same kept fits = record {
    line_is = told;
    state_is = ap₂ state_of same kept ∙ sym (state_refused (state_of g items) item line refused);
    fits = subst (λ (k : PlainGraph). HistoryFits limit (IsAllowed mode) k left) (sym same) (subst (HistoryFits limit (IsAllowed mode) g) (sym kept) fits);
    kept = λ is. kept;
  }

  -- an item that is applied, and is taken back by some edits
  pub led_step : (back : List script.Edit) → AnswersItem mode (state_of g items) item line → is_applied line ≡ true → applied_state (state_of g items) item ≡ led_to (state_of g items) h → GoesBack limit (IsAllowed mode) g h back → left ≡ back ∷ items
      → HistoryFits limit (IsAllowed mode) g items → ItemStep limit mode g items item line h left
  led_step back told done leads goes is fits = record {
    line_is = told;
    state_is =
        ap (state_of h) is
        ∙ ap (λ (k : PlainGraph). record { graph = h; earlier = k ∷ graphs_before k items }) goes.leads
        ∙ sym leads
        ∙ sym (state_applied (state_of g items) item line done);
    fits = subst (HistoryFits limit (IsAllowed mode) h) (sym is) (goes.may, subst (λ (k : PlainGraph). HistoryFits limit (IsAllowed mode) k items) (sym goes.leads) fits);
    kept = λ refused. absurd (let e = sym done ∙ refused in cc);
  }

-- the last item is taken back
pub undone_step : (limit : ℕ) (mode : SessionMode) (g : PlainGraph) (items : List (List script.Edit)) (last : List script.Edit) (others : List (List script.Edit)) (line : PlainLine) (h : PlainGraph) (left : List (List script.Edit))
    → items ≡ last ∷ others → IsDoneLine mode (taken_back g last) line → is_applied line ≡ true → h ≡ taken_back g last → left ≡ others → HistoryFits limit (IsAllowed mode) g items → ItemStep limit mode g items Undo line h left
undone_step limit mode g items last others line h left is told done next kept fits =
    let all : HistoryFits limit (IsAllowed mode) g (last ∷ others) = subst (HistoryFits limit (IsAllowed mode) g) is fits in
    subst (λ l. ItemStep limit mode g l Undo line h left) (sym is) (record {
      line_is = told;
      state_is = ap₂ state_of next kept ∙ sym (state_applied (state_of g (last ∷ others)) Undo line done);
      fits = subst (λ (k : PlainGraph). HistoryFits limit (IsAllowed mode) k left) (sym next) (subst (HistoryFits limit (IsAllowed mode) (taken_back g last)) (sym kept) all.1);
      kept = λ refused. absurd (let e = sym done ∙ refused in cc);
    })

-- the last item, where there is one
pub last_item : (limit : ℕ) (Kept : PlainGraph → Type 0) (g : PlainGraph) (items : List (List script.Edit)) (n : ℕ) → n ≡ length items → (n ≡ 0 → ⊥) → HistoryFits limit Kept g items
    → (last : List script.Edit) × (others : List (List script.Edit)) × (items ≡ last ∷ others) × MayBack limit Kept g last
last_item limit Kept g [] n is some fits = absurd (some is)
last_item limit Kept g (last ∷ others) n is some fits = (last, others, refl, fits.0)

-- the graph behind all edits of a group
pub all_graph : (Kept : PlainGraph → Type 0) (g h : PlainGraph) (edits back : List script.Edit) → HasApplied Kept g edits h back (length edits) → h ≡ all_after g edits
all_graph Kept g h edits back so = so.graph_is ∙ ap (all_after g) (take_all (length edits) edits (omega arith))
