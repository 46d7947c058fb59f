-- What comes of a line for an item of a session, and of the edits of a group.
-- Source: this project's own format of reports.
use Rattle.std.specs.Prelude.{◌≡◌, ℕ, Bool, true, false, List, ◌∷◌, length, slice_get, None, Some}
use Rattle.md_graph.specs.PlainGraph.{PlainGraph}
use Rattle.md_script.specs.declared.edit.Edit as script
use Rattle.md_script.specs.declared.item.Item.{Item}
use Rattle.md_script.specs.Edit.{reason_of, after}
use Rattle.md_script.specs.Pasts.{HasApplied}
use Rattle.md_report.specs.declared.line.SessionMode.{SessionMode}
use Rattle.md_report.specs.Lines.{PlainLine, line_text}
use Rattle.md_report.specs.ItemLines.{IsAllowed, AnswersItem}
use Rattle.md_report.specs.Steps.{state_of, ItemStep}
use Rattle.md_checker.specs.declared.item_answers.Tried.{Tried}
use Rattle.md_checker.specs.declared.item_answers.Tried.TheVariants as tried

-- a line was taken for an item at the graph g with a history of these items: that was a step to the graph h and what is left of the
-- history, and h may be a state; or it wasn't: the line doesn't answer the item, and both stay
abbrev pub IsJudged : Bool → ℕ → SessionMode → PlainGraph → List (List script.Edit) → Item → PlainLine → PlainGraph → List (List script.Edit) → Type 0
IsJudged true limit mode g items item line h left = ItemStep limit mode g items item line h left × IsAllowed mode h
IsJudged false limit mode g items item line h left = (AnswersItem mode (state_of g items) item line → ⊥) × ((h ≡ g) × (left ≡ items))

-- the same by a text: a line with this text was taken; or none was, and both stay
abbrev pub IsJudgedByText : Bool → ℕ → SessionMode → PlainGraph → List (List script.Edit) → Item → List ℕ → PlainGraph → List (List script.Edit) → Type 0
IsJudgedByText true limit mode g items item text h left = (line : PlainLine) × (text ≡ line_text line) × IsJudged true limit mode g items item line h left
IsJudgedByText false limit mode g items item text h left = (h ≡ g) × (left ≡ items)

-- the edits of a group were applied to g one after the other, up to the first that is refused at h, and the last item of the history
-- takes them back: all; or those before one against which a reason speaks; or before one after which no state may stand
abbrev pub IsTried : Tried → SessionMode → PlainGraph → List script.Edit → PlainGraph → List (List script.Edit) → List (List script.Edit) → Type 0
IsTried tried.All mode g edits h items others =
    (back : List script.Edit) × HasApplied (IsAllowed mode) g edits h back (length edits) × (items ≡ back ∷ others) × IsAllowed mode h
IsTried (tried.Refused n reason) mode g edits h items others =
    (back : List script.Edit) × (edit : script.Edit) × HasApplied (IsAllowed mode) g edits h back n × (items ≡ back ∷ others)
    × (slice_get edits n ≡ Some edit) × (reason_of h edit ≡ Some reason)
IsTried (tried.Barred n) mode g edits h items others =
    (back : List script.Edit) × (edit : script.Edit) × HasApplied (IsAllowed mode) g edits h back n × (items ≡ back ∷ others)
    × (slice_get edits n ≡ Some edit) × (reason_of h edit ≡ None) × (IsAllowed mode (after h edit) → ⊥)
