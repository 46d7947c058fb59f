-- The lines that answer items: what a mode of sessions allows, bars and tells, and the run of a session over a script.
-- Source: this project's own format of reports.
use Rattle.std.specs.Prelude.{◌≡◌, ℕ, ◌+◌, ◌⊎◌, List, [], ◌∷◌, Option, Some, None, ⊤}
use Rattle.md_graph.specs.PlainGraph.{PlainGraph}
use Rattle.md_bar_tree.specs.declared.Bar.{Bar}
use Rattle.md_script.specs.declared.edit.Edit as script
use Rattle.md_script.specs.declared.edit.EditReason.{EditReason}
use Rattle.md_script.specs.declared.item.Item.{Item}
use Rattle.md_script.specs.declared.item.Item.TheVariants.{One, Undo, Group}
use Rattle.md_script.specs.Edit.{reason_of, after}
use Rattle.md_report.specs.declared.line.SessionMode.{SessionMode}
use Rattle.md_report.specs.declared.line.SessionMode.TheVariants.{Edit, Cograph, Quiet, Of}
use Rattle.md_report.specs.Lines.{PlainLine, applied, applied_quiet, group_refused, group_refused_bar, nothing_to_undo}
use Rattle.md_report.specs.Sessions.{State, HasTreeLine, IsStepLine, state_behind}
use Rattle.md_report.specs.Cographs.{IsP4Bar, IsCograph, IsCographLine, IsQuietLine}
use Rattle.md_report.specs.Classes.{IsAllowedIn, IsBarOf, IsClassLineBy}

-- g may be a state of a session of the mode
abbrev pub IsAllowed : SessionMode → PlainGraph → Type 0
IsAllowed Edit g = ⊤
IsAllowed Cograph g = IsCograph g
IsAllowed Quiet g = IsCograph g
IsAllowed (Of class) g = IsAllowedIn class g

-- g may not, since it has this bar
abbrev pub IsBarred : SessionMode → PlainGraph → Bar → Type 0
IsBarred Edit g bar = ⊥
IsBarred Cograph g bar = IsP4Bar g bar
IsBarred Quiet g bar = IsP4Bar g bar
IsBarred (Of class) g bar = IsBarOf class g bar

-- the line of an item that was applied and left the graph g: that alone in mode quiet, in the others with the tree of g
abbrev pub IsDoneLine : SessionMode → PlainGraph → PlainLine → Type 0
IsDoneLine Edit g line = HasTreeLine applied g line
IsDoneLine Cograph g line = HasTreeLine applied g line
IsDoneLine Quiet g line = line ≡ applied_quiet
IsDoneLine (Of class) g line = HasTreeLine applied g line

-- the line that answers an edit at g
abbrev pub AnswersEdit : SessionMode → PlainGraph → script.Edit → PlainLine → Type 0
AnswersEdit Edit g edit line = IsStepLine g edit line
AnswersEdit Cograph g edit line = IsCographLine g edit line
AnswersEdit Quiet g edit line = IsQuietLine g edit line
AnswersEdit (Of class) g edit line = IsClassLineBy (reason_of g edit) class (after g edit) line

-- the line of a group at its edit with this number, by the reason against it: the reason; or a bar of the graph h after the edit;
-- or what the edits behind it make, where h may be a state
abbrev pub IsLineAt : Option EditReason → SessionMode → ℕ → PlainGraph → Type 0 → PlainLine → Type 0
IsLineAt (Some reason) mode number h Behind line = line ≡ group_refused number reason
IsLineAt None mode number h Behind line =
    ((bar : Bar) × IsBarred mode h bar × (line ≡ group_refused_bar number bar)) ⊎ (IsAllowed mode h × Behind)

-- the line of a group of which n edits were applied, and gave g, and these are left
abbrev pub IsGroupLine : SessionMode → ℕ → PlainGraph → List script.Edit → PlainLine → Type 0
IsGroupLine mode n g [] line = IsDoneLine mode g line
IsGroupLine mode n g (edit ∷ edits) line =
    IsLineAt (reason_of g edit) mode (n + 1) (after g edit) (IsGroupLine mode (n + 1) (after g edit) edits line) line

-- the line of an undo, by the earlier graphs
abbrev pub IsUndoLine : SessionMode → List PlainGraph → PlainLine → Type 0
IsUndoLine mode [] line = line ≡ nothing_to_undo
IsUndoLine mode (g ∷ earlier) line = IsDoneLine mode g line

-- the line that answers an item at a state
abbrev pub AnswersItem : SessionMode → State → Item → PlainLine → Type 0
AnswersItem mode s (One edit) line = AnswersEdit mode s.graph edit line
AnswersItem mode s (Group edits) line = IsGroupLine mode 0 s.graph edits line
AnswersItem mode s Undo line = IsUndoLine mode s.earlier line

-- the run of a session over a script: one line for each item, each at the state that those before it leave
abbrev pub Run : SessionMode → State → List Item → List PlainLine → Type 0
Run mode s [] lines = lines ≡ []
Run mode s (item ∷ items) [] = ⊥
Run mode s (item ∷ items) (line ∷ lines) = AnswersItem mode s item line × Run mode (state_behind s item line) items lines
