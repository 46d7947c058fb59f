-- The place of a report at which a checker stands, by what it keeps.
-- Source: this project's own format of reports.
use Rattle.std.specs.Prelude.{◌≡◌, ◌⊎◌, ◌≤◌, ℕ, Bool, true, false, List, [], length, drop}
use Rattle.md_graph.specs.PlainGraph.{PlainGraph}
use Rattle.md_script.specs.declared.edit.Edit as script
use Rattle.md_script.specs.declared.item.Item.{Item}
use Rattle.md_script.specs.Histories.{HistoryFits}
use Rattle.md_report.specs.declared.line.GraphMode.{GraphMode}
use Rattle.md_report.specs.declared.line.SessionMode.{SessionMode}
use Rattle.md_report.specs.declared.line.SessionMode.TheVariants.{Quiet}
use Rattle.md_report.specs.Lines.{PlainLine, line_text}
use Rattle.md_report.specs.Sessions.{State}
use Rattle.md_report.specs.ItemLines.{IsAllowed}
use Rattle.md_report.specs.Places.{Place, before_head, at_graphs, before_session, at_state, at_items, at_end, after_end, MayCome, next_place}
use Rattle.md_report.specs.Steps.{state_of}
use Rattle.md_checker.specs.declared.graph_checker.GraphDue.{GraphDue}
use Rattle.md_checker.specs.declared.graph_checker.GraphDue.TheVariants as graph_due
use Rattle.md_checker.specs.declared.session_checker.SessionDue.{SessionDue}
use Rattle.md_checker.specs.declared.session_checker.SessionDue.TheVariants as session_due
use Rattle.md_checker.specs.declared.session_checker.DueTree.{DueTree}
use Rattle.md_checker.specs.declared.session_checker.DueTree.TheVariants as due_tree
use Rattle.md_checker.specs.declared.session_checker.Step.{Step}

-- the place of a report over graphs at which this line is due
abbrev pub graph_place : GraphDue → GraphMode → List PlainGraph → Place
graph_place graph_due.Head mode graphs = before_head mode graphs
graph_place graph_due.Graphs mode graphs = at_graphs mode graphs
graph_place graph_due.Nothing mode graphs = after_end

-- the place of a report of a session at which this line is due
abbrev pub session_place : SessionDue → SessionMode → State → List Item → Place
session_place session_due.Head mode s items = before_session mode s.graph items
session_place session_due.State mode s items = at_state mode s.graph items
session_place session_due.Items mode s items = at_items mode s items
session_place session_due.End mode s items = at_end
session_place session_due.Nothing mode s items = after_end

-- a session is checked whose graph is g, with a history of these items and others that are left to be answered: before the items none is in
-- the history; at them the history fits, and where one is left the graph may be a state
pub record IsStanding (limit : ℕ) (due : SessionDue) (mode : SessionMode) (g : PlainGraph) (items : List (List script.Edit)) (left : List Item) : Type 0 where
  pub head : due ≡ session_due.Head → items ≡ []
  pub state : due ≡ session_due.State → items ≡ []
  pub fits : due ≡ session_due.Items → HistoryFits limit (IsAllowed mode) g items
  pub allowed : due ≡ session_due.Items → (left ≡ [] → ⊥) → IsAllowed mode g

-- the line that is due may tell the tree of this state; `left` tells whether an item is left
abbrev pub MayTell : DueTree → SessionDue → SessionMode → Bool → Type 0
MayTell due_tree.First due mode left = (due ≡ session_due.State) × (mode ≡ Quiet → ⊥)
MayTell due_tree.Answered due mode left = (due ≡ session_due.Items) × (mode ≡ Quiet → ⊥) × (left ≡ true)
MayTell due_tree.Last due mode left =
    ((due ≡ session_due.State) ⊎ (due ≡ session_due.Items)) × (mode ≡ Quiet) × (left ≡ false)

-- a line with this text may come at the place p, and leads to q
abbrev pub Takes : Place → List ℕ → Place → Type 0
Takes p text q = (line : PlainLine) × MayCome p line × (text ≡ line_text line) × (q ≡ next_place p line)

-- the line may come at the place, and leads to the one that the step tells, where the graph is g, with a history of these items
pub record IsStep (limit : ℕ) (p : Place) (line : PlainLine) (s : Step) (mode : SessionMode) (g : PlainGraph) (items : List (List script.Edit)) (all : List Item) : Type 0 where
  pub may : MayCome p line
  pub next : session_place s.due mode (state_of g items) (drop s.answered all) ≡ next_place p line
  pub within : s.answered ≤ length all
  pub standing : IsStanding limit s.due mode g items (drop s.answered all)
