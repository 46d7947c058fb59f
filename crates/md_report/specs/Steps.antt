-- The state of a session with a history, and one step of it over an item.
-- Source: the undo lists of editors of texts, as in any textbook of data structures; the lines are this project's.
use Rattle.std.specs.Prelude.{◌≡◌, ℕ, false, List}
use Rattle.md_graph.specs.PlainGraph.{PlainGraph}
use Rattle.md_script.specs.declared.edit.Edit.{Edit}
use Rattle.md_script.specs.declared.item.Item.{Item}
use Rattle.md_script.specs.Histories.{graphs_before, HistoryFits}
use Rattle.md_report.specs.declared.line.SessionMode.{SessionMode}
use Rattle.md_report.specs.Lines.{PlainLine}
use Rattle.md_report.specs.Sessions.{State, is_applied, state_behind}
use Rattle.md_report.specs.ItemLines.{IsAllowed, AnswersItem}

-- the state of a session whose graph is g, with a history of these items
abbrev pub state_of : PlainGraph → List (List Edit) → State
state_of g items = record { graph = g; earlier = graphs_before g items }

-- one step of a session over an item, from the graph g and a history of these items to the graph h and the items that are left: the line
-- answers the item, the state is that behind it, the history fits the graph, and it stays where the item is refused
pub record ItemStep (limit : ℕ) (mode : SessionMode) (g : PlainGraph) (items : List (List Edit)) (item : Item) (line : PlainLine) (h : PlainGraph) (left : List (List Edit)) : Type 0 where
  pub line_is : AnswersItem mode (state_of g items) item line
  pub state_is : state_of h left ≡ state_behind (state_of g items) item line
  pub fits : HistoryFits limit (IsAllowed mode) h left
  pub kept : is_applied line ≡ false → left ≡ items
