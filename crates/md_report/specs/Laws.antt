-- The laws of reports.
use Rattle.std.specs.Prelude.{◌≡◌, ◌↔◌, ◌⊎◌, ℕ, List, [], ◌∷◌, ◌++◌, map, ⊤}
use Rattle.std.specs.List.{All}
use Rattle.md_graph.specs.declared.TheConstants.{NAMES}
use Rattle.md_graph.specs.PlainGraph.{PlainGraph, IsGraph}
use Rattle.md_modules.specs.declared.induced_paths.P4.{P4}
use Rattle.md_script.specs.declared.item.Item.{Item}
use Rattle.md_script.specs.Items.{IsScriptItem}
use Rattle.md_report.specs.declared.line.GraphMode.{GraphMode}
use Rattle.md_report.specs.declared.line.GraphMode.TheVariants as graph_modes
use Rattle.md_report.specs.declared.line.SessionMode.{SessionMode}
use Rattle.md_report.specs.declared.line.SessionMode.TheVariants as session_modes
use Rattle.md_report.specs.declared.line.Mode.TheVariants as modes
use Rattle.md_report.specs.Lines.{PlainLine, mode_of, session_head, line_text, head, tree, not_cograph, end}
use Rattle.md_report.specs.Sessions.{State, first_state, HasTreeLine, last_state, states_behind, is_applied, count_applied, count_refused}
use Rattle.md_report.specs.Cographs.{IsP4Of, IsCograph}
use Rattle.md_report.specs.ItemLines.{Run}
use Rattle.md_report.specs.Places.{Place, before_head, at_graphs, before_session, at_state, at_items, at_end, after_end, Reports, ReportsState, items_behind, Lead}
use Rattle.md_report.specs.Reports.{IsReport, IsFront}

-- each of the list is a graph on names
abbrev pub AreGraphs : List PlainGraph → Type 0
AreGraphs [] = ⊤
AreGraphs (g ∷ graphs) = IsGraph g × AreGraphs graphs

-- the graphs of a place are graphs on names, and what is still to be answered there are items of scripts
abbrev pub IsSound : Place → Type 0
IsSound (before_head mode graphs) = AreGraphs graphs
IsSound (at_graphs mode graphs) = AreGraphs graphs
IsSound (before_session mode g items) = IsGraph g × All (IsScriptItem NAMES) items
IsSound (at_state mode g items) = IsGraph g × All (IsScriptItem NAMES) items
IsSound (at_items mode s items) = (IsGraph s.graph × AreGraphs s.earlier) × All (IsScriptItem NAMES) items
IsSound at_end = ⊤
IsSound after_end = ⊤

-- Lines lead somewhere exactly where they are the first lines of a whole report.
abbrev pub LinesLeadIfFirst : Type 0
LinesLeadIfFirst =
    (p : Place) → IsSound p → (lines : List PlainLine) →
    ((q : Place) × Lead p lines q) ↔ ((more : List PlainLine) × Lead p (lines ++ more) after_end)

-- one line for each graph, in their order
abbrev pub ReportEach : GraphMode → List PlainGraph → List PlainLine → Type 0
ReportEach mode [] lines = lines ≡ []
ReportEach mode (g ∷ graphs) [] = ⊥
ReportEach mode (g ∷ graphs) (line ∷ lines) = Reports mode g line × ReportEach mode graphs lines

-- A whole report over graphs: the head, one line for each graph, and the end.
pub record IsGraphReport (mode : GraphMode) (graphs : List PlainGraph) (lines : List PlainLine) : Type 0 where
  pub run : List PlainLine
  pub each : ReportEach mode graphs run
  pub whole : lines ≡ head (mode_of mode) ∷ (run ++ end ∷ [])

-- Lines lead from before the head of a report over graphs to the end exactly where they are such a report.
abbrev pub GraphReportsHaveLines : Type 0
GraphReportsHaveLines =
    (mode : GraphMode) (graphs : List PlainGraph) (lines : List PlainLine) →
    Lead (before_head mode graphs) lines after_end ↔ IsGraphReport mode graphs lines

-- A valid report of shortest forcing chains is one of transitive orientations.
abbrev pub ShortestReportsCompare : Type 0
ShortestReportsCompare =
    (graphs : List PlainGraph) (bytes : List ℕ) →
    IsReport (before_head graph_modes.Shortest graphs) bytes → IsReport (before_head graph_modes.Compare graphs) bytes

-- A whole report of a session over a script in mode edit or cograph, or on a class: the head, the line of the first state, the lines of the items
-- that are answered behind it, and the end.
pub record IsSessionReport (mode : SessionMode) (g : PlainGraph) (items : List Item) (lines : List PlainLine) : Type 0 where
  pub first : PlainLine
  pub run : List PlainLine
  pub state_line : ReportsState mode g first
  pub runs : Run mode (first_state g) (items_behind first items) run
  pub whole : lines ≡ session_head mode ∷ first ∷ (run ++ end ∷ [])

-- A whole report in mode quiet of a session on a graph with an induced P4: the head, the induced P4, and the end.
pub record IsStoppedReport (g : PlainGraph) (lines : List PlainLine) : Type 0 where
  pub p : P4
  pub path : IsP4Of g p
  pub whole : lines ≡ head modes.Quiet ∷ not_cograph p ∷ end ∷ []

-- A whole report in mode quiet of a session on a cograph over a script: the head, the lines of the items, the tree of the last
-- graph, and the end.
pub record IsQuietReport (g : PlainGraph) (items : List Item) (lines : List PlainLine) : Type 0 where
  pub run : List PlainLine
  pub last : PlainLine
  pub cograph : IsCograph g
  pub runs : Run session_modes.Quiet (first_state g) items run
  pub last_line : HasTreeLine tree (last_state (first_state g) items run).graph last
  pub whole : lines ≡ head modes.Quiet ∷ (run ++ last ∷ end ∷ [])

-- A whole report of a session over a script, by its mode.
abbrev pub IsWholeSession : SessionMode → PlainGraph → List Item → List PlainLine → Type 0
IsWholeSession session_modes.Edit g items lines = IsSessionReport session_modes.Edit g items lines
IsWholeSession session_modes.Cograph g items lines = IsSessionReport session_modes.Cograph g items lines
IsWholeSession session_modes.Quiet g items lines = IsStoppedReport g lines ⊎ IsQuietReport g items lines
IsWholeSession (session_modes.Of class) g items lines = IsSessionReport (session_modes.Of class) g items lines

-- Lines lead from before a session to the end exactly where they are such a report.
abbrev pub SessionReportsAreRuns : Type 0
SessionReportsAreRuns =
    (mode : SessionMode) (g : PlainGraph) (items : List Item) (lines : List PlainLine) →
    Lead (before_session mode g items) lines after_end ↔ IsWholeSession mode g items lines

-- Two runs over the same items apply the same of them, as many, and have the same state behind each.
pub record ApplyAlike (s : State) (items : List Item) (lines others : List PlainLine) : Type 0 where
  pub each : map is_applied lines ≡ map is_applied others
  pub done : count_applied lines ≡ count_applied others
  pub undone : count_refused lines ≡ count_refused others
  pub states : states_behind s items lines ≡ states_behind s items others
  pub last : last_state s items lines ≡ last_state s items others

-- the mode is one of sessions on cographs
abbrev pub KeepsCographs : SessionMode → Type 0
KeepsCographs session_modes.Edit = ⊥
KeepsCographs session_modes.Cograph = ⊤
KeepsCographs session_modes.Quiet = ⊤
KeepsCographs (session_modes.Of class) = ⊥

-- Two runs of sessions on cographs, each in mode cograph or quiet, do so.
abbrev pub CographRunsApplyAlike : Type 0
CographRunsApplyAlike =
    (mode other : SessionMode) → KeepsCographs mode → KeepsCographs other →
    (s : State) (items : List Item) (lines others : List PlainLine) →
    Run mode s items lines → Run other s items others → ApplyAlike s items lines others

-- Bytes are the front of a report by places exactly where a whole report begins with them.
abbrev pub FrontsBeginReports : Type 0
FrontsBeginReports =
    (p : Place) → IsSound p → (bytes : List ℕ) →
    IsFront p bytes ↔ ((rest : List ℕ) × IsReport p (bytes ++ rest))

-- Each text is of one line at most.
abbrev pub OneLineOneText : Type 0
OneLineOneText = (k l : PlainLine) → line_text k ≡ line_text l → k ≡ l
