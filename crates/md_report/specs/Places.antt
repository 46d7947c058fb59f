-- The places of a report: which line is due, and what is still to be reported.
-- Source: this project's own format of reports.
use Rattle.std.specs.Prelude.{◌≡◌, ◌⊎◌, Bool, true, false, List, [], ◌∷◌, if◌then◌else◌}
use Rattle.md_graph.specs.PlainGraph.{PlainGraph, adjacent}
use Rattle.md_script.specs.declared.item.Item.{Item}
use Rattle.md_report.specs.declared.line.GraphMode.{GraphMode}
use Rattle.md_report.specs.declared.line.GraphMode.TheVariants.{Tree, Compare, Shortest, Permute}
use Rattle.md_report.specs.declared.line.SessionMode.{SessionMode}
use Rattle.md_report.specs.declared.line.SessionMode.TheVariants.{Edit, Cograph, Quiet, Of}
use Rattle.md_report.specs.Lines.{PlainLine, mode_of, session_head, head, tree, barred, not_cograph, end}
use Rattle.md_report.specs.Orientations.{IsOrientationLine, IsShortestLine}
use Rattle.md_report.specs.Models.{IsModelLine}
use Rattle.md_report.specs.Sessions.{State, first_state, HasTreeLine, state_behind}
use Rattle.md_report.specs.Cographs.{IsCograph, HasP4Line, IsOpeningLine}
use Rattle.md_report.specs.Classes.{IsClassOpening}
use Rattle.md_report.specs.ItemLines.{AnswersItem}
use Rattle.md_report.specs.Protocols.{LeadBy}

-- Before the head of a report over graphs, and at the graphs that are still to be reported, one line each; before the head
-- of a session, at its first state, and at a state with the items that are still to be answered, one line each; and before and after
-- the end.
pub data Place : Type 0 where
  before_head : GraphMode → List PlainGraph → Place
  at_graphs : GraphMode → List PlainGraph → Place
  before_session : SessionMode → PlainGraph → List Item → Place
  at_state : SessionMode → PlainGraph → List Item → Place
  at_items : SessionMode → State → List Item → Place
  at_end : Place
  after_end : Place

-- the line that reports one graph: in mode tree its tree of strong modules, in mode compare its least-edge orientation
-- or a forcing chain of it, in mode shortest the same with a shortest chain, in mode permute two orders that realise it or a
-- forcing chain of it or of its complement
abbrev pub Reports : GraphMode → PlainGraph → PlainLine → Type 0
Reports Tree g line = HasTreeLine tree g line
Reports Compare g line = IsOrientationLine (adjacent g) line
Reports Shortest g line = IsShortestLine (adjacent g) line
Reports Permute g line = IsModelLine g line

-- the line that reports the first state of a session: in mode edit its tree of strong modules, in mode cograph that tree or an
-- induced P4, in mode quiet an induced P4, on a class that tree or a bar
abbrev pub ReportsState : SessionMode → PlainGraph → PlainLine → Type 0
ReportsState Edit g line = HasTreeLine tree g line
ReportsState Cograph g line = IsOpeningLine g line
ReportsState Quiet g line = HasP4Line not_cograph g line
ReportsState (Of class) g line = IsClassOpening class g line

-- the line behind the answers to all items, where g is the last graph: in mode quiet the tree of g, in the others the end
abbrev pub ClosesItems : SessionMode → PlainGraph → PlainLine → Type 0
ClosesItems Edit g line = line ≡ end
ClosesItems Cograph g line = line ≡ end
ClosesItems Quiet g line = HasTreeLine tree g line
ClosesItems (Of class) g line = line ≡ end

-- the place behind that line
abbrev pub closed_place : SessionMode → Place
closed_place Edit = after_end
closed_place Cograph = after_end
closed_place Quiet = at_end
closed_place (Of class) = after_end

-- the line may come at a state where these items are still to be answered
abbrev pub ComesAtItems : SessionMode → State → List Item → PlainLine → Type 0
ComesAtItems mode s (item ∷ items) line = AnswersItem mode s item line
ComesAtItems mode s [] line = ClosesItems mode s.graph line

-- the place behind that line
abbrev pub place_behind : SessionMode → State → List Item → PlainLine → Place
place_behind mode s (item ∷ items) line = at_items mode (state_behind s item line) items
place_behind mode s [] line = closed_place mode

-- whether the line tells of a bar of the first state
abbrev pub tells_bar : PlainLine → Bool
tells_bar (barred bar) = true
tells_bar _ = false

-- what is still to be answered behind the line of the first state: nothing where that has a bar
abbrev pub items_behind : PlainLine → List Item → List Item
items_behind line items = if tells_bar line then [] else items

-- the line may come behind the head of a session: it reports the first state; in mode quiet a cograph has no such line, and the
-- line is the first one that may come at the items
abbrev pub OpensSession : SessionMode → PlainGraph → List Item → PlainLine → Type 0
OpensSession Edit g items line = ReportsState Edit g line
OpensSession Cograph g items line = ReportsState Cograph g line
OpensSession Quiet g items line = ReportsState Quiet g line ⊎ (IsCograph g × ComesAtItems Quiet (first_state g) items line)
OpensSession (Of class) g items line = ReportsState (Of class) g line

-- the place behind the first line of a session in mode quiet: before the end where the line tells of a bar
abbrev pub quiet_place : PlainGraph → List Item → PlainLine → Place
quiet_place g items line = if tells_bar line then at_end else place_behind Quiet (first_state g) items line

-- the place behind the line that came behind the head of a session
abbrev pub opened_place : SessionMode → PlainGraph → List Item → PlainLine → Place
opened_place Edit g items line = at_items Edit (first_state g) (items_behind line items)
opened_place Cograph g items line = at_items Cograph (first_state g) (items_behind line items)
opened_place Quiet g items line = quiet_place g items line
opened_place (Of class) g items line = at_items (Of class) (first_state g) (items_behind line items)

-- the line may come at the place
abbrev pub MayCome : Place → PlainLine → Type 0
MayCome (before_head mode graphs) line = line ≡ head (mode_of mode)
MayCome (at_graphs mode (g ∷ graphs)) line = Reports mode g line
MayCome (at_graphs mode []) line = line ≡ end
MayCome (before_session mode g items) line = line ≡ session_head mode
MayCome (at_state mode g items) line = OpensSession mode g items line
MayCome (at_items mode s items) line = ComesAtItems mode s items line
MayCome at_end line = line ≡ end
MayCome after_end line = ⊥

-- the place behind a line that came at a place
abbrev pub next_place : Place → PlainLine → Place
next_place (before_head mode graphs) line = at_graphs mode graphs
next_place (at_graphs mode (g ∷ graphs)) line = at_graphs mode graphs
next_place (at_graphs mode []) line = after_end
next_place (before_session mode g items) line = at_state mode g items
next_place (at_state mode g items) line = opened_place mode g items line
next_place (at_items mode s items) line = place_behind mode s items line
next_place at_end line = after_end
next_place after_end line = after_end

-- the lines lead from one place to another: each may come where those before it lead
abbrev pub Lead : Place → List PlainLine → Place → Type 0
Lead p lines q = LeadBy MayCome next_place p lines q
