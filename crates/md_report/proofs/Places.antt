-- Lines that lead from place to place, and on to the end.
use Rattle.std.proofs.Common.{◌≡◌, Bool, true, false, cond, List, [], ◌∷◌, ◌++◌, refl, sym, ◌∙◌, ap, ap₂, subst, inl, inr}
use Rattle.std.specs.List.{All}
use Rattle.std.proofs.lemmas.List.Elements.{All-nil, All-head, All-tail}
use Rattle.md_graph.specs.declared.TheConstants.{NAMES}
use Rattle.md_graph.specs.PlainGraph.{PlainGraph, IsGraph, adjacent}
use Rattle.md_forcing.specs.declared.arc_set.Side.TheVariants.{Edges, NonEdges}
use Rattle.md_forcing.specs.Sides.{adjacent_on}
use Rattle.md_comparability.specs.Laws.{MeetsPremises, HasTwoSides, HasChainOrOrientation}
use Rattle.md_comparability.proofs.Reached.{side_premises, sides_proof}
use Rattle.md_comparability.proofs.Alternative.{alternative_proof}
use Rattle.md_comparability.proofs.OneList.{one_list_proof}
use Rattle.md_comparability.proofs.Shortest.{shortest_proof}
use Rattle.md_comparability.specs.Chains.{IsShortestChain}
use Rattle.md_comparability.proofs.OrderLaws.{orders_proof}
use Rattle.md_bar_tree.specs.declared.Class.{Class}
use Rattle.md_script.specs.declared.item.Item.{Item}
use Rattle.md_script.specs.Items.{IsScriptItem}
use Rattle.md_report.specs.declared.line.GraphMode.{GraphMode}
use Rattle.md_report.specs.declared.line.GraphMode.TheVariants.{Tree, Compare, Shortest, Permute}
use Rattle.md_report.specs.declared.line.SessionMode.{SessionMode}
use Rattle.md_report.specs.declared.line.SessionMode.TheVariants.{Edit, Cograph, Quiet, Of}
use Rattle.md_report.specs.Lines.{PlainLine, mode_of, session_head, head, tree, barred, not_cograph, oriented, forced, orders, forced_in, forced_in_complement, end}
use Rattle.md_report.specs.Orientations.{IsOrientationLine, IsShortestLine}
use Rattle.md_report.specs.Models.{IsModelLine}
use Rattle.md_report.specs.Sessions.{State, first_state, HasTreeLine, state_behind, last_state}
use Rattle.md_report.specs.Cographs.{IsCograph, HasP4Line, IsOpeningLine}
use Rattle.md_report.specs.Classes.{IsClassOpening}
use Rattle.md_report.specs.ItemLines.{AnswersItem, Run}
use Rattle.md_report.specs.Places.{Place, before_head, at_graphs, before_session, at_state, at_items, at_end, after_end, Reports, ReportsState, ComesAtItems, place_behind, tells_bar, items_behind, quiet_place, MayCome, next_place, Lead}
use Rattle.md_report.specs.Laws.{AreGraphs, IsSound, LinesLeadIfFirst, ReportEach, IsGraphReport, GraphReportsHaveLines, ShortestReportsCompare, IsSessionReport, IsWholeSession, SessionReportsAreRuns}
use Rattle.md_report.specs.Protocols.{CanEnd}
use Rattle.md_report.proofs.Protocols.{lines_lead_by}
use Rattle.md_report.proofs.ItemLines.{HasGraphs, item_tells, state_graphs, tree_line, some_p4, some_bar, item_line}

-- the place behind the first line in mode quiet, by that line
pub stopped_place : (g : PlainGraph) (items : List Item) (line : PlainLine) → HasP4Line not_cograph g line → quiet_place g items line ≡ at_end
stopped_place g items line path = ap (quiet_place g items) path.2

untold : (s : State) (items : List Item) (line : PlainLine) → ComesAtItems Quiet s items line → tells_bar line ≡ false
untold s [] line last = ap tells_bar last.2
untold s (item ∷ items) line is = (item_tells Quiet s item line is).plain

pub first_place : (g : PlainGraph) (items : List Item) (line : PlainLine) → ComesAtItems Quiet (first_state g) items line → quiet_place g items line ≡ place_behind Quiet (first_state g) items line
first_place g items line is = ap (λ (b : Bool). cond b at_end (place_behind Quiet (first_state g) items line)) (untold (first_state g) items line is)

items_sound : (b : Bool) (items : List Item) → All (IsScriptItem NAMES) items → All (IsScriptItem NAMES) (cond b [] items)
items_sound true items are = All-nil (IsScriptItem NAMES)
items_sound false items are = are

-- the place behind the items, or behind the line of the first one, is sound
behind_sound : (mode : SessionMode) (s : State) (items : List Item) (line : PlainLine) → IsSound (at_items mode s items) → ComesAtItems mode s items line → IsSound (place_behind mode s items line)
behind_sound Edit s [] line sound may = tt
behind_sound Cograph s [] line sound may = tt
behind_sound Quiet s [] line sound may = tt
behind_sound (Of class) s [] line sound may = tt
behind_sound mode s (item ∷ items) line sound may =
    (state_graphs mode s item line sound.0 (All-head (IsScriptItem NAMES) item items sound.1).names may, All-tail (IsScriptItem NAMES) item items sound.1)

-- the place behind a sound one is sound
next_sound : (p : Place) (line : PlainLine) → IsSound p → MayCome p line → IsSound (next_place p line)
next_sound (before_head mode graphs) line sound may = sound
next_sound (at_graphs mode []) line sound may = tt
next_sound (at_graphs mode (g ∷ graphs)) line sound may = sound.1
next_sound (before_session mode g items) line sound may = sound
next_sound (at_state Edit g items) line sound may = ((sound.0, tt), items_sound (tells_bar line) items sound.1)
next_sound (at_state Cograph g items) line sound may = ((sound.0, tt), items_sound (tells_bar line) items sound.1)
next_sound (at_state (Of class) g items) line sound may = ((sound.0, tt), items_sound (tells_bar line) items sound.1)
next_sound (at_state Quiet g items) line sound (inl path) = subst IsSound (sym (stopped_place g items line path)) tt
next_sound (at_state Quiet g items) line sound (inr first) = subst IsSound (sym (first_place g items line first.1)) (behind_sound Quiet (first_state g) items line ((sound.0, tt), sound.1) first.1)
next_sound (at_items mode s items) line sound may = behind_sound mode s items line sound may
next_sound at_end line sound may = tt
next_sound after_end line sound may = tt

pub lead_sound : (p q : Place) (lines : List PlainLine) → IsSound p → Lead p lines q → IsSound q
lead_sound p q [] sound leads = subst IsSound leads sound
lead_sound p q (line ∷ lines) sound leads = lead_sound (next_place p line) q lines (next_sound p line sound leads.0) leads.1

-- each graph has a line with its least-edge orientation, or with a forcing chain
orientation_line : (g : PlainGraph) → IsGraph g → (line : PlainLine) × IsOrientationLine (adjacent g) line
orientation_line g is =
    let side : MeetsPremises (adjacent g) = side_premises is Edges in
    elim ((alternative_proof (adjacent g) side.adjacency NAMES side.below).one) [
      | inl chain ↦ (forced chain.0, chain.1)
      | inr has ↦
          let list = (one_list_proof (adjacent g) side.adjacency NAMES side.below).some in
          (oriented list.0, (has, list.1))
    ]

-- each graph has a line with its least-edge orientation, or with a shortest forcing chain
shortest_line : (g : PlainGraph) → IsGraph g → (line : PlainLine) × IsShortestLine (adjacent g) line
shortest_line g is =
    let side : MeetsPremises (adjacent g) = side_premises is Edges in
    elim ((alternative_proof (adjacent g) side.adjacency NAMES side.below).one) [
      | inl chain ↦
          let short = shortest_proof (adjacent g) side.adjacency NAMES side.below chain in (
            forced short.0,
            record { is = short.1.chain; shortest = λ other same. subst (IsShortestChain (adjacent g)) (let e : short.0 ≡ other = cc in e) short.1 },
          )
      | inr has ↦
          let list = (one_list_proof (adjacent g) side.adjacency NAMES side.below).some in
          (oriented list.0, record { is = (has, list.1); shortest = λ other same. cc })
    ]

-- each graph has a line with two orders that realise it, or with a forcing chain of it or of its complement
model_line : (g : PlainGraph) → IsGraph g → (line : PlainLine) × IsModelLine g line
model_line g is =
    let two : HasTwoSides g = sides_proof g is in
    let near : MeetsPremises (adjacent g) = two.side Edges in
    let apart : MeetsPremises (adjacent_on NonEdges g) = two.side NonEdges in
    let edges : HasChainOrOrientation (adjacent g) = alternative_proof (adjacent g) near.adjacency NAMES near.below in
    let others : HasChainOrOrientation (adjacent_on NonEdges g) = alternative_proof (adjacent_on NonEdges g) apart.adjacency NAMES apart.below in
    elim edges.one [
      | inl chain ↦ (forced_in chain.0, chain.1)
      | inr has ↦
          elim others.one [
            | inl chain ↦ (forced_in_complement chain.0, ((λ c. edges.not_both c has), chain.1))
            | inr other_has ↦
                let o = orders_proof (adjacent g) (adjacent_on NonEdges g) has.0 other_has.0 g.vertices near.adjacency apart.adjacency two.complement has.1 other_has.1 in
                (orders o.0 o.1, o.2)
          ]
    ]

some_line : (mode : GraphMode) (g : PlainGraph) → IsGraph g → (line : PlainLine) × Reports mode g line
some_line Tree g is = tree_line tree g is
some_line Compare g is = orientation_line g is
some_line Shortest g is = shortest_line g is
some_line Permute g is = model_line g is

-- each graph has a line that opens a session on cographs
opening_line : (g : PlainGraph) → IsGraph g → (line : PlainLine) × IsOpeningLine g line
opening_line g is =
    elim (some_p4 g is) [
      | inl path ↦ (not_cograph path.0, inl (path.0, path.1, refl))
      | inr none ↦ let line = tree_line tree g is in (line.0, inr (none, line.1))
    ]

-- each graph has a line that opens a session on a class
class_opening : (class : Class) (g : PlainGraph) → IsGraph g → (line : PlainLine) × IsClassOpening class g line
class_opening class g is =
    elim (some_bar class g is) [
      | inl bar ↦ (barred bar.0, inl (bar.0, bar.1, refl))
      | inr none ↦ let line = tree_line tree g is in (line.0, inr (none, line.1))
    ]

-- lines lead from graphs to the end
reported : (mode : GraphMode) (graphs : List PlainGraph) → AreGraphs graphs → (lines : List PlainLine) × Lead (at_graphs mode graphs) lines after_end
reported mode [] sound = (end ∷ [], (refl, refl))
reported mode (g ∷ graphs) sound =
    let line : (line : PlainLine) × Reports mode g line = some_line mode g sound.0 in
    let rest : (lines : List PlainLine) × Lead (at_graphs mode graphs) lines after_end = reported mode graphs sound.1 in
    (line.0 ∷ rest.0, (line.1, rest.1))

-- lines lead from items to the end
closed : (mode : SessionMode) (s : State) → HasGraphs s → (lines : List PlainLine) × Lead (at_items mode s []) lines after_end
closed Edit s has = (end ∷ [], (refl, refl))
closed Cograph s has = (end ∷ [], (refl, refl))
closed (Of class) s has = (end ∷ [], (refl, refl))
closed Quiet s has = let line = tree_line tree s.graph has.0 in (line.0 ∷ end ∷ [], (line.1, (refl, refl)))

answered : (mode : SessionMode) (items : List Item) (s : State) → HasGraphs s → All (IsScriptItem NAMES) items → (lines : List PlainLine) × Lead (at_items mode s items) lines after_end
answered mode [] s has are = closed mode s has
answered mode (item ∷ items) s has are =
    let is : IsScriptItem NAMES item = All-head (IsScriptItem NAMES) item items are in
    let line : (line : PlainLine) × AnswersItem mode s item line = item_line mode s item has is.names in
    let rest : (lines : List PlainLine) × Lead (at_items mode (state_behind s item line.0) items) lines after_end =
    answered mode items (state_behind s item line.0) (state_graphs mode s item line.0 has is.names line.1) (All-tail (IsScriptItem NAMES) item items are) in
    (line.0 ∷ rest.0, (line.1, rest.1))

-- lines that lead on from the items lead on from the first state of a cograph in mode quiet
pub from_cograph : (g : PlainGraph) (items : List Item) (lines : List PlainLine) → IsCograph g → Lead (at_items Quiet (first_state g) items) lines after_end → Lead (at_state Quiet g items) lines after_end
from_cograph g items [] none leads = absurd (cc)
from_cograph g items (line ∷ lines) none leads =
    (inr (none, leads.0), subst (λ (p : Place). Lead p lines after_end) (sym (first_place g items line leads.0)) leads.1)

from_state : (mode : SessionMode) (g : PlainGraph) (items : List Item) → IsGraph g → All (IsScriptItem NAMES) items → (lines : List PlainLine) × Lead (at_state mode g items) lines after_end
from_state Edit g items is are =
    let line : (line : PlainLine) × HasTreeLine tree g line = tree_line tree g is in
    let rest : (lines : List PlainLine) × Lead (at_items Edit (first_state g) (items_behind line.0 items)) lines after_end =
    answered Edit (items_behind line.0 items) (first_state g) (is, tt) (items_sound (tells_bar line.0) items are) in
    (line.0 ∷ rest.0, (line.1, rest.1))
from_state Cograph g items is are =
    let line : (line : PlainLine) × IsOpeningLine g line = opening_line g is in
    let rest : (lines : List PlainLine) × Lead (at_items Cograph (first_state g) (items_behind line.0 items)) lines after_end =
    answered Cograph (items_behind line.0 items) (first_state g) (is, tt) (items_sound (tells_bar line.0) items are) in
    (line.0 ∷ rest.0, (line.1, rest.1))
from_state (Of class) g items is are =
    let line : (line : PlainLine) × IsClassOpening class g line = class_opening class g is in
    let rest : (lines : List PlainLine) × Lead (at_items (Of class) (first_state g) (items_behind line.0 items)) lines after_end =
    answered (Of class) (items_behind line.0 items) (first_state g) (is, tt) (items_sound (tells_bar line.0) items are) in
    (line.0 ∷ rest.0, (line.1, rest.1))
from_state Quiet g items is are =
    elim (some_p4 g is) [
      | inl path ↦ (not_cograph path.0 ∷ end ∷ [], (inl (path.0, path.1, refl), (refl, refl)))
      | inr none ↦
          let rest : (lines : List PlainLine) × Lead (at_items Quiet (first_state g) items) lines after_end = answered Quiet items (first_state g) (is, tt) are in
          (rest.0, from_cograph g items rest.0 none rest.1)
    ]

-- lines lead from each sound place to the end
pub completion : (p : Place) → IsSound p → (lines : List PlainLine) × Lead p lines after_end
completion (before_head mode graphs) sound =
    let rest : (lines : List PlainLine) × Lead (at_graphs mode graphs) lines after_end = reported mode graphs sound in
    (head (mode_of mode) ∷ rest.0, (refl, rest.1))
completion (at_graphs mode graphs) sound = reported mode graphs sound
completion (before_session mode g items) sound =
    let rest : (lines : List PlainLine) × Lead (at_state mode g items) lines after_end = from_state mode g items sound.0 sound.1 in
    (session_head mode ∷ rest.0, (refl, rest.1))
completion (at_state mode g items) sound = from_state mode g items sound.0 sound.1
completion (at_items mode s items) sound = answered mode items s sound.0 sound.1
completion at_end sound = (end ∷ [], (refl, refl))
completion after_end sound = ([], refl)

-- and so wherever lines lead from one
pub can_end : (p : Place) → IsSound p → CanEnd MayCome next_place after_end p
can_end p sound lines q leads = completion q (lead_sound p q lines sound leads)

pub lines_lead_proof : LinesLeadIfFirst
lines_lead_proof p sound lines = lines_lead_by MayCome next_place after_end p (can_end p sound) lines

-- the lines of graphs are one for each, and the end
graphs_each : (mode : GraphMode) (graphs : List PlainGraph) (lines : List PlainLine) → Lead (at_graphs mode graphs) lines after_end →
    (run : List PlainLine) × ReportEach mode graphs run × (lines ≡ run ++ end ∷ [])
graphs_each mode [] [] leads = absurd (cc)
graphs_each mode [] (line ∷ []) leads = ([], refl, cc)
graphs_each mode [] (line ∷ more ∷ lines) leads = absurd leads.1.0
graphs_each mode (g ∷ graphs) [] leads = absurd (cc)
graphs_each mode (g ∷ graphs) (line ∷ lines) leads =
    let on : (run : List PlainLine) × ReportEach mode graphs run × (lines ≡ run ++ end ∷ []) = graphs_each mode graphs lines leads.1 in
    (line ∷ on.0, (leads.0, on.1), ap (λ l. line ∷ l) on.2)

each_graphs : (mode : GraphMode) (graphs : List PlainGraph) (run : List PlainLine) → ReportEach mode graphs run → Lead (at_graphs mode graphs) (run ++ end ∷ []) after_end
each_graphs mode [] [] each = (refl, refl)
each_graphs mode [] (line ∷ run) each = absurd (cc)
each_graphs mode (g ∷ graphs) [] each = absurd each
each_graphs mode (g ∷ graphs) (line ∷ run) each = (each.0, each_graphs mode graphs run each.1)

graph_report : (mode : GraphMode) (graphs : List PlainGraph) (lines : List PlainLine) → Lead (before_head mode graphs) lines after_end → IsGraphReport mode graphs lines
graph_report mode graphs [] leads = absurd (cc)
graph_report mode graphs (line ∷ lines) leads =
    let on : (run : List PlainLine) × ReportEach mode graphs run × (lines ≡ run ++ end ∷ []) = graphs_each mode graphs lines leads.1 in
    record { run = on.0; each = on.1; whole = ap₂ (λ (l : PlainLine) (m : List PlainLine). l ∷ m) leads.0 on.2 }

pub graph_reports_proof : GraphReportsHaveLines
graph_reports_proof mode graphs lines = (
  graph_report mode graphs lines,
  λ is. subst (λ l. Lead (before_head mode graphs) l after_end) (sym is.whole) (refl, each_graphs mode graphs is.run is.each),
)

-- lines with shortest chains are lines of orientations
shortest_each : (graphs : List PlainGraph) (run : List PlainLine) → ReportEach Shortest graphs run → ReportEach Compare graphs run
shortest_each [] run each = each
shortest_each (g ∷ graphs) [] each = each
shortest_each (g ∷ graphs) (line ∷ run) each = (each.0.is, shortest_each graphs run each.1)

pub shortest_reports_proof : ShortestReportsCompare
shortest_reports_proof graphs bytes is =
    let report = (graph_reports_proof Shortest graphs is.lines).0 is.leads in
    let other : IsGraphReport Compare graphs is.lines = record { run = report.run; each = shortest_each graphs report.run report.each; whole = report.whole } in
    record { lines = is.lines; leads = (graph_reports_proof Compare graphs is.lines).1 other; text = is.text }

-- lines that lead on from items: the run over them, and what closes it
record IsCut (mode : SessionMode) (s : State) (items : List Item) (lines : List PlainLine) : Type 0 where
  run : List PlainLine
  closing : List PlainLine
  runs : Run mode s items run
  closes : Lead (at_items mode (last_state s items run) []) closing after_end
  whole : lines ≡ run ++ closing

cut_run : (mode : SessionMode) (items : List Item) (s : State) (lines : List PlainLine) → Lead (at_items mode s items) lines after_end → IsCut mode s items lines
cut_run mode [] s lines leads = record { run = []; closing = lines; runs = refl; closes = leads; whole = refl }
cut_run mode (item ∷ items) s [] leads = absurd (cc)
cut_run mode (item ∷ items) s (line ∷ lines) leads =
    let on : IsCut mode (state_behind s item line) items lines = cut_run mode items (state_behind s item line) lines leads.1 in
    record { run = line ∷ on.run; closing = on.closing; runs = (leads.0, on.runs); closes = on.closes; whole = ap (λ l. line ∷ l) on.whole }

-- a run leads on to what closes it
run_leads : (mode : SessionMode) (items : List Item) (s : State) (run closing : List PlainLine) → Run mode s items run → Lead (at_items mode (last_state s items run) []) closing after_end → Lead (at_items mode s items) (run ++ closing) after_end
run_leads mode [] s [] closing runs closes = closes
run_leads mode [] s (line ∷ run) closing runs closes = absurd (cc)
run_leads mode (item ∷ items) s [] closing runs closes = absurd runs
run_leads mode (item ∷ items) s (line ∷ run) closing runs closes = (runs.0, run_leads mode items (state_behind s item line) run closing runs.1 closes)

-- what closes a run: the end, or in mode quiet the tree of the last graph, and the end
only_end : (lines : List PlainLine) → Lead at_end lines after_end → lines ≡ end ∷ []
only_end [] leads = absurd (cc)
only_end (line ∷ []) leads = ap (λ (l : PlainLine). l ∷ []) leads.0
only_end (line ∷ more ∷ lines) leads = absurd leads.1.0

edit_closing : (s : State) (lines : List PlainLine) → Lead (at_items Edit s []) lines after_end → lines ≡ end ∷ []
edit_closing s [] leads = absurd (cc)
edit_closing s (line ∷ lines) leads = only_end (line ∷ lines) leads

cograph_closing : (s : State) (lines : List PlainLine) → Lead (at_items Cograph s []) lines after_end → lines ≡ end ∷ []
cograph_closing s [] leads = absurd (cc)
cograph_closing s (line ∷ lines) leads = only_end (line ∷ lines) leads

class_closing : (class : Class) (s : State) (lines : List PlainLine) → Lead (at_items (Of class) s []) lines after_end → lines ≡ end ∷ []
class_closing class s [] leads = absurd (cc)
class_closing class s (line ∷ lines) leads = only_end (line ∷ lines) leads

quiet_closing : (s : State) (lines : List PlainLine) → Lead (at_items Quiet s []) lines after_end → (last : PlainLine) × HasTreeLine tree s.graph last × (lines ≡ last ∷ end ∷ [])
quiet_closing s [] leads = absurd (cc)
quiet_closing s (line ∷ lines) leads = (line, leads.0, ap (λ l. line ∷ l) (only_end lines leads.1))

-- a report of a session in mode edit or cograph, or on a class, by its lines
listed : (mode : SessionMode) (g : PlainGraph) (items : List Item) (line first : PlainLine) (lines : List PlainLine) → line ≡ session_head mode → ReportsState mode g first
    → (on : IsCut mode (first_state g) (items_behind first items) lines) → on.closing ≡ end ∷ [] → IsSessionReport mode g items (line ∷ first ∷ lines)
listed mode g items line first lines is state on ends = record {
  first = first;
  run = on.run;
  state_line = state;
  runs = on.runs;
  whole = ap₂ (λ (l : PlainLine) (m : List PlainLine). l ∷ first ∷ m) is (on.whole ∙ ap (λ l. on.run ++ l) ends);
}

-- the lines from the first state on in mode quiet: an induced P4 and the end, or those of a cograph
quiet_report : (g : PlainGraph) (items : List Item) (line : PlainLine) (lines : List PlainLine) → line ≡ session_head Quiet → Lead (at_state Quiet g items) lines after_end →
    IsWholeSession Quiet g items (line ∷ lines)
quiet_report g items line [] is leads = absurd (cc)
quiet_report g items line (first ∷ lines) is (inl path, leads) =
    let ends : lines ≡ end ∷ [] = only_end lines (subst (λ (p : Place). Lead p lines after_end) (stopped_place g items first path) leads) in
    inl (record { p = path.0; path = path.1; whole = ap₂ (λ (l : PlainLine) (m : List PlainLine). l ∷ m) is (ap₂ (λ (l : PlainLine) (m : List PlainLine). l ∷ m) path.2 ends) })
quiet_report g items line (first ∷ lines) is (inr whole, leads) =
    let on : IsCut Quiet (first_state g) items (first ∷ lines) = cut_run Quiet items (first_state g) (first ∷ lines) (whole.1, subst (λ (p : Place). Lead p lines after_end) (first_place g items first whole.1) leads) in
    let last = quiet_closing (last_state (first_state g) items on.run) on.closing on.closes in
    inr (record {
      run = on.run;
      last = last.0;
      cograph = whole.0;
      runs = on.runs;
      last_line = last.1;
      whole = ap₂ (λ (l : PlainLine) (m : List PlainLine). l ∷ m) is (on.whole ∙ ap (λ l. on.run ++ l) last.2);
    })

session_report : (mode : SessionMode) (g : PlainGraph) (items : List Item) (lines : List PlainLine) → Lead (before_session mode g items) lines after_end → IsWholeSession mode g items lines
session_report mode g items [] leads = absurd (cc)
session_report Edit g items (line ∷ []) leads = absurd (cc)
session_report Edit g items (line ∷ first ∷ lines) leads =
    let on : IsCut Edit (first_state g) (items_behind first items) lines = cut_run Edit (items_behind first items) (first_state g) lines leads.1.1 in
    listed Edit g items line first lines leads.0 leads.1.0 on (edit_closing (last_state (first_state g) (items_behind first items) on.run) on.closing on.closes)
session_report Cograph g items (line ∷ []) leads = absurd (cc)
session_report Cograph g items (line ∷ first ∷ lines) leads =
    let on : IsCut Cograph (first_state g) (items_behind first items) lines = cut_run Cograph (items_behind first items) (first_state g) lines leads.1.1 in
    listed Cograph g items line first lines leads.0 leads.1.0 on (cograph_closing (last_state (first_state g) (items_behind first items) on.run) on.closing on.closes)
session_report (Of class) g items (line ∷ []) leads = absurd (cc)
session_report (Of class) g items (line ∷ first ∷ lines) leads =
    let on : IsCut (Of class) (first_state g) (items_behind first items) lines = cut_run (Of class) (items_behind first items) (first_state g) lines leads.1.1 in
    listed (Of class) g items line first lines leads.0 leads.1.0 on (class_closing class (last_state (first_state g) (items_behind first items) on.run) on.closing on.closes)
session_report Quiet g items (line ∷ lines) leads = quiet_report g items line lines leads.0 leads.1

report_session : (mode : SessionMode) (g : PlainGraph) (items : List Item) (lines : List PlainLine) → IsWholeSession mode g items lines → Lead (before_session mode g items) lines after_end
report_session Edit g items lines is =
    subst (λ l. Lead (before_session Edit g items) l after_end) (sym is.whole)
    (refl, (is.state_line, run_leads Edit (items_behind is.first items) (first_state g) is.run (end ∷ []) is.runs (refl, refl)))
report_session Cograph g items lines is =
    subst (λ l. Lead (before_session Cograph g items) l after_end) (sym is.whole)
    (refl, (is.state_line, run_leads Cograph (items_behind is.first items) (first_state g) is.run (end ∷ []) is.runs (refl, refl)))
report_session (Of class) g items lines is =
    subst (λ l. Lead (before_session (Of class) g items) l after_end) (sym is.whole)
    (refl, (is.state_line, run_leads (Of class) (items_behind is.first items) (first_state g) is.run (end ∷ []) is.runs (refl, refl)))
report_session Quiet g items lines (inl stopped) =
    subst (λ l. Lead (before_session Quiet g items) l after_end) (sym stopped.whole) (refl, (inl (stopped.p, stopped.path, refl), (refl, refl)))
report_session Quiet g items lines (inr is) =
    subst (λ l. Lead (before_session Quiet g items) l after_end) (sym is.whole)
    (refl, from_cograph g items (is.run ++ is.last ∷ end ∷ []) is.cograph (run_leads Quiet items (first_state g) is.run (is.last ∷ end ∷ []) is.runs (is.last_line, (refl, refl))))

pub session_reports_proof : SessionReportsAreRuns
session_reports_proof mode g items lines = (session_report mode g items lines, report_session mode g items lines)
