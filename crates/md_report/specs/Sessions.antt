-- Sessions over items: the state is the graph as it stands and the earlier ones, the last one first; each item has one line, and leads to
-- one state.
-- Source: Shamir and Sharan, A fully dynamic algorithm for modular decomposition and recognition of cographs; the undo lists of editors of
-- texts, as in any textbook of data structures.
use Rattle.std.specs.Prelude.{◌≡◌, ℕ, Bool, true, false, not, List, [], ◌∷◌, length, Option, Some, None, if◌then◌else◌}
use Rattle.std.specs.List.{filter}
use Rattle.md_graph.specs.PlainGraph.{PlainGraph, adjacent}
use Rattle.md_tree.specs.Trees.{PlainTree}
use Rattle.md_tree.specs.StrongTrees.{IsTree}
use Rattle.md_script.specs.declared.edit.Edit.{Edit}
use Rattle.md_script.specs.declared.edit.EditReason.{EditReason}
use Rattle.md_script.specs.declared.item.Item.{Item}
use Rattle.md_script.specs.declared.item.Item.TheVariants.{One, Undo, Group}
use Rattle.md_script.specs.Edit.{reason_of, after}
use Rattle.md_script.specs.Pasts.{all_after}
use Rattle.md_report.specs.Lines.{PlainLine, applied, applied_quiet, refused}

-- the graph as it stands, and the graphs before the items that led to it, the last one first
pub record State : Type 0 where
  pub graph : PlainGraph
  pub earlier : List PlainGraph

-- the state before all items
abbrev pub first_state : PlainGraph → State
first_state g = record { graph = g; earlier = [] }

-- the state behind an item that leads to g
abbrev pub led_to : State → PlainGraph → State
led_to s g = record { graph = g; earlier = s.graph ∷ s.earlier }

-- the state before the last item that is left, where g is the graph as it stands
abbrev pub undone : PlainGraph → List PlainGraph → State
undone g [] = first_state g
undone g (h ∷ earlier) = record { graph = h; earlier = earlier }

-- the state behind an item that is applied
abbrev pub applied_state : State → Item → State
applied_state s (One edit) = led_to s (after s.graph edit)
applied_state s (Group edits) = led_to s (all_after s.graph edits)
applied_state s Undo = undone s.graph s.earlier

-- whether the line is that of an item that was applied
abbrev pub is_applied : PlainLine → Bool
is_applied (applied t) = true
is_applied applied_quiet = true
is_applied _ = false

-- the state behind a line that came for an item: that of the item where it was applied, else the state before
abbrev pub state_behind : State → Item → PlainLine → State
state_behind s item line = if is_applied line then applied_state s item else s

-- the state behind lines that came for items, one each
abbrev pub last_state : State → List Item → List PlainLine → State
last_state s [] lines = s
last_state s (item ∷ items) [] = s
last_state s (item ∷ items) (line ∷ lines) = last_state (state_behind s item line) items lines

-- the states behind each of them
abbrev pub states_behind : State → List Item → List PlainLine → List State
states_behind s [] lines = []
states_behind s (item ∷ items) [] = []
states_behind s (item ∷ items) (line ∷ lines) =
    state_behind s item line ∷ states_behind (state_behind s item line) items lines

-- how many of the lines are those of an item that was applied, and how many aren't
abbrev pub count_applied : List PlainLine → ℕ
count_applied lines = length (filter is_applied lines)

abbrev pub count_refused : List PlainLine → ℕ
count_refused lines = length (filter (λ line. not (is_applied line)) lines)

-- the line is one with the tree of strong modules of g
abbrev pub HasTreeLine : (Option PlainTree → PlainLine) → PlainGraph → PlainLine → Type 0
HasTreeLine made g line = (t : Option PlainTree) × IsTree (adjacent g) g.vertices t × (line ≡ made t)

-- the line of an edit at g, by the reason against it: the reason, or the tree of the graph after the edit
abbrev pub IsLineBy : Option EditReason → PlainGraph → Edit → PlainLine → Type 0
IsLineBy (Some reason) g edit line = line ≡ refused reason
IsLineBy None g edit line = HasTreeLine applied (after g edit) line

-- the graph after an edit at g, by the reason against it: g stays where there is one
abbrev pub state_by : Option EditReason → PlainGraph → Edit → PlainGraph
state_by (Some reason) g edit = g
state_by None g edit = after g edit

-- the line of an edit at g
abbrev pub IsStepLine : PlainGraph → Edit → PlainLine → Type 0
IsStepLine g edit line = IsLineBy (reason_of g edit) g edit line

-- the graph after an edit at g
abbrev pub state_after : PlainGraph → Edit → PlainGraph
state_after g edit = state_by (reason_of g edit) g edit

-- one step of a session: the line of the edit, and the graph that it leaves
pub record SessionStep (g : PlainGraph) (edit : Edit) (line : PlainLine) (next : PlainGraph) : Type 0 where
  pub line_is : IsStepLine g edit line
  pub next_is : next ≡ state_after g edit
