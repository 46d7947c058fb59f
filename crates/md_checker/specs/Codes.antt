-- The code of a place, by which proofs tell places apart: a sum of the parts of each variant.
-- Source: this project's own format of reports.
use Rattle.std.specs.Prelude.{◌≡◌, ◌⊎◌, ℕ, zero, suc, List, refl}
use Rattle.std.specs.Coded.{Coded, code_by, coded_ℕ, coded_list, coded×, coded⊎}
use Rattle.std.proofs.Common.{inl, inr}
use base.Stored.{coded_unit}
use Rattle.md_graph.specs.PlainGraph.{PlainGraph, graph_code}
use Rattle.md_script.specs.declared.edit.Edit as script
use Rattle.md_script.specs.declared.item.Item.{Item}
use Rattle.md_script.specs.declared.item.Item.TheVariants.{One, Undo, Group}
use Rattle.md_script.specs.Histories.{edit_code}
use Rattle.md_report.specs.declared.line.GraphMode.{GraphMode}
use Rattle.md_report.specs.declared.line.GraphMode.TheVariants.{Tree, Compare, Shortest, Permute}
use Rattle.md_report.specs.declared.line.SessionMode.{SessionMode}
use Rattle.md_report.specs.declared.line.SessionMode.TheVariants.{Edit, Cograph, Quiet, Of}
use Rattle.md_bar_tree.specs.declared.Class.TheVariants.{Trivial, Threshold}
use Rattle.md_report.specs.Sessions.{State}
use Rattle.md_report.specs.Places.{Place, before_head, at_graphs, before_session, at_state, at_items, at_end, after_end}

-- a mode over graphs as a number, and back
abbrev pub graph_mode_number : GraphMode → ℕ
graph_mode_number Tree = 0
graph_mode_number Compare = 1
graph_mode_number Permute = 2
graph_mode_number Shortest = 3

abbrev pub graph_mode_at : ℕ → GraphMode
graph_mode_at zero = Tree
graph_mode_at (suc zero) = Compare
graph_mode_at (suc (suc zero)) = Permute
graph_mode_at (suc (suc (suc n))) = Shortest

pub graph_mode_back : (mode : GraphMode) → graph_mode_at (graph_mode_number mode) ≡ mode
graph_mode_back Tree = refl
graph_mode_back Compare = refl
graph_mode_back Permute = refl
graph_mode_back Shortest = refl

abbrev pub graph_mode_code : Coded GraphMode
graph_mode_code = code_by ℕ coded_ℕ graph_mode_number graph_mode_at graph_mode_back

-- a mode of a session as a number, and back
abbrev pub session_mode_number : SessionMode → ℕ
session_mode_number Edit = 0
session_mode_number Cograph = 1
session_mode_number Quiet = 2
session_mode_number (Of Trivial) = 3
session_mode_number (Of Threshold) = 4

abbrev pub session_mode_at : ℕ → SessionMode
session_mode_at zero = Edit
session_mode_at (suc zero) = Cograph
session_mode_at (suc (suc zero)) = Quiet
session_mode_at (suc (suc (suc zero))) = Of Trivial
session_mode_at (suc (suc (suc (suc n)))) = Of Threshold

pub session_mode_back : (mode : SessionMode) → session_mode_at (session_mode_number mode) ≡ mode
session_mode_back Edit = refl
session_mode_back Cograph = refl
session_mode_back Quiet = refl
session_mode_back (Of Trivial) = refl
session_mode_back (Of Threshold) = refl

abbrev pub session_mode_code : Coded SessionMode
session_mode_code = code_by ℕ coded_ℕ session_mode_number session_mode_at session_mode_back

-- an item by its parts, and back
abbrev pub ItemParts : Type 0
ItemParts = script.Edit ⊎ (List script.Edit ⊎ Unit {0})

abbrev pub item_parts : Item → ItemParts
item_parts (One edit) = inl edit
item_parts (Group edits) = inr (inl edits)
item_parts Undo = inr (inr tt)

abbrev pub item_of_parts : ItemParts → Item
item_of_parts (inl edit) = One edit
item_of_parts (inr (inl edits)) = Group edits
item_of_parts (inr (inr _)) = Undo

pub item_back : (item : Item) → item_of_parts (item_parts item) ≡ item
item_back (One edit) = refl
item_back (Group edits) = refl
item_back Undo = refl

abbrev pub item_code : Coded Item
item_code = code_by ItemParts (coded⊎ edit_code (coded⊎ (coded_list edit_code) coded_unit)) item_parts item_of_parts item_back

-- a state is stored as its two parts
abbrev pub state_code : Coded State
state_code =
    code_by (PlainGraph × List PlainGraph) (coded× graph_code (coded_list graph_code)) (λ s. (s.graph, s.earlier)) (λ p. record { graph = p.0; earlier = p.1 }) (λ _. refl)

-- what is left of a report over graphs, and of a session
abbrev pub GraphParts : Type 0
GraphParts = GraphMode × List PlainGraph

abbrev pub graph_parts_code : Coded GraphParts
graph_parts_code = coded× graph_mode_code (coded_list graph_code)

abbrev pub SessionParts : Type 0
SessionParts = SessionMode × (PlainGraph × List Item)

abbrev pub session_parts_code : Coded SessionParts
session_parts_code = coded× session_mode_code (coded× graph_code (coded_list item_code))

-- the same at a state
abbrev pub StateParts : Type 0
StateParts = SessionMode × (State × List Item)

abbrev pub state_parts_code : Coded StateParts
state_parts_code = coded× session_mode_code (coded× state_code (coded_list item_code))

-- a place by its parts, and back
abbrev pub PlaceParts : Type 0
PlaceParts = GraphParts ⊎ (GraphParts ⊎ (SessionParts ⊎ (SessionParts ⊎ (StateParts ⊎ (Unit {0} ⊎ Unit {0})))))

abbrev pub place_parts : Place → PlaceParts
place_parts (before_head mode graphs) = inl (mode, graphs)
place_parts (at_graphs mode graphs) = inr (inl (mode, graphs))
place_parts (before_session mode g items) = inr (inr (inl (mode, (g, items))))
place_parts (at_state mode g items) = inr (inr (inr (inl (mode, (g, items)))))
place_parts (at_items mode s items) = inr (inr (inr (inr (inl (mode, (s, items))))))
place_parts at_end = inr (inr (inr (inr (inr (inl tt)))))
place_parts after_end = inr (inr (inr (inr (inr (inr tt)))))

abbrev pub place_of_parts : PlaceParts → Place
place_of_parts (inl p) = before_head p.0 p.1
place_of_parts (inr (inl p)) = at_graphs p.0 p.1
place_of_parts (inr (inr (inl p))) = before_session p.0 p.1.0 p.1.1
place_of_parts (inr (inr (inr (inl p)))) = at_state p.0 p.1.0 p.1.1
place_of_parts (inr (inr (inr (inr (inl p))))) = at_items p.0 p.1.0 p.1.1
place_of_parts (inr (inr (inr (inr (inr (inl _)))))) = at_end
place_of_parts (inr (inr (inr (inr (inr (inr _)))))) = after_end

pub place_back : (p : Place) → place_of_parts (place_parts p) ≡ p
place_back (before_head mode graphs) = refl
place_back (at_graphs mode graphs) = refl
place_back (before_session mode g items) = refl
place_back (at_state mode g items) = refl
place_back (at_items mode s items) = refl
place_back at_end = refl
place_back after_end = refl

abbrev pub place_code : Coded Place
place_code =
    code_by PlaceParts (coded⊎ graph_parts_code (coded⊎ graph_parts_code (coded⊎ session_parts_code (coded⊎ session_parts_code (coded⊎ state_parts_code (coded⊎ coded_unit coded_unit))))))
    place_parts place_of_parts place_back
