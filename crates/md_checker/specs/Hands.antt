-- The graph at hand of a checker of graphs, and those that are left.
-- Source: this project's own format of reports.
use Rattle.std.specs.Prelude.{◌≡◌, false, List, ◌∷◌, if◌then◌else◌}
use Rattle.md_graph.specs.PlainGraph.{PlainGraph, empty_graph}
use Rattle.md_checker.specs.declared.due_graph.DueGraph.{DueGraph}

-- the graphs that are still to be reported: the one at hand, where it is there, and those behind it
abbrev pub graphs_left : DueGraph → List PlainGraph → List PlainGraph
graphs_left hand behind = if hand.is_there then hand.room ∷ behind else behind

-- where no graph is there, the room has no vertices
abbrev pub IsHand : DueGraph → Type 0
IsHand hand = hand.is_there ≡ false → hand.room ≡ empty_graph
