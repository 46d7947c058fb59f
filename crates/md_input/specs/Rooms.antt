-- Rooms for graphs of four sizes, of which one is in use.
-- Source: our own.
use Rattle.std.specs.Prelude.{◌≡◌, Option, None, Some, Box}
use Rattle.std.specs.declared.alloc.Global.{Global}
use Rattle.md_graph.specs.PlainGraph.{PlainGraph, empty_graph}
use Rattle.md_input.specs.declared.room.GraphBySize.{GraphBySize}
use Rattle.md_input.specs.declared.room.GraphBySize.TheVariants.{Small, Medium, Broad, Large}
use Rattle.md_input.specs.declared.room.Width.{Width}
use Rattle.md_input.specs.declared.room.Width.TheVariants.{One, Sixteen, SixtyFour, Most}

-- a graph in rows of a width, where these were taken
abbrev pub BoxedGraph : Type 0
BoxedGraph = Option (Box PlainGraph Global)

-- the graph in the rows; where they weren't taken the one without vertices
abbrev pub graph_or_empty : BoxedGraph → PlainGraph
graph_or_empty None = empty_graph
graph_or_empty (Some g) = g.value

-- the graph in the room of the width that is in use
abbrev pub graph_in : Width → PlainGraph → BoxedGraph → BoxedGraph → BoxedGraph → PlainGraph
graph_in One small medium broad large = small
graph_in Sixteen small medium broad large = graph_or_empty medium
graph_in SixtyFour small medium broad large = graph_or_empty broad
graph_in Most small medium broad large = graph_or_empty large

-- this room has no vertices
abbrev pub HasNone : BoxedGraph → Type 0
HasNone room = graph_or_empty room ≡ empty_graph

-- the other ones have no vertices
abbrev pub IsOneIn : Width → PlainGraph → BoxedGraph → BoxedGraph → BoxedGraph → Type 0
IsOneIn One small medium broad large = HasNone medium × (HasNone broad × HasNone large)
IsOneIn Sixteen small medium broad large = (small ≡ empty_graph) × (HasNone broad × HasNone large)
IsOneIn SixtyFour small medium broad large = (small ≡ empty_graph) × (HasNone medium × HasNone large)
IsOneIn Most small medium broad large = (small ≡ empty_graph) × (HasNone medium × HasNone broad)

-- what is handed out is this graph
abbrev pub IsGraphBySize : GraphBySize → PlainGraph → Type 0
IsGraphBySize (Small r) g = r.now ≡ g
IsGraphBySize (Medium r) g = r.now ≡ g
IsGraphBySize (Broad r) g = r.now ≡ g
IsGraphBySize (Large r) g = r.now ≡ g
