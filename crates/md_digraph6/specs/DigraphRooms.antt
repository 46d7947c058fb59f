-- Rooms for directed graphs of three sizes, of which one is in use.
-- Source: our own.
use Rattle.std.specs.Prelude.{◌≡◌, Option, None, Some, Box}
use Rattle.std.specs.declared.alloc.Global.{Global}
use Rattle.md_digraph.specs.PlainDigraph.{PlainDigraph, empty_digraph}
use Rattle.md_digraph6.specs.declared.room.DigraphBySize.{DigraphBySize}
use Rattle.md_digraph6.specs.declared.room.DigraphBySize.TheVariants.{Small, Medium, Large}
use Rattle.md_digraph6.specs.declared.room.DirectedWidth.{DirectedWidth}
use Rattle.md_digraph6.specs.declared.room.DirectedWidth.TheVariants.{One, Sixteen, Most}

-- a directed graph in rows of a width, where these were taken
abbrev pub BoxedDigraph : Type 0
BoxedDigraph = Option (Box PlainDigraph Global)

-- the directed graph in the rows; where they weren't taken the one without vertices
abbrev pub digraph_or_empty : BoxedDigraph → PlainDigraph
digraph_or_empty None = empty_digraph
digraph_or_empty (Some g) = g.value

-- the directed graph in the room of the width that is in use
abbrev pub digraph_in : DirectedWidth → PlainDigraph → BoxedDigraph → BoxedDigraph → PlainDigraph
digraph_in One small medium large = small
digraph_in Sixteen small medium large = digraph_or_empty medium
digraph_in Most small medium large = digraph_or_empty large

-- this room has no vertices
abbrev pub HasNoDigraph : BoxedDigraph → Type 0
HasNoDigraph room = digraph_or_empty room ≡ empty_digraph

-- the other ones have no vertices
abbrev pub IsOneDigraphIn : DirectedWidth → PlainDigraph → BoxedDigraph → BoxedDigraph → Type 0
IsOneDigraphIn One small medium large = HasNoDigraph medium × HasNoDigraph large
IsOneDigraphIn Sixteen small medium large = (small ≡ empty_digraph) × HasNoDigraph large
IsOneDigraphIn Most small medium large = (small ≡ empty_digraph) × HasNoDigraph medium

-- what is handed out is this directed graph
abbrev pub IsDigraphBySize : DigraphBySize → PlainDigraph → Type 0
IsDigraphBySize (Small r) g = r.now ≡ g
IsDigraphBySize (Medium r) g = r.now ≡ g
IsDigraphBySize (Large r) g = r.now ≡ g
