-- The laws of graphs.
-- Source: any textbook on graphs.
use Rattle.std.specs.Prelude.{◌≡◌}
use Rattle.std.specs.FinSet as set
use Rattle.md_graph.specs.PlainGraph.{PlainGraph, IsGraph, empty_graph}

-- a graph whose set of vertices is empty is the empty graph
abbrev pub GraphWithoutVerticesIsEmpty : Type 0
GraphWithoutVerticesIsEmpty = (g : PlainGraph) → IsGraph g → g.vertices ≡ set.empty →
    g ≡ empty_graph
