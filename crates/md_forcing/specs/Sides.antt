-- The two sides of a graph: its edges, and those of its complement.
-- Source: any textbook on graphs.
use Rattle.std.specs.Prelude.{ℕ, Bool}
use Rattle.md_graph.specs.PlainGraph.{PlainGraph, adjacent, complement}
use Rattle.md_forcing.specs.declared.arc_set.Side.{Side}
use Rattle.md_forcing.specs.declared.arc_set.Side.TheVariants.{Edges, NonEdges}

-- the test of adjacency of a graph, or of its complement
abbrev pub adjacent_on : Side → PlainGraph → ℕ → ℕ → Bool
adjacent_on Edges g = adjacent g
adjacent_on NonEdges g = adjacent (complement g)
