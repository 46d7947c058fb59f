-- The graphs that aren't handed over yet.
use Rattle.std.specs.Prelude.{List, [], ◌∷◌, Option, None, Some}
use Rattle.md_graph.specs.PlainGraph.{PlainGraph}

-- the graph that is read already, where there is one
abbrev pub first_of : Option PlainGraph → List PlainGraph
first_of None = []
first_of (Some g) = g ∷ []
