-- How large the first of some directed graphs is.
-- Source: B. McKay, "Description of graph6, sparse6 and digraph6 encodings", whose lines tell the number of vertices.
use Rattle.std.specs.Prelude.{ℕ, List, [], ◌∷◌}
use Rattle.md_graph.specs.NameSet.{AllBelow}
use Rattle.md_digraph.specs.PlainDigraph.{PlainDigraph}

-- the first directed graph, if there is one, has all its vertices below n
abbrev pub FirstDigraphBelow : ℕ → List PlainDigraph → Type 0
FirstDigraphBelow n [] = Unit {0}
FirstDigraphBelow n (g ∷ more) = AllBelow g.vertices n
