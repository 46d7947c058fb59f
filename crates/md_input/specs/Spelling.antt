-- What a graph file spells, by its format. Source: the formats of docs/FORMATS.md.
use Rattle.std.specs.Prelude.{◌≡◌, ℕ, List, [], ◌∷◌}
use Rattle.md_graph.specs.declared.TheConstants.{NAMES}
use Rattle.md_graph.specs.PlainGraph.{PlainGraph}
use Rattle.md_graph6.specs.File as graph6
use Rattle.md_dimacs.specs.File as dimacs
use Rattle.md_input.specs.declared.format.Format.{Format}
use Rattle.md_input.specs.declared.format.Format.TheVariants.{G6, Dimacs}

-- the graphs that a graph file spells: those of its lines, or the one of an edge file
abbrev pub SpellsGraphs : Format → List ℕ → List PlainGraph → Type 0
SpellsGraphs G6 bytes graphs = graph6.Spells NAMES bytes graphs
SpellsGraphs Dimacs bytes graphs = (g : PlainGraph) × (graphs ≡ g ∷ []) × dimacs.Spells NAMES bytes g
