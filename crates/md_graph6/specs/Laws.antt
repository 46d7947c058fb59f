-- What holds of graph6 files: the statements of the laws of `src/laws.rt`.
use Rattle.std.specs.Prelude.{◌≡◌, ◌≢◌, ℕ, ◌≤◌, List, [], ◌∷◌, ◌++◌, None, Some, MatchOption}
use Rattle.std.specs.List.{All}
use Rattle.md_graph.specs.declared.TheConstants.{NAMES}
use Rattle.md_graph.specs.PlainGraph.{PlainGraph, IsGraph}
use Rattle.md_text.specs.Lines.{ended}
use Rattle.md_text.specs.Spelling.{SpellsOnly, SpellsNone}
use Rattle.md_graph6.specs.declared.fault.G6Fault.{G6Fault}
use Rattle.md_graph6.specs.declared.fault.G6Kind.TheVariants.{TooManyVertices}
use Rattle.md_graph6.specs.FileLine.{SpellsLine}
use Rattle.md_graph6.specs.Written.{IsTextOf, renumbered}
use Rattle.md_graph6.specs.File.{Spells, first_fault, graphs_of}

-- a file either has no fault and spells one list of graphs, or has a first fault and spells none
abbrev pub SpellsItsGraphsOrNothing : Type 0
SpellsItsGraphsOrNothing = (limit : ℕ) (bytes : List ℕ) → limit ≤ NAMES
    → MatchOption (first_fault limit bytes) (SpellsOnly (Spells limit) bytes (graphs_of bytes))
    (λ _. SpellsNone (Spells limit) bytes)

-- a file that spells some graphs has no fault, and they are its graphs
abbrev pub SpelledAreItsGraphs : Type 0
SpelledAreItsGraphs = (limit : ℕ) (bytes : List ℕ) (graphs : List PlainGraph) → limit ≤ NAMES → Spells limit bytes graphs
    → (first_fault limit bytes ≡ None) × (graphs_of bytes ≡ graphs)

-- what a file without fault spells are graphs
abbrev pub GraphsAreGraphs : Type 0
GraphsAreGraphs =
    (limit : ℕ) (bytes : List ℕ) → limit ≤ NAMES → first_fault limit bytes ≡ None → All IsGraph (graphs_of bytes)

-- A file without fault under a limit has none under a greater one, and each first fault other than too many vertices
-- stays the first.
abbrev pub LimitsAgree : Type 0
LimitsAgree = (bytes : List ℕ) (low high : ℕ) → low ≤ high
    → (first_fault low bytes ≡ None → first_fault high bytes ≡ None)
    × ((fault : G6Fault) → first_fault low bytes ≡ Some fault → fault.kind ≢ TooManyVertices
    → first_fault high bytes ≡ Some fault)

-- the lines spell the graphs, one each
abbrev pub AllSpell : List (List ℕ) → List PlainGraph → Type 0
AllSpell [] [] = Unit {0}
AllSpell (line ∷ more) (g ∷ graphs) = SpellsLine NAMES line g × AllSpell more graphs
AllSpell _ _ = ⊥

-- lines that spell graphs, each ended by a line feed, are a file that spells these graphs and no others
abbrev pub EndedLinesSpell : Type 0
EndedLinesSpell = (all : List (List ℕ)) (graphs : List PlainGraph) → AllSpell all graphs
    → SpellsOnly (Spells NAMES) (ended all) graphs

-- a line that spells a graph and a line feed are a file that spells this graph and no other
abbrev pub EndedLineSpells : Type 0
EndedLineSpells =
    (line : List ℕ) (g : PlainGraph) → SpellsLine NAMES line g → SpellsOnly (Spells NAMES) (line ++ 10 ∷ []) (g ∷ [])

-- the text of a graph is a file that spells this graph, its vertices renumbered, and no other
abbrev pub TextSpells : Type 0
TextSpells =
    (text : List ℕ) (g : PlainGraph) → IsTextOf text g → SpellsOnly (Spells NAMES) text (renumbered g ∷ [])
