-- What holds of DIMACS edge files: the statements of the laws of `src/laws.rt`.
use Rattle.std.specs.Prelude.{◌≡◌, ◌≢◌, ℕ, ◌<◌, ◌≤◌, List, None, Some}
use Rattle.std.specs.FinSet as set
use Rattle.md_graph.specs.declared.TheConstants.{NAMES}
use Rattle.md_graph.specs.PlainGraph.{PlainGraph, IsGraph}
use Rattle.md_text.specs.Spelling.{SpellsOnly, SpelledOrFaulty, SpelledHasNoFault}
use Rattle.md_dimacs.specs.declared.fault.DimacsFault.{DimacsFault}
use Rattle.md_dimacs.specs.declared.fault.DimacsKind.TheVariants.{TooManyVertices}
use Rattle.md_dimacs.specs.File.{Spells, first_fault}
use Rattle.md_dimacs.specs.Text.{dimacs_text, IsRenamed}

-- under each limit a file either has no fault and spells exactly one graph, or has a first fault and spells none
abbrev pub FilesAreSpelledOrFaulty : Type 0
FilesAreSpelledOrFaulty = (limit : ℕ) → limit ≤ NAMES → SpelledOrFaulty (Spells limit) (first_fault limit)

-- a file that spells a graph has no fault
abbrev pub SpelledAreFaultless : Type 0
SpelledAreFaultless = (limit : ℕ) → SpelledHasNoFault (Spells limit) (first_fault limit)

-- a graph and one that is the same with each vertex named by its place, which the bytes spell, and no other
pub record SpellsRenamed (bytes : List ℕ) (g : PlainGraph) : Type 0 where
  pub named : PlainGraph
  pub renamed : IsRenamed g named
  pub spelled : SpellsOnly (Spells NAMES) bytes named
  pub faultless : first_fault NAMES bytes ≡ None

-- the text of a graph with fewer vertices than names has no fault, and spells the graph with each vertex
-- named by its place, and no other
abbrev pub TextIsRead : Type 0
TextIsRead = (g : PlainGraph) → IsGraph g → set.len g.vertices < NAMES → SpellsRenamed (dimacs_text g) g

-- for a greater limit a file without fault stays without, and each other fault than too many vertices stays the first
abbrev pub LimitsAgree : Type 0
LimitsAgree = (bytes : List ℕ) (low high : ℕ) → low ≤ high
    → (first_fault low bytes ≡ None → first_fault high bytes ≡ None)
    × ((fault : DimacsFault) → first_fault low bytes ≡ Some fault → fault.kind ≢ TooManyVertices
    → first_fault high bytes ≡ Some fault)

-- what a file spells it spells under a greater limit too
abbrev pub SpelledUnderGreater : Type 0
SpelledUnderGreater =
    (bytes : List ℕ) (g : PlainGraph) (low high : ℕ) → low ≤ high → Spells low bytes g → Spells high bytes g
