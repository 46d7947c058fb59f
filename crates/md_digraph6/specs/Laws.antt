-- What holds of digraph6 files: the statements of the laws of `src/laws.rt`.
-- Source: B. McKay, "Description of graph6, sparse6 and digraph6 encodings".
use Rattle.std.specs.Prelude.{◌≡◌, ℕ, List, None, MatchOption}
use Rattle.std.specs.List.{All}
use Rattle.md_digraph.specs.PlainDigraph.{PlainDigraph, IsDigraph}
use Rattle.md_text.specs.Spelling.{SpellsOnly, SpellsNone}
use Rattle.md_digraph6.specs.ArcFile.{SpellsDigraphs, first_arc_fault, digraphs_of}

-- a file either has no fault and spells one list of directed graphs, or has a first fault and spells none
abbrev pub SpellsItsDigraphsOrNothing : Type 0
SpellsItsDigraphsOrNothing = (bytes : List ℕ)
    → MatchOption (first_arc_fault bytes) (SpellsOnly SpellsDigraphs bytes (digraphs_of bytes))
    (λ _. SpellsNone SpellsDigraphs bytes)

-- a file that spells some directed graphs has no fault, and they are its directed graphs
abbrev pub SpelledAreItsDigraphs : Type 0
SpelledAreItsDigraphs = (bytes : List ℕ) (digraphs : List PlainDigraph) → SpellsDigraphs bytes digraphs
    → (first_arc_fault bytes ≡ None) × (digraphs_of bytes ≡ digraphs)

-- what a file without fault spells are directed graphs
abbrev pub DigraphsAreDigraphs : Type 0
DigraphsAreDigraphs = (bytes : List ℕ) → first_arc_fault bytes ≡ None → All IsDigraph (digraphs_of bytes)
