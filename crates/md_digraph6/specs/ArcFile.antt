-- A file of digraph6 lines: its lines, the directed graphs that it spells, and its first fault.
-- Source: B. McKay, "Description of graph6, sparse6 and digraph6 encodings"; the faults are this project's.
use Rattle.std.specs.Prelude.{◌≡◌, ℕ, List, length, drop, if◌then◌else◌, nat_eq, Option, None, codes}
use Rattle.std.specs.List.{starts_with}
use Rattle.md_digraph.specs.PlainDigraph.{PlainDigraph}
use Rattle.md_graph6.specs.declared.fault.G6Fault.{G6Fault}
use Rattle.md_graph6.specs.File.{stripped_lines, SpellEach, fault_behind, graphs_of_lines}
use Rattle.md_digraph6.specs.ArcLine.{SpellsArcLine, arc_line_fault, digraph_of_line}

-- the bytes `>>digraph6<<`, with which a file may begin
abbrev pub arc_header : List ℕ
arc_header = codes ">>digraph6<<"

-- the file without the header, which says nothing of the lines behind it
abbrev pub without_arc_header : List ℕ → List ℕ
without_arc_header bytes =
    if starts_with nat_eq bytes arc_header then drop (length arc_header) bytes else bytes

-- the lines of a file, each without one byte 13 at its end; empty ones are among them
abbrev pub arc_lines : List ℕ → List (List ℕ)
arc_lines bytes = stripped_lines (without_arc_header bytes)

-- the bytes of a file spell the directed graphs: each line that isn't empty spells one, in order
abbrev pub SpellsDigraphs : List ℕ → List PlainDigraph → Type 0
SpellsDigraphs bytes digraphs = SpellEach SpellsArcLine (arc_lines bytes) digraphs

-- The first fault of a file: that of its first faulty line, with the number of the line, counted from 1.
abbrev pub first_arc_fault : List ℕ → Option G6Fault
first_arc_fault bytes = fault_behind arc_line_fault 0 (arc_lines bytes)

-- no line has a fault
abbrev pub HasNoArcFault : List (List ℕ) → Type 0
HasNoArcFault all = fault_behind arc_line_fault 0 all ≡ None

-- the directed graphs of a text without fault that has no header
abbrev pub digraphs_in : List ℕ → List PlainDigraph
digraphs_in text = graphs_of_lines digraph_of_line (stripped_lines text)

-- the directed graphs of a file without fault
abbrev pub digraphs_of : List ℕ → List PlainDigraph
digraphs_of bytes = digraphs_in (without_arc_header bytes)
