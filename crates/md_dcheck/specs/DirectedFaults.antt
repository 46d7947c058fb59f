-- The first fault of a digraph6 file, as one of an input.
-- Source: the faults of docs/FORMATS.md.
use Rattle.std.specs.Prelude.{ℕ, List, Option}
use Rattle.std.specs.Option.{option_map}
use Rattle.md_digraph6.specs.ArcFile.{first_arc_fault}
use Rattle.md_input.specs.declared.fault.Fault.{Fault}
use Rattle.md_input.specs.declared.fault.Fault.TheVariants as faults

-- the first fault of a digraph6 file
abbrev pub digraph_fault : List ℕ → Option Fault
digraph_fault bytes = option_map faults.Graph6 (first_arc_fault bytes)
