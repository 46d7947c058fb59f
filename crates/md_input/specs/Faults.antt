-- The first fault of an input, in the order of work. Source: the faults of docs/FORMATS.md.
use Rattle.std.specs.Prelude.{◌≡◌, ℕ, nat_eq, Option, None, Some, List, length, if◌then◌else◌, ⊤}
use Rattle.std.specs.Option.{option_map, option_or}
use Rattle.md_graph.specs.declared.TheConstants.{NAMES}
use Rattle.md_graph6.specs.File as graph6
use Rattle.md_dimacs.specs.File as dimacs
use Rattle.md_script.specs.File as scripts
use Rattle.md_script.specs.declared.fault.ScriptFault.{ScriptFault}
use Rattle.md_script.specs.declared.fault.ScriptFault.TheVariants as script_faults
use Rattle.md_input.specs.declared.format.Format.{Format}
use Rattle.md_input.specs.declared.format.Format.TheVariants.{G6, Dimacs}
use Rattle.md_input.specs.declared.fault.Fault.{Fault}
use Rattle.md_input.specs.declared.fault.Fault.TheVariants as faults
use Rattle.md_input.specs.declared.fault.InputStop.{InputStop}
use Rattle.md_input.specs.declared.fault.InputStop.TheVariants.{BadInput, Memory}

-- the first fault of a graph file under a limit of names
abbrev pub graph_fault : ℕ → Format → List ℕ → Option Fault
graph_fault limit G6 bytes = option_map faults.Graph6 (graph6.first_fault limit bytes)
graph_fault limit Dimacs bytes = option_map faults.Dimacs (dimacs.first_fault limit bytes)

-- a graph file without fault has a number of graphs other than one
abbrev pub graph_count_fault : Format → List ℕ → Option Fault
graph_count_fault G6 bytes =
    if nat_eq (length (graph6.graphs_of bytes)) 1 then None
    else Some (faults.NotOneGraph (length (graph6.graphs_of bytes)))
graph_count_fault Dimacs bytes = None

-- the first fault of a graph file that is to have one graph, which may have all names
abbrev pub one_graph_fault : Format → List ℕ → Option Fault
one_graph_fault from graph = option_or (graph_fault NAMES from graph) (graph_count_fault from graph)

-- the first fault of a script
abbrev pub script_fault : List ℕ → Option Fault
script_fault bytes = option_map (λ f. faults.Script f.kind f.line) (scripts.first_fault bytes)

-- what stops reading, by what the reader of scripts answers
abbrev pub stop_of_script : ScriptFault → InputStop
stop_of_script (script_faults.Bad kind line) = BadInput (faults.Script kind line)
stop_of_script script_faults.Memory = Memory

-- reading stops at the fault of the input, or for want of memory
abbrev pub IsStopAt : Option Fault → InputStop → Type 0
IsStopAt fault (BadInput named) = fault ≡ Some named
IsStopAt fault Memory = ⊤
