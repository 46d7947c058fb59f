-- How a run ends, and the line that it writes for that.
use Rattle.std.specs.Prelude.{ℕ, List, [], ◌++◌, codes, Result, Ok, Err}
use Rattle.md_text.specs.Numbers.{decimal}
use Rattle.md_graph6.specs.declared.fault.G6Kind.{G6Kind}
use Rattle.md_graph6.specs.declared.fault.G6Kind.TheVariants as g6
use Rattle.md_dimacs.specs.declared.fault.DimacsKind.{DimacsKind}
use Rattle.md_dimacs.specs.declared.fault.DimacsKind.TheVariants as dimacs
use Rattle.md_script.specs.declared.fault.ScriptKind.{ScriptKind}
use Rattle.md_script.specs.declared.fault.ScriptKind.TheVariants as script
use Rattle.md_io.specs.declared.LoadFault.{LoadFault}
use Rattle.md_io.specs.declared.LoadFault.TheVariants as loads
use Rattle.md_io.specs.declared.PutFault.{PutFault}
use Rattle.md_io.specs.declared.PutFault.TheVariants as put_faults
use Rattle.md_input.specs.declared.fault.Fault.{Fault}
use Rattle.md_input.specs.declared.fault.Fault.TheVariants.{Graph6, Dimacs, NotOneGraph, Script}
use Rattle.md_input.specs.declared.fault.InputStop.{InputStop}
use Rattle.md_input.specs.declared.fault.InputStop.TheVariants as inputs
use Rattle.md_top.specs.declared.stop.PutStop.{PutStop}
use Rattle.md_top.specs.declared.stop.PutStop.TheVariants as puts
use Rattle.md_top.specs.declared.stop.Stop.{Stop}
use Rattle.md_top.specs.declared.stop.Stop.TheVariants as stops
use Rattle.md_top.specs.declared.stop.Verdict.{Verdict}
use Rattle.md_top.specs.declared.stop.Verdict.TheVariants as verdicts
use Rattle.md_top.specs.declared.stop.Status.{Status}
use Rattle.md_top.specs.declared.stop.Status.TheVariants.{Done, Rejected, Usage, BadInput, ReadFault, WriteFault, Memory, TooLong}

-- what stops a put, by the sink's own fault
abbrev pub stop_of_fault : PutFault → PutStop
stop_of_fault put_faults.Failed = puts.WriteFault
stop_of_fault put_faults.Memory = puts.Memory

-- what stops a run, where it is a load, an input or a put that stops
abbrev pub stop_of_load : LoadFault → Stop
stop_of_load loads.Failed = stops.ReadFault
stop_of_load loads.TooLong = stops.TooLong
stop_of_load loads.Memory = stops.Memory

abbrev pub stop_of_input : InputStop → Stop
stop_of_input (inputs.BadInput fault) = stops.BadInput fault
stop_of_input inputs.Memory = stops.Memory

abbrev pub stop_of_put : PutStop → Stop
stop_of_put puts.WriteFault = stops.WriteFault
stop_of_put puts.Memory = stops.Memory

-- the status of what stops a run
abbrev pub status_of_stop : Stop → Status
status_of_stop stops.Usage = Usage
status_of_stop (stops.BadInput fault) = BadInput
status_of_stop stops.ReadFault = ReadFault
status_of_stop stops.WriteFault = WriteFault
status_of_stop stops.Memory = Memory
status_of_stop stops.TooLong = TooLong

-- the status of what a whole output says
abbrev pub status_of_verdict : Verdict → Status
status_of_verdict verdicts.Done = Done
status_of_verdict verdicts.Rejected = Rejected

-- the status of an ending
abbrev pub status_of : Result Verdict Stop → Status
status_of (Ok verdict) = status_of_verdict verdict
status_of (Err stop) = status_of_stop stop

-- the exit code of the program, by the status. Source: 0 is success, other small numbers tell why.
abbrev pub exit_number : Status → ℕ
exit_number Done = 0
exit_number Rejected = 1
exit_number Usage = 2
exit_number BadInput = 3
exit_number ReadFault = 4
exit_number WriteFault = 5
exit_number Memory = 6
exit_number TooLong = 7

-- a kind of fault by its name
abbrev pub g6_name : G6Kind → List ℕ
g6_name g6.BadByte = codes "BadByte"
g6_name g6.BadSize = codes "BadSize"
g6_name g6.TooManyVertices = codes "TooManyVertices"
g6_name g6.Truncated = codes "Truncated"
g6_name g6.TrailingBytes = codes "TrailingBytes"
g6_name g6.BadPadding = codes "BadPadding"
g6_name g6.OtherFormat = codes "OtherFormat"
g6_name g6.Loop = codes "Loop"

abbrev pub dimacs_name : DimacsKind → List ℕ
dimacs_name dimacs.NoProblemLine = codes "NoProblemLine"
dimacs_name dimacs.SecondProblemLine = codes "SecondProblemLine"
dimacs_name dimacs.EdgeBeforeProblem = codes "EdgeBeforeProblem"
dimacs_name dimacs.BadNumber = codes "BadNumber"
dimacs_name dimacs.VertexOutOfRange = codes "VertexOutOfRange"
dimacs_name dimacs.Loop = codes "Loop"
dimacs_name dimacs.UnknownLine = codes "UnknownLine"
dimacs_name dimacs.TooManyVertices = codes "TooManyVertices"
dimacs_name dimacs.FieldCount = codes "FieldCount"

abbrev pub script_name : ScriptKind → List ℕ
script_name script.UnknownEdit = codes "UnknownEdit"
script_name script.FieldCount = codes "FieldCount"
script_name script.BadNumber = codes "BadNumber"
script_name script.NameTooLarge = codes "NameTooLarge"
script_name script.TooManyEdits = codes "TooManyEdits"
script_name script.Nested = codes "Nested"
script_name script.NoGroup = codes "NoGroup"
script_name script.OpenGroup = codes "OpenGroup"

-- the line that names a fault of the graph file
abbrev pub graph_fault_line : List ℕ → ℕ → List ℕ
graph_fault_line name line = codes "mdt: graph " ++ name ++ codes " line " ++ decimal line ++ codes "\n"

-- the line that names a fault of the script
abbrev pub script_fault_line : List ℕ → ℕ → List ℕ
script_fault_line name line = codes "mdt: script " ++ name ++ codes " line " ++ decimal line ++ codes "\n"

-- the line that names a fault
abbrev pub fault_line : Fault → List ℕ
fault_line (Graph6 fault) = graph_fault_line (g6_name fault.kind) fault.line
fault_line (Dimacs fault) = graph_fault_line (dimacs_name fault.kind) fault.line
fault_line (NotOneGraph count) = codes "mdt: graph NotOneGraph count " ++ decimal count ++ codes "\n"
fault_line (Script kind line) = script_fault_line (script_name kind) line

-- the line of what stops a run
abbrev pub line_of_stop : Stop → List ℕ
line_of_stop stops.Usage = codes "mdt: usage\n"
line_of_stop (stops.BadInput fault) = fault_line fault
line_of_stop stops.ReadFault = codes "mdt: read fault\n"
line_of_stop stops.WriteFault = codes "mdt: write fault\n"
line_of_stop stops.Memory = codes "mdt: memory\n"
line_of_stop stops.TooLong = codes "mdt: too long\n"

-- the line of an ending, none where the output is whole
abbrev pub line_of : Result Verdict Stop → List ℕ
line_of (Ok verdict) = []
line_of (Err stop) = line_of_stop stop
