-- The output of a request over given contents, whole or begun, and what is wrong with the contents.
-- Here the contents stand in the request in place of the names. Source: the formats and reports of docs/FORMATS.md.
use Rattle.std.specs.Prelude.{◌≡◌, ℕ, Option, None, List, ◌++◌, codes}
use Rattle.std.specs.List.{flat_map}
use Rattle.md_text.specs.Numbers.{decimal}
use Rattle.md_graph.specs.declared.TheConstants.{NAMES}
use Rattle.md_graph.specs.PlainGraph.{PlainGraph}
use Rattle.md_graph6.specs.Text.{graph6_text}
use Rattle.md_dimacs.specs.Text.{dimacs_text}
use Rattle.md_input.specs.declared.format.Format.{Format}
use Rattle.md_input.specs.declared.format.Format.TheVariants.{G6, Dimacs}
use Rattle.md_input.specs.declared.fault.Fault.{Fault}
use Rattle.md_input.specs.Spelling.{SpellsGraphs}
use Rattle.md_input.specs.Faults.{graph_fault}
use Rattle.md_checker.specs.declared.answer.CheckAnswer.{CheckAnswer}
use Rattle.md_checker.specs.declared.answer.CheckAnswer.TheVariants as answers
use Rattle.md_top.specs.declared.big.Numbers.{Numbers}
use Rattle.md_top.specs.declared.request.Request.{Request}
use Rattle.md_top.specs.declared.request.Request.TheVariants.{Convert, Report, Check, Big}
use Rattle.md_top.specs.declared.stop.Verdict.{Verdict}
use Rattle.md_top.specs.declared.stop.Verdict.TheVariants.{Done, Rejected}
use Rattle.md_top.specs.Starts.{Start, IsReportFrom, IsFrontFrom, IsAnswerFrom}
use Rattle.md_top.specs.Subject.{subject_fault, BeginsAt}
use Rattle.md_top.specs.Big.{AreNumbersOf, numbers_line}

-- the first cause of bad input, none where the input is well-formed
abbrev pub fault_of : Request (List ℕ) → Option Fault
fault_of (Convert to from graph) = graph_fault NAMES from graph
fault_of (Report subject) = subject_fault subject
fault_of (Check subject report) = subject_fault subject
fault_of (Big size) = None

-- the text of a graph in a format
abbrev pub graph_text : Format → PlainGraph → List ℕ
graph_text G6 g = graph6_text g
graph_text Dimacs g = dimacs_text g

-- the text of the answer of a check
abbrev pub answer_text : CheckAnswer → List ℕ
answer_text answers.Accepted = codes "accepted\n"
answer_text (answers.Rejected line) = codes "rejected line " ++ decimal line ++ codes "\n"

-- what the answer of a check says of the run
abbrev pub verdict_of : CheckAnswer → Verdict
verdict_of answers.Accepted = Done
verdict_of (answers.Rejected line) = Rejected

-- What is put: a text; or a report from where it begins to the end; or the answer of checking bytes as such a report.
pub data Output : Type 0 where
  text : List ℕ → Output
  report : Start → Output
  answer : Start → List ℕ → Output

-- the request over these contents gives the output: the texts of the graphs, one after the other; the report over a
-- subject; the answer of checking it; the numbers of a session
abbrev pub Gives : Request (List ℕ) → Output → Type 0
Gives (Convert to from graph) output =
    (graphs : List PlainGraph) × SpellsGraphs from graph graphs × (output ≡ text (flat_map (graph_text to) graphs))
Gives (Report subject) output = (p : Start) × BeginsAt subject p × (output ≡ report p)
Gives (Check subject bytes) output = (p : Start) × BeginsAt subject p × (output ≡ answer p bytes)
Gives (Big size) output = (n : Numbers) × AreNumbersOf size n × (output ≡ text (numbers_line n))

-- the request over these contents is a check with this answer
abbrev pub HasAnswer : Request (List ℕ) → CheckAnswer → Type 0
HasAnswer input told = (p : Start) × (bytes : List ℕ) × Gives input (answer p bytes) × IsAnswerFrom p bytes told

-- the bytes are the whole output, with its verdict
abbrev pub IsWhole : Output → Verdict → List ℕ → Type 0
IsWhole (text whole) Done bytes = bytes ≡ whole
IsWhole (text whole) Rejected bytes = ⊥
IsWhole (report p) Done bytes = IsReportFrom p bytes
IsWhole (report p) Rejected bytes = ⊥
IsWhole (answer p judged) verdict bytes =
    (told : CheckAnswer) × IsAnswerFrom p judged told × (verdict ≡ verdict_of told) × (bytes ≡ answer_text told)

-- the bytes are a beginning of the output; of a report by its lines
abbrev pub IsBeginning : Output → List ℕ → Type 0
IsBeginning (text whole) bytes = (rest : List ℕ) × (whole ≡ bytes ++ rest)
IsBeginning (report p) bytes = IsFrontFrom p bytes
IsBeginning (answer p judged) bytes =
    (told : CheckAnswer) × IsAnswerFrom p judged told × (rest : List ℕ) × (answer_text told ≡ bytes ++ rest)

-- a whole valid output with its verdict
pub record IsAnswer (input : Request (List ℕ)) (verdict : Verdict) (bytes : List ℕ) : Type 0 where
  pub output : Output
  pub gives : Gives input output
  pub whole : IsWhole output verdict bytes

-- the beginning of a whole valid output
pub record IsAnswerFront (input : Request (List ℕ)) (bytes : List ℕ) : Type 0 where
  pub output : Output
  pub gives : Gives input output
  pub begun : IsBeginning output bytes
