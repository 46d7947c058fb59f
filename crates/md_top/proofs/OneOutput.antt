-- A request over contents gives one output; and what a check says by its verdict.
use Rattle.std.proofs.Common.{◌≡◌, ℕ, List, sym, ◌∙◌, ap, subst}
use Rattle.std.specs.List.{flat_map}
use Rattle.md_graph.specs.PlainGraph.{PlainGraph}
use Rattle.md_checker.specs.declared.answer.CheckAnswer.{CheckAnswer}
use Rattle.md_checker.specs.declared.answer.CheckAnswer.TheVariants as answers
use Rattle.md_top.specs.declared.big.Numbers.{Numbers}
use Rattle.md_top.specs.declared.request.Request.{Request}
use Rattle.md_top.specs.declared.request.Request.TheVariants.{Convert, Report, Check, Big}
use Rattle.md_top.specs.declared.stop.Verdict.TheVariants.{Done, Rejected}
use Rattle.md_top.specs.Starts.{Start, of_graphs, of_digraphs, IsAnswerFrom}
use Rattle.md_top.specs.Answer.{Output, text, report, answer, graph_text, verdict_of, Gives, HasAnswer, IsWhole, IsAnswer}
use Rattle.md_top.specs.Big.{numbers_line}
use Rattle.md_top.specs.Laws.{OneOutput}
use Rattle.md_top.proofs.Alike.{numbers_alike}
use Rattle.md_top.proofs.Beginnings.{graphs_alike, begin_alike}

pub one_output : OneOutput
one_output (Convert to from graph) a b ga gb =
    ga.2 ∙ ap (λ (graphs : List PlainGraph). text (flat_map (graph_text to) graphs)) (graphs_alike from graph ga.0 gb.0 ga.1 gb.1) ∙ sym gb.2
one_output (Report subject) a b ga gb = ga.2 ∙ ap report (begin_alike subject ga.0 gb.0 ga.1 gb.1) ∙ sym gb.2
one_output (Check subject bytes) a b ga gb = ga.2 ∙ ap (λ (p : Start). answer p bytes) (begin_alike subject ga.0 gb.0 ga.1 gb.1) ∙ sym gb.2
one_output (Big size) a b ga gb =
    ga.2 ∙ ap (λ (n : Numbers). text (numbers_line n)) (numbers_alike size ga.0 gb.0 ga.1 gb.1) ∙ sym gb.2

-- where a report is rejected, Done isn't what a whole output says
accepted_not_rejected : (p : Start) (bytes : List ℕ) (line : ℕ) (told : CheckAnswer) → IsAnswerFrom p bytes (answers.Rejected line) → IsAnswerFrom p bytes told → Done ≡ verdict_of told → ⊥
accepted_not_rejected (of_graphs p) bytes line answers.Accepted rejected is said = rejected.0 is
accepted_not_rejected (of_digraphs p) bytes line answers.Accepted rejected is said = rejected.0 is
accepted_not_rejected p bytes line (answers.Rejected other) rejected is said = cc

pub not_done : (input : Request (List ℕ)) (line : ℕ) (bytes : List ℕ) → HasAnswer input (answers.Rejected line) → IsAnswer input Done bytes → ⊥
not_done input line bytes has is =
    let same : is.output ≡ answer has.0 has.1 = one_output input is.output (answer has.0 has.1) is.gives has.2 in
    let whole : IsWhole (answer has.0 has.1) Done bytes = subst (λ (o : Output). IsWhole o Done bytes) same is.whole in
    accepted_not_rejected has.0 has.1 line whole.0 has.3 whole.1 whole.2

-- a whole output that says Rejected is the answer of a check
rejected_told : (input : Request (List ℕ)) (p : Start) (bytes : List ℕ) → Gives input (answer p bytes) → (told : CheckAnswer) → IsAnswerFrom p bytes told → Rejected ≡ verdict_of told → (line : ℕ) × HasAnswer input (answers.Rejected line)
rejected_told input p bytes gives answers.Accepted is said = cc
rejected_told input p bytes gives (answers.Rejected line) is said = (line, (p, bytes, gives, is))

rejected_by : (input : Request (List ℕ)) (output : Output) → Gives input output → (bytes : List ℕ) → IsWhole output Rejected bytes → (line : ℕ) × HasAnswer input (answers.Rejected line)
rejected_by input (text whole) gives bytes is = absurd is
rejected_by input (report p) gives bytes is = absurd is
rejected_by input (answer p judged) gives bytes is = rejected_told input p judged gives is.0 is.1 is.2

pub rejected_answer : (input : Request (List ℕ)) (bytes : List ℕ) → IsAnswer input Rejected bytes → (line : ℕ) × HasAnswer input (answers.Rejected line)
rejected_answer input bytes is = rejected_by input is.output is.gives bytes is.whole
