-- What the top call promises of a run, whatever the forms are.
use Rattle.std.specs.Prelude.{◌≡◌, ◌≢◌, ◌⊎◌, ◌<◌, ℕ, Option, Some, None, List, [], IsTrue, Result, Err}
use Rattle.std.specs.Io.KnownBytes.{Keeps}
use Rattle.md_io.specs.Told.{Told}
use Rattle.md_io.specs.Count.{Rose}
use Rattle.md_input.specs.declared.fault.Fault.{Fault}
use Rattle.md_checker.specs.declared.answer.CheckAnswer.TheVariants as answers
use Rattle.md_top.specs.declared.request.Request.{Request}
use Rattle.md_top.specs.declared.stop.Verdict.{Verdict}
use Rattle.md_top.specs.declared.stop.Verdict.TheVariants as verdicts
use Rattle.md_top.specs.declared.stop.Stop.{Stop}
use Rattle.md_top.specs.declared.stop.Stop.TheVariants as stops
use Rattle.md_top.specs.declared.stop.Status.{Status}
use Rattle.md_top.specs.declared.stop.Status.TheVariants.{Done, Rejected, Usage, BadInput, ReadFault, WriteFault, Memory, TooLong}
use Rattle.md_top.specs.Input.{FilesRun, CanBeInput, IsInput, AllToldFiles, AsksInOrder, file_names}
use Rattle.md_top.specs.Answer.{fault_of, HasAnswer}
use Rattle.md_top.specs.Command.{PutsAnswer, PutsFront}
use Rattle.md_top.specs.Sinks.{SinkRun, TakesLine}
use Rattle.md_top.specs.Status.{status_of, fault_line, line_of_stop}

-- what is told lets the input be one of which this is true
abbrev pub CanBe : (List ℕ → Told) → Option (Request (List ℕ)) → (Request (List ℕ) → Type 0) → Type 0
CanBe holds request True = (input : Request (List ℕ)) × CanBeInput holds request input × True input

-- what is told lets the input have this fault as its first
abbrev pub CanBeBad : (List ℕ → Told) → Option (Request (List ℕ)) → Fault → Type 0
CanBeBad holds request fault = CanBe holds request (λ input. fault_of input ≡ Some fault)

-- what is told lets the input be well-formed
abbrev pub CanBeGood : (List ℕ → Told) → Option (Request (List ℕ)) → Type 0
CanBeGood holds request = CanBe holds request (λ input. fault_of input ≡ None)

-- what is told lets the input be a check that rejects its report at a line
abbrev pub CanBeRejected : (List ℕ → Told) → Option (Request (List ℕ)) → Type 0
CanBeRejected holds request = CanBe holds request (λ input. (line : ℕ) × HasAnswer input (answers.Rejected line))

-- What `out` took, by the status: a whole valid output of input that is told, or can be; or the beginning of one;
-- or nothing.
abbrev pub Puts : (List ℕ → Told) → Option (Request (List ℕ)) → Status → SinkRun → Type 0
Puts holds request Done o = CanBe holds request (λ input. PutsAnswer input verdicts.Done o)
Puts holds request Rejected o = CanBe holds request (λ input. PutsAnswer input verdicts.Rejected o)
Puts holds request WriteFault o = CanBe holds request (λ input. PutsFront input o)
Puts holds request Memory o = Keeps o.old o.new ⊎ CanBe holds request (λ input. PutsFront input o)
Puts holds request Usage o = Keeps o.old o.new
Puts holds request BadInput o = Keeps o.old o.new
Puts holds request ReadFault o = Keeps o.old o.new
Puts holds request TooLong o = Keeps o.old o.new

-- the line is that of a fault which the input can have as its first
pub record NamesFault (holds : List ℕ → Told) (request : Option (Request (List ℕ))) (line : List ℕ) : Type 0 where
  pub fault : Fault
  pub bad : CanBeBad holds request fault
  pub named : line ≡ fault_line fault

-- the line that `err` is given, by the status
abbrev pub IsLine : (List ℕ → Told) → Option (Request (List ℕ)) → Status → List ℕ → Type 0
IsLine holds request Done line = line ≡ []
IsLine holds request Rejected line = line ≡ []
IsLine holds request BadInput line = NamesFault holds request line
IsLine holds request Usage line = line ≡ line_of_stop stops.Usage
IsLine holds request ReadFault line = line ≡ line_of_stop stops.ReadFault
IsLine holds request WriteFault line = line ≡ line_of_stop stops.WriteFault
IsLine holds request Memory line = line ≡ line_of_stop stops.Memory
IsLine holds request TooLong line = line ≡ line_of_stop stops.TooLong

-- `err` took the line of the status, or a beginning of it where a count of `err` rose
pub record TakesLineOf (holds : List ℕ → Told) (request : Option (Request (List ℕ))) (status : Status) (e : SinkRun) (wants_old wants_new : ℕ) : Type 0 where
  pub line : List ℕ
  pub is : IsLine holds request status line
  pub takes : TakesLine line e wants_old wants_new

-- All of that of an ending, but for its line on `err`.
pub record Ends (request : Option (Request (List ℕ))) (ending : Result Verdict Stop) (f : FilesRun) (o : SinkRun) : Type 0 where
  pub usage : (status_of ending ≡ Usage → request ≡ None) × (request ≡ None → status_of ending ≡ Usage)
  pub asked : AsksInOrder f.holds f.asked_old f.asked_new (file_names request)
  pub bad_input : (fault : Fault) → ending ≡ Err (stops.BadInput fault) → CanBeBad f.holds request fault
  pub bad_input_always : (input : Request (List ℕ)) (fault : Fault)
      → IsInput f.holds request input → fault_of input ≡ Some fault
      → (status_of ending ≡ BadInput) ⊎ (status_of ending ≡ ReadFault) ⊎ (status_of ending ≡ Memory)
  pub good_input : (status_of ending ≡ Done) ⊎ (status_of ending ≡ Rejected) ⊎ (status_of ending ≡ WriteFault)
      → CanBeGood f.holds request
  pub rejected : status_of ending ≡ Rejected → CanBeRejected f.holds request
  pub rejected_always : (input : Request (List ℕ)) (line : ℕ)
      → IsInput f.holds request input → fault_of input ≡ None → HasAnswer input (answers.Rejected line)
      → (status_of ending ≡ Rejected) ⊎ (status_of ending ≡ ReadFault) ⊎ (status_of ending ≡ WriteFault)
      ⊎ (status_of ending ≡ Memory)
  pub read_fault : status_of ending ≡ ReadFault → Rose f.faults_old f.faults_new
  pub failing_load : f.faults_old < f.faults_new → status_of ending ≡ ReadFault
  pub write_fault : status_of ending ≡ WriteFault → Rose o.faults_old o.faults_new
  pub too_long : status_of ending ≡ TooLong → Rose f.overs_old f.overs_new
  pub sure : IsTrue f.sure_old → AllToldFiles f.holds (file_names request)
      → (f.faults_new ≡ f.faults_old) × IsTrue f.sure_new × (status_of ending ≢ ReadFault)
  pub out : Puts f.holds request (status_of ending) o
  pub complete : (input : Request (List ℕ))
      → IsInput f.holds request input → fault_of input ≡ None
      → ¬ Rose f.faults_old f.faults_new → ¬ Rose o.faults_old o.faults_new
      → (status_of ending ≡ Done) ⊎ (status_of ending ≡ Rejected) ⊎ (status_of ending ≡ Memory)
