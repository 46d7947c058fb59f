-- What a command does to the output over the contents of its files, by how it ends.
use Rattle.std.specs.Prelude.{◌≡◌, ◌⊎◌, ℕ, List, Some, None, Result, Ok, Err}
use Rattle.std.specs.Io.KnownBytes.{Appends, Keeps}
use Rattle.md_io.specs.Count.{Rose}
use Rattle.md_top.specs.declared.request.Request.{Request}
use Rattle.md_top.specs.declared.stop.Verdict.{Verdict}
use Rattle.md_top.specs.declared.stop.Stop.{Stop}
use Rattle.md_top.specs.declared.stop.Stop.TheVariants.{Usage, BadInput, ReadFault, WriteFault, Memory, TooLong}
use Rattle.md_top.specs.Answer.{fault_of, IsAnswer, IsAnswerFront}
use Rattle.md_top.specs.Sinks.{SinkRun}

-- The contents are well-formed, and the output grew by a whole valid one.
pub record PutsAnswer (input : Request (List ℕ)) (verdict : Verdict) (o : SinkRun) : Type 0 where
  pub faultless : fault_of input ≡ None
  pub bytes : List ℕ
  pub answer : IsAnswer input verdict bytes
  pub put : Appends o.old o.new bytes

-- The contents are well-formed, and the output grew by the beginning of a valid one.
pub record PutsFront (input : Request (List ℕ)) (o : SinkRun) : Type 0 where
  pub faultless : fault_of input ≡ None
  pub bytes : List ℕ
  pub front : IsAnswerFront input bytes
  pub put : Appends o.old o.new bytes

-- A command stopped: at the first fault of its input, with nothing put; or within its output, where the count
-- of the output's faults rose or memory ran out.
abbrev pub CommandStops : Request (List ℕ) → Stop → SinkRun → Type 0
CommandStops input (BadInput fault) o = (fault_of input ≡ Some fault) × Keeps o.old o.new
CommandStops input WriteFault o = PutsFront input o × Rose o.faults_old o.faults_new
CommandStops input Memory o = Keeps o.old o.new ⊎ PutsFront input o
CommandStops input Usage o = ⊥
CommandStops input ReadFault o = ⊥
CommandStops input TooLong o = ⊥

-- A command put its whole output, or stopped.
abbrev pub CommandEnds : Request (List ℕ) → Result Verdict Stop → SinkRun → Type 0
CommandEnds input (Ok verdict) o = PutsAnswer input verdict o
CommandEnds input (Err stop) o = CommandStops input stop o
