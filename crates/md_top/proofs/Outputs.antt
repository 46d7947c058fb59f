-- From an output that is put, whole or in part, to the ending of a command.
use Rattle.std.proofs.Common.{◌≡◌, ℕ, List, Option, None, Some, Result, Ok, Err, IsErrAnd, refl, sym, subst, inl, inr}
use Rattle.std.proofs.KnownBytes.{Keeps-refl}
use Rattle.std.specs.List.{flat_map}
use Rattle.std.specs.Io.KnownBytes.{Appends}
use Rattle.md_io.specs.Count.{Rose}
use Rattle.md_report.specs.Lines.{lines_text}
use Rattle.md_report.specs.Places.{after_end}
use Rattle.md_dcheck.specs.DirectedReports.{after_directed, fed_directed_line}
use Rattle.md_input.specs.declared.fault.Fault.{Fault}
use Rattle.md_input.specs.declared.fault.InputStop.{InputStop}
use Rattle.md_input.specs.declared.fault.InputStop.TheVariants as inputs
use Rattle.md_input.specs.Faults.{IsStopAt}
use Rattle.md_top.specs.declared.request.Request.{Request}
use Rattle.md_top.specs.declared.stop.PutStop.{PutStop}
use Rattle.md_top.specs.declared.stop.PutStop.TheVariants.{WriteFault, Memory}
use Rattle.md_top.specs.declared.stop.Stop.{Stop}
use Rattle.md_top.specs.declared.stop.Verdict.{Verdict}
use Rattle.md_top.specs.declared.stop.Verdict.TheVariants.{Done, Rejected}
use Rattle.md_checker.specs.declared.answer.CheckAnswer.{CheckAnswer}
use Rattle.md_top.specs.Starts.{Start, of_graphs, of_digraphs, IsReportFrom, IsFrontFrom, IsAnswerFrom}
use Rattle.md_top.specs.Answer.{fault_of, Output, text, report, answer, answer_text, verdict_of, Gives}
use Rattle.md_top.specs.Sinks.{SinkRun, sink, PutsWhole, PutsLines, PutsDirected}
use Rattle.md_top.specs.Status.{stop_of_put, stop_of_input}
use Rattle.md_top.specs.Command.{CommandEnds, PutsFront}

-- a report is put whole from there on, or the call stopped within it
abbrev pub PutsReport : Start → Result (Unit {0}) PutStop → SinkRun → Type 0
PutsReport (of_graphs p) result o = PutsLines p after_end result o
PutsReport (of_digraphs p) result o = PutsDirected p after_directed result o

-- what was put is then a whole report
report_put : (p : Start) (o : SinkRun) → PutsReport p (Ok tt) o → (bytes : List ℕ) × IsReportFrom p bytes × Appends o.old o.new bytes
report_put (of_graphs p) o put = (lines_text put.lines, record { lines = put.lines; leads = put.leads; text = refl }, put.put)
report_put (of_digraphs p) o put = (flat_map fed_directed_line put.lines, record { lines = put.lines; leads = put.leads; text = refl }, put.put)

-- or the front of one
report_begun : (p : Start) (o : SinkRun) → PutsReport p (Err Memory) o → (bytes : List ℕ) × IsFrontFrom p bytes × Appends o.old o.new bytes
report_begun (of_graphs p) o front = (front.bytes, front.front, front.put)
report_begun (of_digraphs p) o front = (front.bytes, front.front, front.put)

-- and the count of faults rose, where the output couldn't be written
report_failed : (p : Start) (o : SinkRun) → PutsReport p (Err WriteFault) o → PutsReport p (Err Memory) o × Rose o.faults_old o.faults_new
report_failed (of_graphs p) o put = (put.0, put.1)
report_failed (of_digraphs p) o put = (put.0, put.1)

-- an output with this verdict is put whole, or the call stopped within it
abbrev pub PutsOutput : Output → Verdict → Result (Unit {0}) PutStop → SinkRun → Type 0
PutsOutput (text whole) Done result o = PutsWhole whole result o
PutsOutput (text whole) Rejected result o = ⊥
PutsOutput (report p) Done result o = PutsReport p result o
PutsOutput (report p) Rejected result o = ⊥
PutsOutput (answer p bytes) verdict result o =
    (told : CheckAnswer) × IsAnswerFrom p bytes told × (verdict ≡ verdict_of told) × PutsWhole (answer_text told) result o

module _ (input : Request (List ℕ)) (output : Output) (gives : Gives input output) (faultless : fault_of input ≡ None) (o : SinkRun) where
  -- the whole output is put
  pub command_done : (verdict : Verdict) → PutsOutput output verdict (Ok tt) o → CommandEnds input (Ok verdict) o
  command_done = done_by output gives
    where
      done_by : (output : Output) → Gives input output → (verdict : Verdict) → PutsOutput output verdict (Ok tt) o → CommandEnds input (Ok verdict) o
      done_by (text whole) gives Done put =
          record { faultless = faultless; bytes = whole; answer = record { output = text whole; gives = gives; whole = refl }; put = put }
      done_by (text whole) gives Rejected put = absurd put
      done_by (report p) gives Done put =
          let whole = report_put p o put in
          record { faultless = faultless; bytes = whole.0; answer = record { output = report p; gives = gives; whole = whole.1 }; put = whole.2 }
      done_by (report p) gives Rejected put = absurd put
      done_by (answer p bytes) gives verdict put = record {
        faultless = faultless;
        bytes = answer_text put.0;
        answer = record { output = answer p bytes; gives = gives; whole = (put.0, put.1, put.2, refl) };
        put = put.3;
      }

  front_of : (output : Output) → Gives input output → (verdict : Verdict) → PutsOutput output verdict (Err Memory) o → PutsFront input o
  front_of (text whole) gives Done front =
      record { faultless = faultless; bytes = front.part; front = record { output = text whole; gives = gives; begun = (front.rest, front.whole) }; put = front.appended }
  front_of (text whole) gives Rejected front = absurd front
  front_of (report p) gives Done front =
      let begun = report_begun p o front in
      record { faultless = faultless; bytes = begun.0; front = record { output = report p; gives = gives; begun = begun.1 }; put = begun.2 }
  front_of (report p) gives Rejected front = absurd front
  front_of (answer p bytes) gives verdict front = record {
    faultless = faultless;
    bytes = front.3.part;
    front = record { output = answer p bytes; gives = gives; begun = (front.0, front.1, front.3.rest, front.3.whole) };
    put = front.3.appended;
  }

  stops_by : (output : Output) → Gives input output → (verdict : Verdict) (stop : PutStop) → PutsOutput output verdict (Err stop) o → CommandEnds input (Err (stop_of_put stop)) o
  stops_by (text whole) gives Done WriteFault put = (front_of (text whole) gives Done put.0, put.1)
  stops_by (text whole) gives Done Memory put = inr (front_of (text whole) gives Done put)
  stops_by (text whole) gives Rejected stop put = absurd put
  stops_by (report p) gives Done WriteFault put =
      let failed = report_failed p o put in (front_of (report p) gives Done failed.0, failed.1)
  stops_by (report p) gives Done Memory put = inr (front_of (report p) gives Done put)
  stops_by (report p) gives Rejected stop put = absurd put
  stops_by (answer p bytes) gives verdict WriteFault put =
      (front_of (answer p bytes) gives verdict (put.0, put.1, put.2, put.3.0), put.3.1)
  stops_by (answer p bytes) gives verdict Memory put = inr (front_of (answer p bytes) gives verdict put)

  -- the call that puts the output stopped, and its stop is handed on
  pub command_stopped : (verdict : Verdict) (stop : PutStop) (ending : Result Verdict Stop) → PutsOutput output verdict (Err stop) o → IsErrAnd ending (λ named. named ≡ stop_of_put stop) → CommandEnds input ending o
  command_stopped verdict stop (Ok said) put is = absurd is
  command_stopped verdict stop (Err named) put is =
      subst (λ (s : Stop). CommandEnds input (Err s) o) (sym is) (stops_by output gives verdict stop put)

-- an input isn't read, and its stop is handed on
pub command_refused : (input : Request (List ℕ)) (fault : Option Fault) (stop : InputStop) (ending : Result Verdict Stop) (old : Option (List ℕ)) (faults : ℕ) → ((named : Fault) → fault ≡ Some named → fault_of input ≡ Some named) → IsStopAt fault stop → IsErrAnd ending (λ named. named ≡ stop_of_input stop) → CommandEnds input ending (sink old old faults faults)
command_refused input fault stop (Ok verdict) old faults same at is = absurd is
command_refused input fault stop (Err named) old faults same at is =
    subst (λ (s : Stop). CommandEnds input (Err s) (sink old old faults faults)) (sym is) (refused_by stop at)
  where
    refused_by : (stop : InputStop) → IsStopAt fault stop → CommandEnds input (Err (stop_of_input stop)) (sink old old faults faults)
    refused_by (inputs.BadInput named) at = (same named at, Keeps-refl old)
    refused_by inputs.Memory at = inl (Keeps-refl old)
