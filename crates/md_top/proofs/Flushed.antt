-- An ending behind a flush of the output.
use Rattle.std.proofs.Common.{◌≡◌, ℕ, ◌≤◌, List, [], true, Option, Result, Ok, Err, is_ok, is_err, OnErr, refl, sym, subst, inl, inr, append-nil, arith}
use Rattle.std.specs.Io.KnownBytes.{Keeps}
use Rattle.std.proofs.KnownBytes.{Appends-kept, Keeps-trans}
use Rattle.md_io.specs.Count.{Rose}
use Rattle.md_io.specs.Told.{Told}
use Rattle.md_io.specs.declared.PutFault.{PutFault}
use Rattle.md_top.specs.declared.request.Request.{Request}
use Rattle.md_top.specs.declared.stop.Stop.{Stop}
use Rattle.md_top.specs.declared.stop.Stop.TheVariants as stops
use Rattle.md_top.specs.declared.stop.Verdict.{Verdict}
use Rattle.md_top.specs.declared.stop.Verdict.TheVariants as verdicts
use Rattle.md_top.specs.declared.stop.Status.{Status}
use Rattle.md_top.specs.declared.stop.Status.TheVariants.{Done, Rejected, Usage, BadInput, ReadFault, WriteFault, Memory, TooLong}
use Rattle.md_top.specs.Answer.{IsAnswer, IsAnswerFront}
use Rattle.md_top.specs.Input.{FilesRun}
use Rattle.md_top.specs.Sinks.{SinkRun, sink}
use Rattle.md_top.specs.Command.{PutsAnswer, PutsFront}
use Rattle.md_top.specs.Status.{status_of}
use Rattle.md_top.specs.Promise.{Puts, Ends}
use Rattle.md_top.proofs.Fronts.{fronts_begin_answers_proof}

-- a whole output is a beginning of itself
whole_front : (input : Request (List ℕ)) (verdict : Verdict) (bytes : List ℕ) → IsAnswer input verdict bytes → IsAnswerFront input bytes
whole_front input verdict bytes whole =
    (fronts_begin_answers_proof input bytes).1 (verdict, [], subst (IsAnswer input verdict) (sym (append-nil bytes)) whole)

-- the flush took and lost nothing of what the sink holds, and the count of faults didn't fall
module _ (old now new : Option (List ℕ)) (faults_old faults_now faults_new : ℕ) (keeps : Keeps now new) (more : faults_now ≤ faults_new) where
  abbrev before : SinkRun
  before = sink old now faults_old faults_now

  abbrev behind : SinkRun
  behind = sink old new faults_old faults_new

  answer_kept : (input : Request (List ℕ)) (verdict : Verdict) → PutsAnswer input verdict before → PutsAnswer input verdict behind
  answer_kept input verdict put =
      record { faultless = put.faultless; bytes = put.bytes; answer = put.answer; put = Appends-kept old now new put.bytes put.put keeps }

  front_kept : (input : Request (List ℕ)) → PutsFront input before → PutsFront input behind
  front_kept input put =
      record { faultless = put.faultless; bytes = put.bytes; front = put.front; put = Appends-kept old now new put.bytes put.put keeps }

  -- a whole output that the device didn't take whole
  front_left : (input : Request (List ℕ)) (verdict : Verdict) → PutsAnswer input verdict before → PutsFront input behind
  front_left input verdict put = record {
    faultless = put.faultless;
    bytes = put.bytes;
    front = whole_front input verdict put.bytes put.answer;
    put = Appends-kept old now new put.bytes put.put keeps;
  }

  puts_kept : (holds : List ℕ → Told) (request : Option (Request (List ℕ))) (status : Status) → Puts holds request status before → Puts holds request status behind
  puts_kept holds request Done put = (put.0, put.1, answer_kept put.0 verdicts.Done put.2)
  puts_kept holds request Rejected put = (put.0, put.1, answer_kept put.0 verdicts.Rejected put.2)
  puts_kept holds request WriteFault put = (put.0, put.1, front_kept put.0 put.2)
  puts_kept holds request Memory put = elim put [
    | inl none ↦ inl (Keeps-trans old now new none keeps)
    | inr some ↦ inr (some.0, some.1, front_kept some.0 some.2)
  ]
  puts_kept holds request Usage put = Keeps-trans old now new put keeps
  puts_kept holds request BadInput put = Keeps-trans old now new put keeps
  puts_kept holds request ReadFault put = Keeps-trans old now new put keeps
  puts_kept holds request TooLong put = Keeps-trans old now new put keeps

  rose_still : Rose faults_old faults_now → Rose faults_old faults_new
  rose_still rose = omega (arith, rose, more)

  -- the ending stays
  pub ends_still : (request : Option (Request (List ℕ))) (ending : Result Verdict Stop) (f : FilesRun) → Ends request ending f before → Ends request ending f behind
  ends_still request ending f ends = record {
    usage = ends.usage;
    asked = ends.asked;
    bad_input = ends.bad_input;
    bad_input_always = ends.bad_input_always;
    good_input = ends.good_input;
    rejected = ends.rejected;
    rejected_always = ends.rejected_always;
    read_fault = ends.read_fault;
    failing_load = ends.failing_load;
    write_fault = λ is. rose_still (ends.write_fault is);
    too_long = ends.too_long;
    sure = ends.sure;
    out = puts_kept f.holds request (status_of ending) ends.out;
    complete = λ input is faultless no_read no_write. ends.complete input is faultless no_read (λ rose. no_write (rose_still rose));
  }

  -- the flush failed behind a whole output
  pub ends_unwritten : (request : Option (Request (List ℕ))) (ending : Result Verdict Stop) (answer : Result (Unit {0}) PutFault) (f : FilesRun) → is_ok ending ≡ true → is_err answer ≡ true
      → faults_old ≤ faults_now → OnErr answer (Rose faults_now faults_new) → Ends request ending f before → Ends request (Err stops.WriteFault) f behind
  ends_unwritten request (Err stop) answer f whole failed below rose ends = absurd (cc)
  ends_unwritten request (Ok verdict) (Ok done) f whole failed below rose ends = absurd (cc)
  ends_unwritten request (Ok verdict) (Err fault) f whole failed below rose ends = by_verdict verdict ends
    where
      rose_behind : Rose faults_old faults_new
      rose_behind = omega (arith, rose, below)

      by_verdict : (verdict : Verdict) → Ends request (Ok verdict) f before → Ends request (Err stops.WriteFault) f behind
      by_verdict verdicts.Done ends = record {
        usage = ((λ u. cc), (λ n. let u = ends.usage.1 n in cc));
        asked = ends.asked;
        bad_input = λ fault is. cc;
        bad_input_always = λ input fault is faulty. elim (ends.bad_input_always input fault is faulty) [ inl b ↦ cc | inr (inl r) ↦ cc | inr (inr m) ↦ cc ];
        good_input = λ s. ends.good_input (inl refl);
        rejected = λ s. cc;
        rejected_always = λ input line is faultless has. inr (inr (inl refl));
        read_fault = λ s. cc;
        failing_load = λ rose. let is = ends.failing_load rose in cc;
        write_fault = λ s. rose_behind;
        too_long = λ s. cc;
        sure = λ s all. ((ends.sure s all).0, (ends.sure s all).1, λ r. cc);
        out = (ends.out.0, ends.out.1, front_left ends.out.0 verdicts.Done ends.out.2);
        complete = λ input is faultless no_read no_write. absurd (no_write rose_behind);
      }
      by_verdict verdicts.Rejected ends = record {
        usage = ((λ u. cc), (λ n. let u = ends.usage.1 n in cc));
        asked = ends.asked;
        bad_input = λ fault is. cc;
        bad_input_always = λ input fault is faulty. elim (ends.bad_input_always input fault is faulty) [ inl b ↦ cc | inr (inl r) ↦ cc | inr (inr m) ↦ cc ];
        good_input = λ s. ends.good_input (inr (inl refl));
        rejected = λ s. cc;
        rejected_always = λ input line is faultless has. inr (inr (inl refl));
        read_fault = λ s. cc;
        failing_load = λ rose. let is = ends.failing_load rose in cc;
        write_fault = λ s. rose_behind;
        too_long = λ s. cc;
        sure = λ s all. ((ends.sure s all).0, (ends.sure s all).1, λ r. cc);
        out = (ends.out.0, ends.out.1, front_left ends.out.0 verdicts.Rejected ends.out.2);
        complete = λ input is faultless no_read no_write. absurd (no_write rose_behind);
      }
