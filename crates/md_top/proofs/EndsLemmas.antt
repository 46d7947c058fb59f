-- What an ending says of a run, behind its loads.
use Rattle.std.proofs.Common.{◌≡◌, ◌≢◌, ◌⊎◌, ℕ, ◌<◌, Bool, IsTrue, List, [], ◌∷◌, Option, None, Some, Result, IsErrAnd, Ok, Err, refl, sym, ◌∙◌, ap, ap₂, subst, inl, inr, arith}
use Rattle.std.specs.Io.KnownBytes.{Keeps}
use Rattle.md_io.specs.Told.{Told, IsToldAs}
use Rattle.md_io.specs.declared.LoadFault.{LoadFault}
use Rattle.md_io.specs.declared.LoadFault.TheVariants as loads
use Rattle.md_input.specs.declared.fault.Fault.{Fault}
use Rattle.md_top.specs.declared.request.Request.{Request}
use Rattle.md_top.specs.declared.stop.Stop.{Stop}
use Rattle.md_top.specs.declared.stop.Stop.TheVariants.{Usage, BadInput, ReadFault, WriteFault, Memory, TooLong}
use Rattle.md_top.specs.declared.stop.Status.{Status}
use Rattle.md_top.specs.declared.stop.Status.TheVariants as statuses
use Rattle.md_top.specs.declared.stop.Verdict.{Verdict}
use Rattle.md_top.specs.declared.stop.Verdict.TheVariants.{Done, Rejected}
use Rattle.md_checker.specs.declared.answer.CheckAnswer.TheVariants as answers
use Rattle.md_top.specs.Request.{files_of, with_files}
use Rattle.md_top.specs.Input.{FilesRun, AreToldAs, AreFiles, AllToldFiles, CanBeInput, IsInput, AsksInOrder, file_names}
use Rattle.md_top.specs.Loading.{Loads, StopsLoading}
use Rattle.md_top.specs.Answer.{fault_of, HasAnswer}
use Rattle.md_top.specs.Sinks.{SinkRun}
use Rattle.md_top.specs.Command.{CommandEnds}
use Rattle.md_top.specs.Status.{status_of, status_of_verdict, status_of_stop, line_of_stop, stop_of_load}
use Rattle.md_top.specs.Promise.{CanBeBad, IsLine, Ends}
use Rattle.md_top.proofs.OneOutput.{not_done, rejected_answer}
use Rattle.md_top.proofs.Loads.{none_asked, all_asked}

-- a run that stops at bad input names a fault
pub stops_at_fault : (stop : Stop) (request : Option (Request (List ℕ))) (f : FilesRun) (o : SinkRun) → Ends request (Err stop) f o → status_of_stop stop ≡ statuses.BadInput → (fault : Fault) × CanBeBad f.holds request fault
stops_at_fault Usage request f o ends is = cc
stops_at_fault (BadInput fault) request f o ends is = (fault, ends.bad_input fault refl)
stops_at_fault ReadFault request f o ends is = cc
stops_at_fault WriteFault request f o ends is = cc
stops_at_fault Memory request f o ends is = cc
stops_at_fault TooLong request f o ends is = cc

-- its line is that of what stopped it
stop_line : (stop : Stop) (request : Option (Request (List ℕ))) (f : FilesRun) (o : SinkRun) → Ends request (Err stop) f o → IsLine f.holds request (status_of_stop stop) (line_of_stop stop)
stop_line Usage request f o ends = refl
stop_line (BadInput fault) request f o ends = record { fault = fault; bad = ends.bad_input fault refl; named = refl }
stop_line ReadFault request f o ends = refl
stop_line WriteFault request f o ends = refl
stop_line Memory request f o ends = refl
stop_line TooLong request f o ends = refl

pub line_told : (stop : Stop) (request : Option (Request (List ℕ))) (f : FilesRun) (o : SinkRun) → Ends request (Err stop) f o → (status : Status) → status ≡ status_of_stop stop → IsLine f.holds request status (line_of_stop stop)
line_told stop request f o ends status same = subst (λ s. IsLine f.holds request s (line_of_stop stop)) (sym same) (stop_line stop request f o ends)

-- a whole output has no line
no_line : (verdict : Verdict) (holds : List ℕ → Told) (request : Option (Request (List ℕ))) → IsLine holds request (status_of_verdict verdict) []
no_line Done holds request = refl
no_line Rejected holds request = refl

pub no_line_told : (verdict : Verdict) (holds : List ℕ → Told) (request : Option (Request (List ℕ))) (status : Status) → status ≡ status_of_verdict verdict → IsLine holds request status []
no_line_told verdict holds request status same = subst (λ s. IsLine holds request s []) (sym same) (no_line verdict holds request)

-- what always comes of an ending, told of its status
module _ (request : Option (Request (List ℕ))) (ending : Result Verdict Stop) (f : FilesRun) (o : SinkRun) (ends : Ends request ending f o) (status : Status) (same : status ≡ status_of ending) where
  pub bad_always : (input : Request (List ℕ)) (fault : Fault) → IsInput f.holds request input → fault_of input ≡ Some fault →
      (status ≡ statuses.BadInput) ⊎ (status ≡ statuses.ReadFault) ⊎ (status ≡ statuses.Memory)
  bad_always input fault is faulty =
      subst (λ s. (s ≡ statuses.BadInput) ⊎ (s ≡ statuses.ReadFault) ⊎ (s ≡ statuses.Memory)) (sym same) (ends.bad_input_always input fault is faulty)

  pub rejected_always : (input : Request (List ℕ)) (line : ℕ) → IsInput f.holds request input → fault_of input ≡ None → HasAnswer input (answers.Rejected line) →
      (status ≡ statuses.Rejected) ⊎ (status ≡ statuses.ReadFault) ⊎ (status ≡ statuses.WriteFault) ⊎ (status ≡ statuses.Memory)
  rejected_always input line is faultless has =
      subst (λ s. (s ≡ statuses.Rejected) ⊎ (s ≡ statuses.ReadFault) ⊎ (s ≡ statuses.WriteFault) ⊎ (s ≡ statuses.Memory)) (sym same)
      (ends.rejected_always input line is faultless has)

-- a run over words in no form
module _ (request : Option (Request (List ℕ))) (none : request ≡ None) (holds : List ℕ → Told) (asked : List (List ℕ)) (faults overs : ℕ) (sure : Bool) (o : SinkRun) (keeps : Keeps o.old o.new) where
  abbrev untouched : FilesRun
  untouched = record {
    holds = holds;
    asked_old = asked;
    asked_new = asked;
    faults_old = faults;
    faults_new = faults;
    overs_old = overs;
    overs_new = overs;
    sure_old = sure;
    sure_new = sure;
  }

  no_form : (input : Request (List ℕ)) → IsInput holds request input → ⊥
  no_form input is = let form = is.is in cc

  pub ends_at_usage : Ends request (Err Usage) untouched o
  ends_at_usage = record {
    usage = ((λ u. none), (λ n. refl));
    asked = subst (λ (r : Option (Request (List ℕ))). AsksInOrder holds asked asked (file_names r)) (sym none) (none_asked holds asked);
    bad_input = λ fault is. cc;
    bad_input_always = λ input fault is faulty. absurd (no_form input is);
    good_input = λ s. elim s [ inl d ↦ cc | inr (inl r) ↦ cc | inr (inr w) ↦ cc ];
    rejected = λ s. cc;
    rejected_always = λ input line is faultless has. absurd (no_form input is);
    read_fault = λ s. cc;
    failing_load = λ rose. absurd (omega (arith, rose));
    write_fault = λ s. cc;
    too_long = λ s. cc;
    sure = λ s all. (refl, s, λ r. cc);
    out = keeps;
    complete = λ input is faultless no_read no_write. absurd (no_form input is);
  }

-- the files of one request have one list of contents
same_contents : (holds : List ℕ → Told) (names contents others : List (List ℕ)) → AreToldAs holds names contents → AreFiles holds names others → contents ≡ others
same_contents holds [] [] [] told files = refl
same_contents holds [] [] (bytes ∷ others) told files = absurd files
same_contents holds [] (bytes ∷ contents) others told files = absurd told
same_contents holds (name ∷ names) [] others told files = absurd told
same_contents holds (name ∷ names) (bytes ∷ contents) [] told files = absurd files
same_contents holds (name ∷ names) (bytes ∷ contents) (other ∷ others) told files =
    ap₂ (λ (b : List ℕ) (c : List (List ℕ)). b ∷ c)
    (subst (λ t. IsToldAs t bytes) files.0 told.0)
    (same_contents holds names contents others told.2 files.2)

-- an ending behind the loads of all files of a request
module _ (asked : Request (List ℕ)) (contents : List (List ℕ)) (input : Request (List ℕ)) (filled : with_files asked contents ≡ Some input)
    (f : FilesRun) (o : SinkRun) (loaded : Loads f (files_of asked) contents) where
  one_input : (other : Request (List ℕ)) → IsInput f.holds (Some asked) other → other ≡ input
  one_input other is =
      let same : asked ≡ is.asked = cc in
      let files : AreFiles f.holds (files_of asked) is.contents = subst (λ (r : Request (List ℕ)). AreFiles f.holds (files_of r) is.contents) (sym same) is.files in
      let alike : contents ≡ is.contents = same_contents f.holds (files_of asked) contents is.contents loaded.told files in
      let equal : with_files asked contents ≡ with_files is.asked is.contents =
      ap₂ (λ (r : Request (List ℕ)) (c : List (List ℕ)). with_files r c) same alike in
      cc

  same_fault : (other : Request (List ℕ)) → IsInput f.holds (Some asked) other → fault_of other ≡ fault_of input
  same_fault other is = ap (λ (r : Request (List ℕ)). fault_of r) (one_input other is)

  can_be : CanBeInput f.holds (Some asked) input
  can_be = record { asked = asked; contents = contents; is = refl; told = loaded.told; filled = filled }

  in_order : AsksInOrder f.holds f.asked_old f.asked_new (files_of asked)
  in_order = all_asked f (files_of asked) contents loaded

  not_none : {fault : Fault} → ◌≡◌ {A = Option Fault} None (Some fault) → ⊥
  not_none is = cc

  none_failed : f.faults_old < f.faults_new → ⊥
  none_failed rose = omega (arith, loaded.faults, rose)

  pub ends_of_command : (ending : Result Verdict Stop) → CommandEnds input ending o → Ends (Some asked) ending f o
  ends_of_command (Ok Done) ends = record {
    usage = ((λ u. cc), (λ n. cc));
    asked = in_order;
    bad_input = λ fault is. cc;
    bad_input_always = λ other fault is faulty. absurd (not_none (sym ends.faultless ∙ sym (same_fault other is) ∙ faulty));
    good_input = λ s. (input, can_be, ends.faultless);
    rejected = λ s. cc;
    rejected_always = λ other line is faultless has.
        absurd (not_done input line ends.bytes (subst (λ (r : Request (List ℕ)). HasAnswer r (answers.Rejected line)) (one_input other is) has) ends.answer);
    read_fault = λ s. cc;
    failing_load = λ rose. absurd (none_failed rose);
    write_fault = λ s. cc;
    too_long = λ s. cc;
    sure = λ s all. ((loaded.sure s all).0, (loaded.sure s all).1, λ r. cc);
    out = (input, can_be, ends);
    complete = λ other is faultless no_read no_write. inl refl;
  }
  ends_of_command (Ok Rejected) ends = record {
    usage = ((λ u. cc), (λ n. cc));
    asked = in_order;
    bad_input = λ fault is. cc;
    bad_input_always = λ other fault is faulty. absurd (not_none (sym ends.faultless ∙ sym (same_fault other is) ∙ faulty));
    good_input = λ s. (input, can_be, ends.faultless);
    rejected = λ s. (input, can_be, rejected_answer input ends.bytes ends.answer);
    rejected_always = λ other line is faultless has. inl refl;
    read_fault = λ s. cc;
    failing_load = λ rose. absurd (none_failed rose);
    write_fault = λ s. cc;
    too_long = λ s. cc;
    sure = λ s all. ((loaded.sure s all).0, (loaded.sure s all).1, λ r. cc);
    out = (input, can_be, ends);
    complete = λ other is faultless no_read no_write. inr (inl refl);
  }
  ends_of_command (Err Usage) ends = absurd ends
  ends_of_command (Err (BadInput fault)) ends = record {
    usage = ((λ u. cc), (λ n. cc));
    asked = in_order;
    bad_input = λ named is. (input, can_be, cc);
    bad_input_always = λ other named is faulty. inl refl;
    good_input = λ s. elim s [ inl d ↦ cc | inr (inl r) ↦ cc | inr (inr w) ↦ cc ];
    rejected = λ s. cc;
    rejected_always = λ other line is faultless has. absurd (not_none (sym faultless ∙ same_fault other is ∙ ends.0));
    read_fault = λ s. cc;
    failing_load = λ rose. absurd (none_failed rose);
    write_fault = λ s. cc;
    too_long = λ s. cc;
    sure = λ s all. ((loaded.sure s all).0, (loaded.sure s all).1, λ r. cc);
    out = ends.1;
    complete = λ other is faultless no_read no_write. absurd (not_none (sym faultless ∙ same_fault other is ∙ ends.0));
  }
  ends_of_command (Err ReadFault) ends = absurd ends
  ends_of_command (Err WriteFault) ends = record {
    usage = ((λ u. cc), (λ n. cc));
    asked = in_order;
    bad_input = λ fault is. cc;
    bad_input_always = λ other fault is faulty. absurd (not_none (sym ends.0.faultless ∙ sym (same_fault other is) ∙ faulty));
    good_input = λ s. (input, can_be, ends.0.faultless);
    rejected = λ s. cc;
    rejected_always = λ other line is faultless has. inr (inr (inl refl));
    read_fault = λ s. cc;
    failing_load = λ rose. absurd (none_failed rose);
    write_fault = λ s. ends.1;
    too_long = λ s. cc;
    sure = λ s all. ((loaded.sure s all).0, (loaded.sure s all).1, λ r. cc);
    out = (input, can_be, ends.0);
    complete = λ other is faultless no_read no_write. absurd (no_write ends.1);
  }
  ends_of_command (Err Memory) ends = record {
    usage = ((λ u. cc), (λ n. cc));
    asked = in_order;
    bad_input = λ fault is. cc;
    bad_input_always = λ other fault is faulty. inr (inr refl);
    good_input = λ s. elim s [ inl d ↦ cc | inr (inl r) ↦ cc | inr (inr w) ↦ cc ];
    rejected = λ s. cc;
    rejected_always = λ other line is faultless has. inr (inr (inr refl));
    read_fault = λ s. cc;
    failing_load = λ rose. absurd (none_failed rose);
    write_fault = λ s. cc;
    too_long = λ s. cc;
    sure = λ s all. ((loaded.sure s all).0, (loaded.sure s all).1, λ r. cc);
    out = elim ends [ inl kept ↦ inl kept | inr front ↦ inr (input, can_be, front) ];
    complete = λ other is faultless no_read no_write. inr (inr refl);
  }
  ends_of_command (Err TooLong) ends = absurd ends

-- an ending at a load of a file of a request
module _ (asked : Request (List ℕ)) (f : FilesRun) (stop : Stop) (stops : StopsLoading f (files_of asked) stop) (o : SinkRun) (keeps : Keeps o.old o.new) where
  no_input : stops.fault ≡ loads.TooLong → (other : Request (List ℕ)) → IsInput f.holds (Some asked) other → ⊥
  no_input longer other is =
      let one : asked ≡ is.asked = cc in
      (stops.too_long longer).1 is.contents (subst (λ (r : Request (List ℕ)). AreFiles f.holds (files_of r) is.contents) (sym one) is.files)

  none_failed_there : stops.fault ≢ loads.Failed → f.faults_old < f.faults_new → ⊥
  none_failed_there other rose = omega (arith, stops.faults_only other, rose)

  surely : {fault : LoadFault} → stops.fault ≡ fault → IsTrue f.sure_old → AllToldFiles f.holds (files_of asked) → (f.faults_new ≡ f.faults_old) × IsTrue f.sure_new × (fault ≢ loads.Failed)
  surely at s all = let told = stops.sure s all in (told.0, told.1, λ is. told.2 (at ∙ is))

  ends_by : (fault : LoadFault) → stops.fault ≡ fault → Ends (Some asked) (Err (stop_of_load fault)) f o
  ends_by loads.Failed at = record {
    usage = ((λ u. cc), (λ n. cc));
    asked = stops.asked;
    bad_input = λ fault is. cc;
    bad_input_always = λ other fault is faulty. inr (inl refl);
    good_input = λ s. elim s [ inl d ↦ cc | inr (inl r) ↦ cc | inr (inr w) ↦ cc ];
    rejected = λ s. cc;
    rejected_always = λ other line is faultless has. inr (inl refl);
    read_fault = λ s. stops.failed at;
    failing_load = λ rose. refl;
    write_fault = λ s. cc;
    too_long = λ s. cc;
    sure = λ s all. ((surely at s all).0, (surely at s all).1, λ r. (surely at s all).2 refl);
    out = keeps;
    complete = λ other is faultless no_read no_write. absurd (no_read (stops.failed at));
  }
  ends_by loads.Memory at = record {
    usage = ((λ u. cc), (λ n. cc));
    asked = stops.asked;
    bad_input = λ fault is. cc;
    bad_input_always = λ other fault is faulty. inr (inr refl);
    good_input = λ s. elim s [ inl d ↦ cc | inr (inl r) ↦ cc | inr (inr w) ↦ cc ];
    rejected = λ s. cc;
    rejected_always = λ other line is faultless has. inr (inr (inr refl));
    read_fault = λ s. cc;
    failing_load = λ rose. absurd (none_failed_there (λ e. cc) rose);
    write_fault = λ s. cc;
    too_long = λ s. cc;
    sure = λ s all. ((surely at s all).0, (surely at s all).1, λ r. cc);
    out = inl keeps;
    complete = λ other is faultless no_read no_write. inr (inr refl);
  }
  ends_by loads.TooLong at = record {
    usage = ((λ u. cc), (λ n. cc));
    asked = stops.asked;
    bad_input = λ fault is. cc;
    bad_input_always = λ other fault is faulty. absurd (no_input at other is);
    good_input = λ s. elim s [ inl d ↦ cc | inr (inl r) ↦ cc | inr (inr w) ↦ cc ];
    rejected = λ s. cc;
    rejected_always = λ other line is faultless has. absurd (no_input at other is);
    read_fault = λ s. cc;
    failing_load = λ rose. absurd (none_failed_there (λ e. cc) rose);
    write_fault = λ s. cc;
    too_long = λ s. (stops.too_long at).0;
    sure = λ s all. ((surely at s all).0, (surely at s all).1, λ r. cc);
    out = keeps;
    complete = λ other is faultless no_read no_write. absurd (no_input at other is);
  }

  -- the stop is handed on
  pub ends_at_stop : (ending : Result Verdict Stop) → IsErrAnd ending (λ named. named ≡ stop) → Ends (Some asked) ending f o
  ends_at_stop (Ok verdict) is = absurd is
  ends_at_stop (Err named) is = subst (λ (s : Stop). Ends (Some asked) (Err s) f o) (sym (is ∙ stops.is)) (ends_by stops.fault refl)
