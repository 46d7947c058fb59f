-- A whole that is put in pieces: what is put so far, and what is left.
use Rattle.std.proofs.Common.{◌≡◌, ℕ, List, ◌++◌, Option, Result, Ok, Err, IsErrAnd, ◌≤◌, sym, ap, subst, ◌∙◌, append_assoc, arith}
use Rattle.std.proofs.KnownBytes.{Appends-trans}
use Rattle.std.specs.Io.KnownBytes.{Appends}
use Rattle.md_io.specs.Front.{AppendsFront}
use Rattle.md_top.specs.declared.stop.PutStop.{PutStop}
use Rattle.md_top.specs.declared.stop.PutStop.TheVariants.{WriteFault, Memory}
use Rattle.md_top.specs.Sinks.{sink, Stops, PutsWhole}

-- a front by another, behind what is put already
pub stops_on : {A B : Type 0} → (A → B) → (stop : PutStop) (old now new : ℕ) → old ≤ now → Stops A stop now new → Stops B stop old new
stops_on on WriteFault old now new below stopped = (on stopped.0, omega (arith, stopped.1))
stops_on on Memory old now new below stopped = on stopped

-- the first part of the whole is put, and the rest is left
pub record Progress (old now : Option (List ℕ)) (whole left : List ℕ) : Type 0 where
  pub done : List ℕ
  pub split : whole ≡ done ++ left
  pub put : Appends old now done

-- one more piece
pub progress_step : (old now new : Option (List ℕ)) (whole piece left : List ℕ) → Progress old now whole (piece ++ left) → Appends now new piece → Progress old new whole left
progress_step old now new whole piece left so_far put =
    record { done = so_far.done ++ piece; split = so_far.split ∙ sym (append_assoc so_far.done piece left); put = Appends-trans old now new so_far.done piece so_far.put put }

-- the beginning of a piece
progress_stop : (old now new : Option (List ℕ)) (whole piece left : List ℕ) → Progress old now whole (piece ++ left) → AppendsFront now new piece → AppendsFront old new whole
progress_stop old now new whole piece left so_far front =
    record {
      part = so_far.done ++ front.part;
      rest = front.rest ++ left;
      whole = so_far.split ∙ ap (λ p. so_far.done ++ (p ++ left)) front.whole ∙ ap (λ p. so_far.done ++ p) (append_assoc front.part front.rest left) ∙ sym (append_assoc so_far.done front.part (front.rest ++ left));
      appended = Appends-trans old now new so_far.done front.part so_far.put front.appended;
    }

-- a call that stopped within a piece stopped within the whole
pub piece_stopped : (whole piece left : List ℕ) (result : Result (Unit {0}) PutStop) (stop : PutStop) (old now new : Option (List ℕ)) (faults_old faults_now faults_new : ℕ) → IsErrAnd result (λ named. named ≡ stop) → Progress old now whole (piece ++ left) → faults_old ≤ faults_now → PutsWhole piece (Err stop) (sink now new faults_now faults_new) → PutsWhole whole result (sink old new faults_old faults_new)
piece_stopped whole piece left result stop old now new faults_old faults_now faults_new is so_far below stopped =
    stopped_as whole result stop old new faults_old faults_new is
    (stops_on (progress_stop old now new whole piece left so_far) stop faults_old faults_now faults_new below stopped)
  where
    stopped_as : (whole : List ℕ) (result : Result (Unit {0}) PutStop) (stop : PutStop) (old new : Option (List ℕ)) (faults_old faults_new : ℕ) → IsErrAnd result (λ named. named ≡ stop) → PutsWhole whole (Err stop) (sink old new faults_old faults_new) → PutsWhole whole result (sink old new faults_old faults_new)
    stopped_as whole (Ok done) stop old new faults_old faults_new is stopped = absurd is
    stopped_as whole (Err named) stop old new faults_old faults_new is stopped =
        subst (λ (s : PutStop). PutsWhole whole (Err s) (sink old new faults_old faults_new)) (sym is) stopped
