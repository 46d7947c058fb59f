-- Loads of the files of some names, one behind the other: all of them, or up to the one at which loading stops.
-- Source: our own.
use Rattle.std.specs.Prelude.{◌≡◌, ◌≢◌, ℕ, ◌≤◌, IsTrue, List, ◌++◌, Vec}
use Rattle.std.specs.Global.{Global}
use Rattle.md_io.specs.declared.LoadFault.{LoadFault}
use Rattle.md_io.specs.declared.LoadFault.TheVariants as loads
use Rattle.md_io.specs.Count.{Rose}
use Rattle.md_top.specs.declared.request.Subject.{Subject}
use Rattle.md_top.specs.declared.stop.Stop.{Stop}
use Rattle.md_top.specs.Input.{FilesRun, AreToldAs, AreFiles, AllToldFiles, AsksInOrder}
use Rattle.md_top.specs.Status.{stop_of_load}
use Rattle.md_top.specs.Subject.{subject_over}

-- the files of these names were loaded, in their order, with these contents
pub record Loads (f : FilesRun) (names contents : List (List ℕ)) : Type 0 where
  pub told : AreToldAs f.holds names contents
  pub asked : f.asked_new ≡ f.asked_old ++ names
  pub sure : IsTrue f.sure_old → AllToldFiles f.holds names → (f.faults_new ≡ f.faults_old) × IsTrue f.sure_new
  pub faults : f.faults_new ≡ f.faults_old
  pub overs : f.overs_old ≤ f.overs_new

-- Loading the files of these names, in their order, stopped at a fault of one of them, which rose where it is counted; where the
-- file is too long, no told files of these names are within the limit.
pub record StopsLoading (f : FilesRun) (names : List (List ℕ)) (stop : Stop) : Type 0 where
  pub fault : LoadFault
  pub is : stop ≡ stop_of_load fault
  pub asked : AsksInOrder f.holds f.asked_old f.asked_new names
  pub failed : fault ≡ loads.Failed → Rose f.faults_old f.faults_new
  pub too_long : fault ≡ loads.TooLong → Rose f.overs_old f.overs_new × ((contents : List (List ℕ)) → ¬ AreFiles f.holds names contents)
  pub sure : IsTrue f.sure_old → AllToldFiles f.holds names
      → (f.faults_new ≡ f.faults_old) × IsTrue f.sure_new × (fault ≢ loads.Failed)
  pub faults_only : fault ≢ loads.Failed → f.faults_new ≡ f.faults_old

-- the subject with the bytes that were loaded
abbrev pub subject_read : Subject (Vec ℕ Global) → Subject (List ℕ)
subject_read = subject_over (λ file. file.items)
