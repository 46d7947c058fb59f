-- What a sink takes of a line, a piece or a report, by how the call ends.
use Rattle.std.specs.Prelude.{◌⊎◌, ℕ, List, Option, Result, Ok, Err}
use Rattle.std.specs.Io.KnownBytes.{Appends}
use Rattle.std.specs.List.{flat_map}
use Rattle.md_io.specs.declared.Sink as sinks
use Rattle.md_io.specs.Front.{AppendsFront}
use Rattle.md_io.specs.Count.{Rose}
use Rattle.md_report.specs.Lines.{fed_line}
use Rattle.md_report.specs.Places.{Place, MayCome, next_place}
use Rattle.md_report.specs.Protocols.{LeadBy, IsFrontBy}
use Rattle.md_dcheck.specs.DirectedReports.{DirectedPlace, MayComeDirected, next_directed, fed_directed_line}
use Rattle.md_top.specs.declared.stop.PutStop.{PutStop}
use Rattle.md_top.specs.declared.stop.PutStop.TheVariants.{WriteFault, Memory}

-- what a sink holds and its count of faults, before and after
pub record SinkRun : Type 0 where
  pub old : Option (List ℕ)
  pub new : Option (List ℕ)
  pub faults_old : ℕ
  pub faults_new : ℕ

abbrev pub sink : Option (List ℕ) → Option (List ℕ) → ℕ → ℕ → SinkRun
sink old new faults_old faults_new =
    record { old = old; new = new; faults_old = faults_old; faults_new = faults_new }

-- the same of a sink of any kind
abbrev pub sink_run : {O : Type 0} → sinks.Ghosts O → O → O → SinkRun
sink_run g old new = sink (g.holds old) (g.holds new) (g.faults old) (g.faults new)

-- A sink grew by the whole line, or by the beginning of it where its count of faults or of wants rose.
abbrev pub TakesLine : List ℕ → SinkRun → ℕ → ℕ → Type 0
TakesLine line o wants_old wants_new =
    Appends o.old o.new line
    ⊎ (AppendsFront o.old o.new line × (Rose o.faults_old o.faults_new ⊎ Rose wants_old wants_new))

-- A sink grew by a front, and the count of faults rose where a write is named as the fault.
abbrev pub Stops : Type 0 → PutStop → ℕ → ℕ → Type 0
Stops Front WriteFault faults_old faults_new = Front × Rose faults_old faults_new
Stops Front Memory faults_old faults_new = Front

-- A sink grew by the whole, or by a beginning of it, by nothing at least, where the call stopped.
abbrev pub PutsWhole : List ℕ → Result (Unit {0}) PutStop → SinkRun → Type 0
PutsWhole whole (Ok done) o = Appends o.old o.new whole
PutsWhole whole (Err stop) o = Stops (AppendsFront o.old o.new whole) stop o.faults_old o.faults_new

-- A sink grew by lines that lead from p to q, whatever the places and the lines are.
pub record AppendsLinesBy {P L : Type 0} (MayCome : P → L → Type 0) (next : P → L → P) (fed : L → List ℕ) (p q : P) (old new : Option (List ℕ)) : Type 0 where
  pub lines : List L
  pub leads : LeadBy MayCome next p lines q
  pub put : Appends old new (flat_map fed lines)

-- A sink grew by the front of a report from p on.
pub record AppendsFrontFromBy {P L : Type 0} (MayCome : P → L → Type 0) (next : P → L → P) (fed : L → List ℕ) (p : P) (old new : Option (List ℕ)) : Type 0 where
  pub bytes : List ℕ
  pub front : IsFrontBy MayCome next fed p bytes
  pub put : Appends old new bytes

-- A sink grew by lines that lead from p to q, or by the front of such a report where the call stopped.
abbrev pub PutsLinesBy : {P L : Type 0} → (P → L → Type 0) → (P → L → P) → (L → List ℕ) → P → P → Result (Unit {0}) PutStop → SinkRun → Type 0
PutsLinesBy MayCome next fed p q (Ok done) o = AppendsLinesBy MayCome next fed p q o.old o.new
PutsLinesBy MayCome next fed p q (Err stop) o = Stops (AppendsFrontFromBy MayCome next fed p o.old o.new) stop o.faults_old o.faults_new

-- The same of the reports over graphs and of sessions.
abbrev pub AppendsLines : Place → Place → Option (List ℕ) → Option (List ℕ) → Type 0
AppendsLines p q old new = AppendsLinesBy MayCome next_place fed_line p q old new

abbrev pub AppendsFrontFrom : Place → Option (List ℕ) → Option (List ℕ) → Type 0
AppendsFrontFrom p old new = AppendsFrontFromBy MayCome next_place fed_line p old new

abbrev pub PutsLines : Place → Place → Result (Unit {0}) PutStop → SinkRun → Type 0
PutsLines p q result o = PutsLinesBy MayCome next_place fed_line p q result o

-- The same of the reports of the trees of directed graphs.
abbrev pub AppendsDirected : DirectedPlace → DirectedPlace → Option (List ℕ) → Option (List ℕ) → Type 0
AppendsDirected p q old new = AppendsLinesBy MayComeDirected next_directed fed_directed_line p q old new

abbrev pub PutsDirected : DirectedPlace → DirectedPlace → Result (Unit {0}) PutStop → SinkRun → Type 0
PutsDirected p q result o = PutsLinesBy MayComeDirected next_directed fed_directed_line p q result o
