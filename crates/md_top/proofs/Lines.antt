-- Reports over graphs and of sessions put line by line: what is put so far leads from place to place.
use Rattle.std.proofs.Common.{◌≡◌, ℕ, List, Option, Result, Err, IsErrAnd, ◌≤◌}
use Rattle.md_report.specs.Lines.{PlainLine, fed_line}
use Rattle.md_report.specs.Places.{Place, MayCome, next_place}
use Rattle.md_top.specs.declared.stop.PutStop.{PutStop}
use Rattle.md_top.specs.Sinks.{sink, PutsWhole, AppendsLines, AppendsFrontFrom, PutsLines}
use Rattle.md_top.proofs.LinesBy.{one_line_by, stopped_before_by, no_lines_by, lines_behind_by, puts_behind_by, stopped_behind_by}

-- a line that may come is put whole, or the call stopped within it
pub one_line : (p : Place) (line : PlainLine) (result : Result (Unit {0}) PutStop) (old new : Option (List ℕ)) (faults_old faults_new : ℕ) → MayCome p line → PutsWhole (fed_line line) result (sink old new faults_old faults_new) → PutsLines p (next_place p line) result (sink old new faults_old faults_new)
one_line = one_line_by MayCome next_place fed_line

-- stopped before the first byte
pub stopped_before : (p : Place) (old : Option (List ℕ)) → AppendsFrontFrom p old old
stopped_before = stopped_before_by MayCome next_place fed_line

-- no line, which leads nowhere else
pub no_lines : (p : Place) (old : Option (List ℕ)) → AppendsLines p p old old
no_lines = no_lines_by MayCome next_place fed_line

-- lines behind lines
pub lines_behind : (p q r : Place) (old now new : Option (List ℕ)) → AppendsLines p q old now → AppendsLines q r now new → AppendsLines p r old new
lines_behind = lines_behind_by MayCome next_place fed_line

-- lines behind lines, or stopped within those
pub puts_behind : (p q r : Place) (result : Result (Unit {0}) PutStop) (old now new : Option (List ℕ)) (faults_old faults_now faults_new : ℕ) → AppendsLines p q old now → faults_old ≤ faults_now → PutsLines q r result (sink now new faults_now faults_new) → PutsLines p r result (sink old new faults_old faults_new)
puts_behind = puts_behind_by MayCome next_place fed_line

-- the same, where the call that stopped hands its stop on
pub stopped_behind : (p q r : Place) (result : Result (Unit {0}) PutStop) (stop : PutStop) (old now new : Option (List ℕ)) (faults_old faults_now faults_new : ℕ) → IsErrAnd result (λ named. named ≡ stop) → AppendsLines p q old now → faults_old ≤ faults_now → PutsLines q r (Err stop) (sink now new faults_now faults_new) → PutsLines p r result (sink old new faults_old faults_new)
stopped_behind = stopped_behind_by MayCome next_place fed_line
