use Rattle.std.proofs.Common.{ℕ, ◌<◌, ◌≤◌, get_or}
use Rattle.md_forcing.specs.declared.arc.Arc.{Arc}
use Rattle.md_report.proofs.arc_writer.greatest_name.Given as goal

abbrev pub invariant-loop-by : goal.invariant-loop-by
invariant-loop-by l = (k : ℕ) (d : Arc) → k < l.by-index → ((get_or l.arcs k d).tail ≤ l.greatest) × ((get_or l.arcs k d).head ≤ l.greatest)
