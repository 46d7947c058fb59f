use Rattle.std.proofs.Common.{◌≡◌, ◌++◌, ◌-◌, drop, length}
use Rattle.md_report.specs.Lines.{arcs_text}
use Rattle.md_report.proofs.arc_writer.push_spelled.Given as goal

abbrev pub invariant-loop-next : goal.invariant-loop-next
invariant-loop-next l = (l.text.items ++ l.chunk) ++ arcs_text (drop l.next l.arcs) ≡ l.fn.text.items ++ arcs_text l.arcs

abbrev pub decreases-loop-next : goal.decreases-loop-next
decreases-loop-next l = length l.arcs - l.next
