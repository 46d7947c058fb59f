use Rattle.std.proofs.Common.{◌≡◌, ◌++◌, drop}
use Rattle.md_report.specs.Lines.{arcs_text}
use Rattle.md_report.proofs.arc_writer.push_each.Given as goal

abbrev pub invariant-loop-by : goal.invariant-loop-by
invariant-loop-by l = l.text.items ++ arcs_text (drop l.by-index l.arcs) ≡ l.fn.text.items ++ arcs_text l.arcs
