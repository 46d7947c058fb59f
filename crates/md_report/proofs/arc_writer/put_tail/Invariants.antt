use Rattle.std.proofs.Common.{◌≡◌, ◌≤◌, ◌+◌, ◌++◌, ◌-◌, drop, length}
use Rattle.md_report.specs.Lines.{arcs_text}
use Rattle.md_report.proofs.arc_writer.put_tail.Given as goal

abbrev pub invariant-loop-heads : goal.invariant-loop-heads
invariant-loop-heads l = record {
  on : l.from + 1 ≤ l.next;
  written : (l.text.items ++ l.chunk) ++ arcs_text (drop l.next l.arcs) ≡ (l.fn.text.items ++ l.fn.chunk) ++ arcs_text (drop l.from l.arcs);
}

abbrev pub decreases-loop-heads : goal.decreases-loop-heads
decreases-loop-heads l = length l.arcs - l.next

abbrev pub invariant-loop-head : goal.invariant-loop-head
invariant-loop-head l = record {
  on : l.from + 1 ≤ l.next;
  written : (l.text.items ++ l.chunk) ++ arcs_text (drop l.next l.arcs) ≡ (l.fn.text.items ++ l.fn.chunk) ++ arcs_text (drop l.from l.arcs);
}

abbrev pub decreases-loop-head : goal.decreases-loop-head
decreases-loop-head l = length l.arcs - l.next
