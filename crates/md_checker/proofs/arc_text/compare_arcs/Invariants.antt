use Rattle.std.proofs.Common.{◌≡◌, ◌++◌, take}
use Rattle.md_comparability.specs.Listed.{arcs_below}
use Rattle.md_report.specs.Lines.{arcs_text}
use Rattle.md_checker.proofs.arc_text.compare_arcs.Given as goal

abbrev pub invariant-loop-tail : goal.invariant-loop-tail
invariant-loop-tail g l = record {
  text : l.compared.text.now ≡ l.fn.compared.text.now;
  same : take l.compared.same l.compared.text.now ++ l.chunk ≡ take l.fn.compared.same l.fn.compared.text.now ++ arcs_text (arcs_below l.set l.tail);
}
