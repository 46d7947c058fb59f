use Rattle.std.proofs.Common.{◌≡◌, ◌++◌, drop}
use Rattle.md_report.specs.Lines.{names_text}
use Rattle.md_report.proofs.writer.push_names.Given as goal

abbrev pub invariant-loop-v : goal.invariant-loop-v
invariant-loop-v l = l.text.items ++ names_text (drop l.v-index l.names) ≡ l.fn.text.items ++ names_text l.names
