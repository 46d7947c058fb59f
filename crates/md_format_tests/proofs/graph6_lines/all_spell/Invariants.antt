use Rattle.std.proofs.Common.{◌≡◌}
use Rattle.md_graph.specs.PlainGraph.{empty_graph}
use Rattle.md_format_tests.proofs.graph6_lines.all_spell.Given as goal

abbrev pub invariant-loop-bytes : goal.invariant-loop-bytes
invariant-loop-bytes g l = l.graph ≡ empty_graph
