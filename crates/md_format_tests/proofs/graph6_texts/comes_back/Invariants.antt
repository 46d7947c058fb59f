use Rattle.std.proofs.Common.{◌≡◌}
use Rattle.md_graph.specs.PlainGraph.{empty_graph}
use Rattle.md_format_tests.proofs.graph6_texts.comes_back.Given as goal

abbrev pub invariant-loop-n : goal.invariant-loop-n
invariant-loop-n g l = l.graph ≡ empty_graph
