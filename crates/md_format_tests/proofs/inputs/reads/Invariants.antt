use Rattle.std.proofs.Common.{◌≡◌}
use Rattle.md_graph.specs.PlainGraph.{empty_graph}
use Rattle.md_format_tests.proofs.inputs.reads.Given as goal

abbrev pub invariant-loop-graph : goal.invariant-loop-graph
invariant-loop-graph g l = l.room ≡ empty_graph
