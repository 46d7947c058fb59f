use Rattle.std.proofs.Common.{◌≡◌}
use Rattle.md_digraph.specs.PlainDigraph.{empty_digraph}
use Rattle.md_format_tests.proofs.digraph6.spells.Given as goal

abbrev pub invariant-loop-n : goal.invariant-loop-n
invariant-loop-n g l = l.graph ≡ empty_digraph
