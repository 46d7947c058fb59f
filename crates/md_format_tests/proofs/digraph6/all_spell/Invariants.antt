use Rattle.std.proofs.Common.{◌≡◌}
use Rattle.md_digraph.specs.PlainDigraph.{empty_digraph}
use Rattle.md_format_tests.proofs.digraph6.all_spell.Given as goal

abbrev pub invariant-loop-bytes : goal.invariant-loop-bytes
invariant-loop-bytes g l = l.graph ≡ empty_digraph
