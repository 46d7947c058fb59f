use Rattle.std.proofs.Common.{◌≡◌}
use Rattle.md_digraph.specs.PlainDigraph.{empty_digraph}
use Rattle.md_format_tests.proofs.digraph6.rooms_of_all_widths.Given as goal

abbrev pub invariant-loop-wanted : goal.invariant-loop-wanted
invariant-loop-wanted g l = l.room ≡ empty_digraph
