use Rattle.std.specs.List.{sum_by}
use Rattle.md_graph.specs.PlainGraph.{adjacent}
use Rattle.md_checker.proofs.Splitting.{IsSplitDown, turns}
use Rattle.md_checker.proofs.cograph_test.is_cograph.Given as goal

abbrev pub invariant-loop-set : goal.invariant-loop-set
invariant-loop-set g l = IsSplitDown (adjacent l.graph) l.graph.vertices l.left.items

abbrev pub decreases-loop-set : goal.decreases-loop-set
decreases-loop-set g l = sum_by turns l.left.items
