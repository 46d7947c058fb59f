use Rattle.std.proofs.Common.{length}
use Rattle.md_checker.specs.TextFits.{IsRead}
use Rattle.md_checker.proofs.text_walk.is_text_by_rows.Given as goal

abbrev pub invariant-loop-behind : goal.invariant-loop-behind
invariant-loop-behind g l = IsRead g.K.Lettered.rules g.P.Paired.rules (g.G.TextGraph.view l.graph) l.text l.rest l.behind l.walk

abbrev pub decreases-loop-behind : goal.decreases-loop-behind
decreases-loop-behind g l = length l.rest
