use Rattle.std.proofs.Common.{length}
use Rattle.md_tree.specs.Spellings.{spelling}
use Rattle.md_tree.specs.Languages.{HasTurned, IsTreeText}
use Rattle.md_tree.proofs.grammar.leaves_at.Given as goal

abbrev pub invariant-loop-opens : goal.invariant-loop-opens
invariant-loop-opens g l =
    let sp = spelling g.K.Lettered.rules g.P.Paired.rules in
    HasTurned sp (IsTreeText sp) l.bytes l.behind l.rest l.opens.items

abbrev pub decreases-loop-opens : goal.decreases-loop-opens
decreases-loop-opens g l = length l.rest
