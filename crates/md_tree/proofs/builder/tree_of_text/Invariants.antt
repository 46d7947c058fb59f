use Rattle.std.proofs.Common.{length, false}
use Rattle.md_tree.specs.Held.{HasBuilt}
use Rattle.md_tree.specs.Spellings.{spelling}
use Rattle.md_tree.proofs.builder.tree_of_text.Given as goal

abbrev pub invariant-loop-held : goal.invariant-loop-held
invariant-loop-held g l =
    let sp = spelling g.K.Lettered.rules g.P.Paired.rules in
    HasBuilt sp l.bytes l.rest false l.held

abbrev pub decreases-loop-held : goal.decreases-loop-held
decreases-loop-held g l = length l.rest
