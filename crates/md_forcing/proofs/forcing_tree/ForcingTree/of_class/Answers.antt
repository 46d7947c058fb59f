use Rattle.md_forcing.proofs.Entries.{one_more}
use Rattle.md_forcing.proofs.forcing_tree.ForcingTree.of_class.Goals as goal

pub loop-i-preserved : goal.loop-i-preserved
loop-i-preserved c = one_more c.args.class.now c.loop-i.trail _ c.loop-i.i c.entry-place.result.1 c.entry-place.result.0 c.loop-i.invariant c.entry-place.ensures c.in_ok-push.ensures
