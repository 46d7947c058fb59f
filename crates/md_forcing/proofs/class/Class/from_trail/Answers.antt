use Rattle.md_forcing.proofs.Entries.{none_before, one_more}
use Rattle.md_forcing.proofs.class.Class.from_trail.Goals as goal

pub push-requires : goal.push-requires
push-requires c = none_before c.args.trail.now c.loop-i.class c.loop-i.i c.entry-place.result.1 c.entry-place.result.0 c.loop-i.invariant c.requires c.entry-place.ensures

pub loop-i-preserved : goal.loop-i-preserved
loop-i-preserved c = one_more c.args.trail.now c.loop-i.class _ c.loop-i.i c.entry-place.result.1 c.entry-place.result.0 c.loop-i.invariant c.entry-place.ensures c.in_ok-push.ensures
