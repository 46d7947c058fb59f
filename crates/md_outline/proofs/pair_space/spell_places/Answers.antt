use Rattle.std.proofs.Common.{arith}
use Rattle.md_outline.proofs.HeadPairs.{places_all, all_below_last}
use Rattle.md_outline.proofs.pair_space.spell_places.Goals as goal

pub returns : goal.returns
returns c =
    places_all c.loop-position.places.items c.args.heads.now c.loop-position.position (omega arith)
    (all_below_last c.args.heads.now _ c.requires.ascending c.loop-position.invariant.room) c.loop-position.invariant.spelled
