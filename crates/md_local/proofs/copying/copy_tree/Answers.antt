use Rattle.std.proofs.Common.{subst}
use Rattle.md_tree.specs.Plain.{plain}
use Rattle.md_local.specs.Walks.{HasTurned, AreCopies, IsCopy}
use Rattle.md_local.proofs.Ways.{way_begin}
use Rattle.md_local.proofs.copying.copy_tree.Goals as goal

pub loop-path-init : goal.loop-path-init
loop-path-init c =
    way_begin AreCopies (plain c.args.tree.now) _ c.in_ok-current.current c.new-path.ensures.items c.in_ok-current.ensures.tree c.in_ok-current.ensures.rest c.in_ok-current.ensures.below

pub copy_turn-requires : goal.copy_turn-requires
copy_turn-requires c = (plain c.args.tree.now, c.loop-path.invariant)

pub loop-path-preserved : goal.loop-path-preserved
loop-path-preserved c =
    subst (HasTurned AreCopies IsCopy (plain c.args.tree.now) c.copy_turn.new.path.items) c.in-Onward.is (c.in_ok-next.ensures.turn (plain c.args.tree.now) c.loop-path.invariant)

pub returns-in-End : goal.returns-in-End
returns-in-End c = record {
  copy =
      subst (HasTurned AreCopies IsCopy (plain c.args.tree.now) c.copy_turn.new.path.items) c.in-End.is (c.in_ok-next.ensures.turn (plain c.args.tree.now) c.loop-path.invariant);
}
