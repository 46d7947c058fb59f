use Rattle.std.proofs.Common.{sym}
use Rattle.md_cotree_edit.proofs.Insertions.FullChildren.{gone_live, gone_loose}
use Rattle.md_cotree_edit.proofs.relinking.move_if_full.Goals as goal

pub attach-requires-clause-parent : goal.attach-requires-clause-parent
attach-requires-clause-parent g c =
    gone_live c.args.lists.now c.detach.new.self c.in-Some.above c.args.place c.args.to (c.detach.ensures.detached c.in-Some.above (sym c.in-Some.ensures.parent)) c.requires.to

pub attach-requires-clause-child : goal.attach-requires-clause-child
attach-requires-clause-child g c =
    gone_live c.args.lists.now c.detach.new.self c.in-Some.above c.args.place c.args.place (c.detach.ensures.detached c.in-Some.above (sym c.in-Some.ensures.parent)) c.requires.place

pub attach-requires-clause-loose : goal.attach-requires-clause-loose
attach-requires-clause-loose g c =
    gone_loose c.args.lists.now c.requires.links c.in-Some.above c.args.place (sym c.in-Some.ensures.parent) c.detach.new.self (c.detach.ensures.detached c.in-Some.above (sym c.in-Some.ensures.parent))
