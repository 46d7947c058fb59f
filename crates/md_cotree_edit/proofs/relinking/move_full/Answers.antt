use Rattle.std.proofs.Common.{subst, arith}
use Rattle.md_cotree_edit.proofs.Insertions.FullChildren.{IsMoving, moving_begin, moving_live, moving_marked, moving_to, moving_differ, moving_room, moving_step, moving_end}
use Rattle.md_cotree_edit.proofs.relinking.move_full.Goals as goal

pub loop-next-init : goal.loop-next-init
loop-next-init g c =
    moving_begin c.args.lists.now c.requires.links c.args.from c.args.to c.args.steps.now c.first_marked-next.result c.first_marked-next.new.steps c.first_marked-next.ensures.first c.first_marked-next.ensures.step

pub move_if_full-requires-clause-place : goal.move_if_full-requires-clause-place
move_if_full-requires-clause-place g c =
    moving_live c.args.lists.now c.requires.links c.args.from c.args.to c.args.steps.now c.loop-next.lists c.loop-next.steps c.in-Some.place
    (subst (λ o. IsMoving c.args.lists.now c.loop-next.lists c.args.from c.args.to o c.args.steps.now c.loop-next.steps) c.in-Some.is c.loop-next.invariant)

pub move_if_full-requires-clause-to : goal.move_if_full-requires-clause-to
move_if_full-requires-clause-to g c =
    moving_to c.args.lists.now c.requires.links c.args.from c.args.to c.args.steps.now c.loop-next.lists c.loop-next.steps c.in-Some.place
    (subst (λ o. IsMoving c.args.lists.now c.loop-next.lists c.args.from c.args.to o c.args.steps.now c.loop-next.steps) c.in-Some.is c.loop-next.invariant)
    c.requires.tree.0 c.requires.tree.1

pub move_if_full-requires-clause-differ : goal.move_if_full-requires-clause-differ
move_if_full-requires-clause-differ g c =
    moving_differ c.args.lists.now c.requires.links c.args.from c.args.to c.args.steps.now c.loop-next.lists c.loop-next.steps c.in-Some.place
    (subst (λ o. IsMoving c.args.lists.now c.loop-next.lists c.args.from c.args.to o c.args.steps.now c.loop-next.steps) c.in-Some.is c.loop-next.invariant)
    c.requires.tree.0 c.requires.tree.1

pub next_marked-next-requires : goal.next_marked-next-requires
next_marked-next-requires g c =
    moving_marked c.args.lists.now c.requires.links c.args.from c.args.to c.args.steps.now c.loop-next.lists c.loop-next.steps c.in-Some.place
    (subst (λ o. IsMoving c.args.lists.now c.loop-next.lists c.args.from c.args.to o c.args.steps.now c.loop-next.steps) c.in-Some.is c.loop-next.invariant)
    c.move_if_full.new.lists c.move_if_full.ensures.moved

pub loop-next-preserved : goal.loop-next-preserved
loop-next-preserved g c =
    moving_step c.args.lists.now c.requires.links c.args.from c.args.to c.args.steps.now c.loop-next.lists c.loop-next.steps c.in-Some.place
    (subst (λ o. IsMoving c.args.lists.now c.loop-next.lists c.args.from c.args.to o c.args.steps.now c.loop-next.steps) c.in-Some.is c.loop-next.invariant)
    c.move_if_full.new.lists c.next_marked-next.result c.next_marked-next.new.steps c.move_if_full.ensures.moved c.move_if_full.ensures.links c.next_marked-next.ensures.next
    (let a = c.move_if_full.ensures.steps in let b = c.next_marked-next.ensures.step in omega arith)

pub loop-next-smaller : goal.loop-next-smaller
loop-next-smaller g c =
    let room = moving_room c.args.lists.now c.requires.links c.args.from c.args.to c.args.steps.now c.loop-next.lists c.loop-next.steps c.in-Some.place
    (subst (λ o. IsMoving c.args.lists.now c.loop-next.lists c.args.from c.args.to o c.args.steps.now c.loop-next.steps) c.in-Some.is c.loop-next.invariant) in
    let a = c.move_if_full.ensures.more in
    let e = c.move_if_full.ensures.steps in
    let b = c.next_marked-next.ensures.step in
    omega arith

pub returns-clause-tree : goal.returns-clause-tree
returns-clause-tree g c =
    moving_end c.args.lists.now c.requires.links c.args.from c.args.to c.args.steps.now c.loop-next.lists c.loop-next.steps c.loop-next.next c.in_default.is c.loop-next.invariant
