use Rattle.std.proofs.Common.{◌∷◌, [], subst, ap, length, length-append, arith}
use Rattle.md_lists.specs.Links.{children_at}
use Rattle.md_cotree.proofs.Emitting.{IsWalk, walk_begin, walk_at, walk_more, walk_room, walk_end}
use Rattle.md_cotree.proofs.Ways.{has_live}
use Rattle.md_cotree.proofs.ordering.push_below.Goals as goal

pub loop-next-init : goal.loop-next-init
loop-next-init g c = walk_begin _ _ _ c.first_child-next.ensures.first

pub next_sibling-next-requires : goal.next_sibling-next-requires
next_sibling-next-requires g c =
    let walk = subst (IsWalk (children_at c.args.lists.now c.args.place) c.args.waiting.now.items c.loop-next.waiting.items) c.in-Some.is c.loop-next.invariant in
    has_live c.args.lists.now c.requires.links c.in-Some.child c.args.place (walk_at c.args.lists.now c.requires.links c.args.place c.in-Some.child _ _ walk).parent

pub loop-next-preserved : goal.loop-next-preserved
loop-next-preserved g c =
    let walk = subst (IsWalk (children_at c.args.lists.now c.args.place) c.args.waiting.now.items c.loop-next.waiting.items) c.in-Some.is c.loop-next.invariant in
    walk_more c.args.lists.now c.requires.links c.args.place c.in-Some.child _ _ _ _ walk c.in_ok-push.ensures.items c.next_sibling-next.ensures.next

pub loop-next-smaller : goal.loop-next-smaller
loop-next-smaller g c =
    let walk = subst (IsWalk (children_at c.args.lists.now c.args.place) c.args.waiting.now.items c.loop-next.waiting.items) c.in-Some.is c.loop-next.invariant in
    let room = walk_room c.args.lists.now c.requires.links c.args.place c.in-Some.child _ _ walk in
    let more = ap length c.in_ok-push.ensures.items in
    let all = length-append c.loop-next.waiting.items (c.in-Some.child ∷ []) in
    omega arith

pub returns : goal.returns
returns g c = walk_end _ _ _ _ c.in_default.is c.loop-next.invariant
