use Rattle.std.proofs.Common.{◌∙◌, ap, sym}
use Rattle.md_lists.specs.Links.{Links}
use Rattle.md_cotree_edit.proofs.EdgeTurns.LiftedTrees.{below_view, root_view, above_view, node_kept, lift_live, lift_some, lift_none, below_can, below_ready, below_lifted, root_can, root_lifted, above_can, has_above, above_lifted, free_live, free_bare, free_kept, parent_some}
use Rattle.md_cotree_edit.proofs.lifting.lift.Goals as goal

pub child_count-requires : goal.child_count-requires
child_count-requires g c =
    lift_live c.args.lists.now c.requires.links c.args.place c.args.first c.args.second c.args.series c.requires.trees.0 c.requires.trees.1

pub parent-requires : goal.parent-requires
parent-requires g c =
    lift_live c.args.lists.now c.requires.links c.args.place c.args.first c.args.second c.args.series c.requires.trees.0 c.requires.trees.1

pub set_kind-requires : goal.set_kind-requires
set_kind-requires g c =
    lift_live c.args.lists.now c.requires.links c.args.place c.args.first c.args.second c.args.series c.requires.trees.0 c.requires.trees.1

pub adopt-requires-clause-trees : goal.adopt-requires-clause-trees
adopt-requires-clause-trees g c = (
  below_view c.args.place c.make-node.result c.args.series c.requires.trees.0,
  below_can c.args.lists.now c.requires.links c.args.place c.args.first c.args.second c.args.series c.requires.trees.0 c.requires.trees.1
      c.make-node.result c.node_kind.result c.node_kind.ensures c.make-node.ensures.place c.make-node.ensures.inside c.make-node.new.self c.make-node.ensures.made,
)

pub attach-requires-clause-parent : goal.attach-requires-clause-parent
attach-requires-clause-parent g c =
    let kept = c.adopt.ensures.trees (below_view c.args.place c.make-node.result c.args.series c.requires.trees.0) (below_can c.args.lists.now c.requires.links c.args.place c.args.first c.args.second c.args.series c.requires.trees.0 c.requires.trees.1
    c.make-node.result c.node_kind.result c.node_kind.ensures c.make-node.ensures.place c.make-node.ensures.inside c.make-node.new.self c.make-node.ensures.made) in
    (below_ready c.args.lists.now c.requires.links c.args.place c.args.first c.args.second c.args.series c.requires.trees.0 c.requires.trees.1
    c.make-node.result c.node_kind.result c.node_kind.ensures c.make-node.ensures.place c.make-node.ensures.inside c.make-node.new.self c.make-node.ensures.made
    c.adopt.new.lists c.adopt.ensures.links kept).parent

pub attach-requires-clause-child : goal.attach-requires-clause-child
attach-requires-clause-child g c =
    let kept = c.adopt.ensures.trees (below_view c.args.place c.make-node.result c.args.series c.requires.trees.0) (below_can c.args.lists.now c.requires.links c.args.place c.args.first c.args.second c.args.series c.requires.trees.0 c.requires.trees.1
    c.make-node.result c.node_kind.result c.node_kind.ensures c.make-node.ensures.place c.make-node.ensures.inside c.make-node.new.self c.make-node.ensures.made) in
    (below_ready c.args.lists.now c.requires.links c.args.place c.args.first c.args.second c.args.series c.requires.trees.0 c.requires.trees.1
    c.make-node.result c.node_kind.result c.node_kind.ensures c.make-node.ensures.place c.make-node.ensures.inside c.make-node.new.self c.make-node.ensures.made
    c.adopt.new.lists c.adopt.ensures.links kept).child

pub attach-requires-clause-differ : goal.attach-requires-clause-differ
attach-requires-clause-differ g c =
    let kept = c.adopt.ensures.trees (below_view c.args.place c.make-node.result c.args.series c.requires.trees.0) (below_can c.args.lists.now c.requires.links c.args.place c.args.first c.args.second c.args.series c.requires.trees.0 c.requires.trees.1
    c.make-node.result c.node_kind.result c.node_kind.ensures c.make-node.ensures.place c.make-node.ensures.inside c.make-node.new.self c.make-node.ensures.made) in
    (below_ready c.args.lists.now c.requires.links c.args.place c.args.first c.args.second c.args.series c.requires.trees.0 c.requires.trees.1
    c.make-node.result c.node_kind.result c.node_kind.ensures c.make-node.ensures.place c.make-node.ensures.inside c.make-node.new.self c.make-node.ensures.made
    c.adopt.new.lists c.adopt.ensures.links kept).differ

pub attach-requires-clause-loose : goal.attach-requires-clause-loose
attach-requires-clause-loose g c =
    let kept = c.adopt.ensures.trees (below_view c.args.place c.make-node.result c.args.series c.requires.trees.0) (below_can c.args.lists.now c.requires.links c.args.place c.args.first c.args.second c.args.series c.requires.trees.0 c.requires.trees.1
    c.make-node.result c.node_kind.result c.node_kind.ensures c.make-node.ensures.place c.make-node.ensures.inside c.make-node.new.self c.make-node.ensures.made) in
    (below_ready c.args.lists.now c.requires.links c.args.place c.args.first c.args.second c.args.series c.requires.trees.0 c.requires.trees.1
    c.make-node.result c.node_kind.result c.node_kind.ensures c.make-node.ensures.place c.make-node.ensures.inside c.make-node.new.self c.make-node.ensures.made
    c.adopt.new.lists c.adopt.ensures.links kept).loose

pub returns-then-child_count-ne0-clause-trees : goal.returns-then-child_count-ne0-clause-trees
returns-then-child_count-ne0-clause-trees g c =
    λ d can.
    let kept = c.adopt.ensures.trees (below_view c.args.place c.make-node.result c.args.series d) (below_can c.args.lists.now c.requires.links c.args.place c.args.first c.args.second c.args.series d can
    c.make-node.result c.node_kind.result c.node_kind.ensures c.make-node.ensures.place c.make-node.ensures.inside c.make-node.new.self c.make-node.ensures.made) in
    below_lifted c.args.lists.now c.requires.links c.args.place c.args.first c.args.second c.args.series d can
    c.make-node.result c.node_kind.result c.node_kind.ensures c.make-node.ensures.place c.make-node.ensures.inside c.make-node.new.self c.make-node.ensures.made
    c.adopt.new.lists c.adopt.ensures.links kept c.attach.new.self c.attach.ensures.attached (lift_some c.args.lists.now c.requires.links c.args.place c.args.first c.args.second c.args.series d can c.child_count.result c.child_count.ensures.count c.if-child_count-ne0.true)

pub adopt-requires-in-None-clause-trees : goal.adopt-requires-in-None-clause-trees
adopt-requires-in-None-clause-trees g c =
    let none = lift_none c.args.lists.now c.requires.links c.args.place c.args.first c.args.second c.args.series c.requires.trees.0 c.requires.trees.1 c.child_count.result c.child_count.ensures.count c.if-child_count-ne0.false in
    (root_view c.args.series c.requires.trees.0, root_can c.args.lists.now c.requires.links c.args.place c.args.first c.args.second c.args.series c.requires.trees.0 c.requires.trees.1 (sym c.in-None.ensures.parent) none c.node_kind-in-None.result c.node_kind-in-None.ensures c.set_kind.new.self c.set_kind.ensures.kind)

pub returns-in-None-clause-trees : goal.returns-in-None-clause-trees
returns-in-None-clause-trees g c =
    λ d can.
    let none = lift_none c.args.lists.now c.requires.links c.args.place c.args.first c.args.second c.args.series d can c.child_count.result c.child_count.ensures.count c.if-child_count-ne0.false in
    let kept = c.adopt-in-None.ensures.trees (root_view c.args.series d) (root_can c.args.lists.now c.requires.links c.args.place c.args.first c.args.second c.args.series d can (sym c.in-None.ensures.parent) none c.node_kind-in-None.result c.node_kind-in-None.ensures c.set_kind.new.self c.set_kind.ensures.kind) in
    root_lifted c.args.lists.now c.requires.links c.args.place c.args.first c.args.second c.args.series d can (sym c.in-None.ensures.parent) none c.adopt-in-None.new.lists kept

pub adopt-requires-in-Some-clause-trees : goal.adopt-requires-in-Some-clause-trees
adopt-requires-in-Some-clause-trees g c =
    let none = lift_none c.args.lists.now c.requires.links c.args.place c.args.first c.args.second c.args.series c.requires.trees.0 c.requires.trees.1 c.child_count.result c.child_count.ensures.count c.if-child_count-ne0.false in
    ((above_view c.args.place c.args.series c.requires.trees.0.frames c.requires.trees.0.first c.requires.trees.0.second), (above_can c.args.lists.now c.requires.links c.args.place c.args.first c.args.second c.args.series c.requires.trees.0 c.requires.trees.1 c.in-Some.above (sym c.in-Some.ensures.parent) c.requires.trees.0.frames c.requires.trees.0.rest none (node_kept c.args.lists.now c.requires.links c.args.place c.args.first c.args.second c.args.series c.requires.trees.0 c.requires.trees.1)))

pub detach-requires : goal.detach-requires
detach-requires g c =
    let none = lift_none c.args.lists.now c.requires.links c.args.place c.args.first c.args.second c.args.series c.requires.trees.0 c.requires.trees.1 c.child_count.result c.child_count.ensures.count c.if-child_count-ne0.false in
    let at = has_above c.args.lists.now c.requires.links c.args.place c.args.first c.args.second c.args.series c.requires.trees.0 c.requires.trees.1 c.in-Some.above (sym c.in-Some.ensures.parent) c.adopt-in-Some.new.lists c.adopt-in-Some.ensures.links c.requires.trees.0.frames c.requires.trees.0.rest (node_kept c.args.lists.now c.requires.links c.args.place c.args.first c.args.second c.args.series c.requires.trees.0 c.requires.trees.1)
    (c.adopt-in-Some.ensures.trees (above_view c.args.place c.args.series c.requires.trees.0.frames c.requires.trees.0.first c.requires.trees.0.second) (above_can c.args.lists.now c.requires.links c.args.place c.args.first c.args.second c.args.series c.requires.trees.0 c.requires.trees.1 c.in-Some.above (sym c.in-Some.ensures.parent) c.requires.trees.0.frames c.requires.trees.0.rest none (node_kept c.args.lists.now c.requires.links c.args.place c.args.first c.args.second c.args.series c.requires.trees.0 c.requires.trees.1))) in
    parent_some c.adopt-in-Some.new.lists c.args.place c.in-Some.above at.0

pub free-requires-clause-live : goal.free-requires-clause-live
free-requires-clause-live g c =
    let none = lift_none c.args.lists.now c.requires.links c.args.place c.args.first c.args.second c.args.series c.requires.trees.0 c.requires.trees.1 c.child_count.result c.child_count.ensures.count c.if-child_count-ne0.false in
    let at = has_above c.args.lists.now c.requires.links c.args.place c.args.first c.args.second c.args.series c.requires.trees.0 c.requires.trees.1 c.in-Some.above (sym c.in-Some.ensures.parent) c.adopt-in-Some.new.lists c.adopt-in-Some.ensures.links c.requires.trees.0.frames c.requires.trees.0.rest (node_kept c.args.lists.now c.requires.links c.args.place c.args.first c.args.second c.args.series c.requires.trees.0 c.requires.trees.1)
    (c.adopt-in-Some.ensures.trees (above_view c.args.place c.args.series c.requires.trees.0.frames c.requires.trees.0.first c.requires.trees.0.second) (above_can c.args.lists.now c.requires.links c.args.place c.args.first c.args.second c.args.series c.requires.trees.0 c.requires.trees.1 c.in-Some.above (sym c.in-Some.ensures.parent) c.requires.trees.0.frames c.requires.trees.0.rest none (node_kept c.args.lists.now c.requires.links c.args.place c.args.first c.args.second c.args.series c.requires.trees.0 c.requires.trees.1))) in
    free_live c.args.place c.args.series c.in-Some.above c.adopt-in-Some.new.lists c.detach.new.self c.detach.ensures.links (c.detach.ensures.detached c.in-Some.above at.0) _ at.1

pub free-requires-clause-bare : goal.free-requires-clause-bare
free-requires-clause-bare g c =
    let none = lift_none c.args.lists.now c.requires.links c.args.place c.args.first c.args.second c.args.series c.requires.trees.0 c.requires.trees.1 c.child_count.result c.child_count.ensures.count c.if-child_count-ne0.false in
    let at = has_above c.args.lists.now c.requires.links c.args.place c.args.first c.args.second c.args.series c.requires.trees.0 c.requires.trees.1 c.in-Some.above (sym c.in-Some.ensures.parent) c.adopt-in-Some.new.lists c.adopt-in-Some.ensures.links c.requires.trees.0.frames c.requires.trees.0.rest (node_kept c.args.lists.now c.requires.links c.args.place c.args.first c.args.second c.args.series c.requires.trees.0 c.requires.trees.1)
    (c.adopt-in-Some.ensures.trees (above_view c.args.place c.args.series c.requires.trees.0.frames c.requires.trees.0.first c.requires.trees.0.second) (above_can c.args.lists.now c.requires.links c.args.place c.args.first c.args.second c.args.series c.requires.trees.0 c.requires.trees.1 c.in-Some.above (sym c.in-Some.ensures.parent) c.requires.trees.0.frames c.requires.trees.0.rest none (node_kept c.args.lists.now c.requires.links c.args.place c.args.first c.args.second c.args.series c.requires.trees.0 c.requires.trees.1))) in
    free_bare c.args.place c.args.series c.in-Some.above c.adopt-in-Some.new.lists c.detach.new.self c.detach.ensures.links (c.detach.ensures.detached c.in-Some.above at.0) _ at.1 (ap (λ (z : Links). z.marked) (c.detach.ensures.detached c.in-Some.above at.0) ∙ c.adopt-in-Some.ensures.marked ∙ c.requires.unmarked)

pub returns-in-Some-clause-trees : goal.returns-in-Some-clause-trees
returns-in-Some-clause-trees g c =
    λ d can.
    let none = lift_none c.args.lists.now c.requires.links c.args.place c.args.first c.args.second c.args.series d can c.child_count.result c.child_count.ensures.count c.if-child_count-ne0.false in
    let at = has_above c.args.lists.now c.requires.links c.args.place c.args.first c.args.second c.args.series d can c.in-Some.above (sym c.in-Some.ensures.parent) c.adopt-in-Some.new.lists c.adopt-in-Some.ensures.links d.frames d.rest (node_kept c.args.lists.now c.requires.links c.args.place c.args.first c.args.second c.args.series d can)
    (c.adopt-in-Some.ensures.trees (above_view c.args.place c.args.series d.frames d.first d.second) (above_can c.args.lists.now c.requires.links c.args.place c.args.first c.args.second c.args.series d can c.in-Some.above (sym c.in-Some.ensures.parent) d.frames d.rest none (node_kept c.args.lists.now c.requires.links c.args.place c.args.first c.args.second c.args.series d can))) in
    above_lifted c.args.lists.now c.requires.links c.args.place c.args.first c.args.second c.args.series d can c.in-Some.above (sym c.in-Some.ensures.parent) c.adopt-in-Some.new.lists c.adopt-in-Some.ensures.links d.frames d.rest none can.around (node_kept c.args.lists.now c.requires.links c.args.place c.args.first c.args.second c.args.series d can) c.free.new.self
    (free_kept c.args.place c.args.series c.in-Some.above c.adopt-in-Some.new.lists c.detach.new.self c.detach.ensures.links (c.detach.ensures.detached c.in-Some.above at.0) _ at.1 c.free.new.self c.free.ensures.freed)

pub returns-in-Some-clause-unmarked : goal.returns-in-Some-clause-unmarked
returns-in-Some-clause-unmarked g c =
    let none = lift_none c.args.lists.now c.requires.links c.args.place c.args.first c.args.second c.args.series c.requires.trees.0 c.requires.trees.1 c.child_count.result c.child_count.ensures.count c.if-child_count-ne0.false in
    let at = has_above c.args.lists.now c.requires.links c.args.place c.args.first c.args.second c.args.series c.requires.trees.0 c.requires.trees.1 c.in-Some.above (sym c.in-Some.ensures.parent) c.adopt-in-Some.new.lists c.adopt-in-Some.ensures.links c.requires.trees.0.frames c.requires.trees.0.rest (node_kept c.args.lists.now c.requires.links c.args.place c.args.first c.args.second c.args.series c.requires.trees.0 c.requires.trees.1)
    (c.adopt-in-Some.ensures.trees (above_view c.args.place c.args.series c.requires.trees.0.frames c.requires.trees.0.first c.requires.trees.0.second) (above_can c.args.lists.now c.requires.links c.args.place c.args.first c.args.second c.args.series c.requires.trees.0 c.requires.trees.1 c.in-Some.above (sym c.in-Some.ensures.parent) c.requires.trees.0.frames c.requires.trees.0.rest none (node_kept c.args.lists.now c.requires.links c.args.place c.args.first c.args.second c.args.series c.requires.trees.0 c.requires.trees.1))) in
    ap (λ (z : Links). z.marked) c.free.ensures.freed ∙ ap (λ (z : Links). z.marked) (c.detach.ensures.detached c.in-Some.above at.0) ∙ c.adopt-in-Some.ensures.marked ∙ c.requires.unmarked
