use Rattle.std.proofs.Common.{◌∙◌, ap}
use Rattle.md_lists.specs.Links.{Links}
use Rattle.md_cotree_edit.proofs.EdgeTurns.OnlyChild.{tidied_many, tidy_parent, tidy_live, tidy_bare, tidy_room, tidied_one}
use Rattle.md_cotree_edit.proofs.lifting.tidy.Goals as goal

pub returns-then-child_count-ne1-clause-trees : goal.returns-then-child_count-ne1-clause-trees
returns-then-child_count-ne1-clause-trees g c =
    tidied_many c.args.lists.now c.requires.links c.args.node c.child_count.result c.child_count.ensures.count c.if-child_count-ne1.true

pub free-requires-clause-live : goal.free-requires-clause-live
free-requires-clause-live g c =
    let gone = c.detach.ensures.detached c.args.node (tidy_parent c.args.lists.now c.requires.links c.args.node c.child_count.result c.in-Some.child c.child_count.ensures.count c.if-child_count-ne1.false c.in-Some.ensures.first
    c.requires.trees.0 c.requires.trees.1 c.requires.trees.2 c.requires.trees.3) in
    tidy_live c.args.lists.now c.requires.links c.args.node c.child_count.result c.in-Some.child c.child_count.ensures.count c.if-child_count-ne1.false c.in-Some.ensures.first
    c.requires.trees.0 c.requires.trees.1 c.requires.trees.2 c.requires.trees.3 c.detach.new.self c.detach.ensures.links gone

pub free-requires-clause-bare : goal.free-requires-clause-bare
free-requires-clause-bare g c =
    let gone = c.detach.ensures.detached c.args.node (tidy_parent c.args.lists.now c.requires.links c.args.node c.child_count.result c.in-Some.child c.child_count.ensures.count c.if-child_count-ne1.false c.in-Some.ensures.first
    c.requires.trees.0 c.requires.trees.1 c.requires.trees.2 c.requires.trees.3) in
    tidy_bare c.args.lists.now c.requires.links c.args.node c.child_count.result c.in-Some.child c.child_count.ensures.count c.if-child_count-ne1.false c.in-Some.ensures.first
    c.requires.trees.0 c.requires.trees.1 c.requires.trees.2 c.requires.trees.3 c.detach.new.self c.detach.ensures.links gone (ap (λ (z : Links). z.marked) gone ∙ c.requires.unmarked)

pub returns-clause-trees : goal.returns-clause-trees
returns-clause-trees g c =
    let gone = c.detach.ensures.detached c.args.node (tidy_parent c.args.lists.now c.requires.links c.args.node c.child_count.result c.in-Some.child c.child_count.ensures.count c.if-child_count-ne1.false c.in-Some.ensures.first
    c.requires.trees.0 c.requires.trees.1 c.requires.trees.2 c.requires.trees.3) in
    λ k ys us kept some. tidied_one c.args.lists.now c.requires.links c.args.node c.child_count.result c.in-Some.child c.child_count.ensures.count c.if-child_count-ne1.false c.in-Some.ensures.first
    k ys us kept c.detach.new.self c.detach.ensures.links gone c.free.new.self c.free.ensures.freed

pub returns-clause-unmarked : goal.returns-clause-unmarked
returns-clause-unmarked g c =
    let gone = c.detach.ensures.detached c.args.node (tidy_parent c.args.lists.now c.requires.links c.args.node c.child_count.result c.in-Some.child c.child_count.ensures.count c.if-child_count-ne1.false c.in-Some.ensures.first
    c.requires.trees.0 c.requires.trees.1 c.requires.trees.2 c.requires.trees.3) in
    ap (λ (z : Links). z.marked) c.free.ensures.freed ∙ ap (λ (z : Links). z.marked) gone ∙ c.requires.unmarked

pub returns-clause-room : goal.returns-clause-room
returns-clause-room g c =
    let gone = c.detach.ensures.detached c.args.node (tidy_parent c.args.lists.now c.requires.links c.args.node c.child_count.result c.in-Some.child c.child_count.ensures.count c.if-child_count-ne1.false c.in-Some.ensures.first
    c.requires.trees.0 c.requires.trees.1 c.requires.trees.2 c.requires.trees.3) in
    tidy_room c.args.lists.now c.requires.links c.args.node c.child_count.result c.in-Some.child c.child_count.ensures.count c.if-child_count-ne1.false c.in-Some.ensures.first
    c.requires.trees.0 c.requires.trees.1 c.requires.trees.2 c.requires.trees.3 c.detach.new.self c.detach.ensures.links gone c.free.new.self c.free.ensures.freed
