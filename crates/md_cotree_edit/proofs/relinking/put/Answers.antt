use Rattle.std.proofs.Common.{sym, ◌∙◌, ap}
use Rattle.md_lists.specs.Links.{Links}
use Rattle.md_cotree_edit.proofs.Insertions.Relinked.{put_live, put_none, put_ready, put_some}
use Rattle.md_cotree_edit.proofs.relinking.put.Goals as goal

pub parent-requires : goal.parent-requires
parent-requires g c = put_live c.args.lists.now c.requires.links c.args.root.now c.args.place c.args.node c.requires.trees.0 c.requires.trees.1

pub returns-in_default-clause-trees : goal.returns-in_default-clause-trees
returns-in_default-clause-trees g c = λ d can. put_none c.args.lists.now c.requires.links c.args.root.now c.args.place c.args.node d can (sym c.in_default.ensures.parent)

pub attach-requires-clause-parent : goal.attach-requires-clause-parent
attach-requires-clause-parent g c =
    let is = sym c.in-Some.ensures.parent in
    (put_ready c.args.lists.now c.requires.links c.args.root.now c.args.place c.args.node c.requires.trees.0 c.requires.trees.1 c.in-Some.above is c.detach.new.self (c.detach.ensures.detached c.in-Some.above is)).parent

pub attach-requires-clause-child : goal.attach-requires-clause-child
attach-requires-clause-child g c =
    let is = sym c.in-Some.ensures.parent in
    (put_ready c.args.lists.now c.requires.links c.args.root.now c.args.place c.args.node c.requires.trees.0 c.requires.trees.1 c.in-Some.above is c.detach.new.self (c.detach.ensures.detached c.in-Some.above is)).child

pub attach-requires-clause-differ : goal.attach-requires-clause-differ
attach-requires-clause-differ g c =
    let is = sym c.in-Some.ensures.parent in
    (put_ready c.args.lists.now c.requires.links c.args.root.now c.args.place c.args.node c.requires.trees.0 c.requires.trees.1 c.in-Some.above is c.detach.new.self (c.detach.ensures.detached c.in-Some.above is)).differ

pub attach-requires-clause-loose : goal.attach-requires-clause-loose
attach-requires-clause-loose g c =
    let is = sym c.in-Some.ensures.parent in
    (put_ready c.args.lists.now c.requires.links c.args.root.now c.args.place c.args.node c.requires.trees.0 c.requires.trees.1 c.in-Some.above is c.detach.new.self (c.detach.ensures.detached c.in-Some.above is)).loose

pub returns-clause-trees : goal.returns-clause-trees
returns-clause-trees g c = λ d can.
    let is = sym c.in-Some.ensures.parent in
    put_some c.args.lists.now c.requires.links c.args.root.now c.args.place c.args.node d can c.in-Some.above is c.detach.new.self (c.detach.ensures.detached c.in-Some.above is) c.attach.new.self c.attach.ensures.attached

pub returns-clause-marked : goal.returns-clause-marked
returns-clause-marked g c =
    ap (λ (z : Links). z.marked) c.attach.ensures.attached ∙ ap (λ (z : Links). z.marked) (c.detach.ensures.detached c.in-Some.above (sym c.in-Some.ensures.parent))

pub returns-clause-kinds : goal.returns-clause-kinds
returns-clause-kinds g c =
    ap (λ (z : Links). z.kinds) c.attach.ensures.attached ∙ ap (λ (z : Links). z.kinds) (c.detach.ensures.detached c.in-Some.above (sym c.in-Some.ensures.parent))
