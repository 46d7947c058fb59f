use Rattle.md_cotree_edit.proofs.Trees.AdoptedTrees.{adopt_first, adopt_second, adopt_end}
use Rattle.md_cotree_edit.proofs.lifting.adopt.Goals as goal

pub attach-requires-clause-parent : goal.attach-requires-clause-parent
attach-requires-clause-parent g c = (adopt_first c.args.lists.now c.requires.links c.args.parent c.args.first c.args.second c.requires.trees.0 c.requires.trees.1).parent

pub attach-requires-clause-child : goal.attach-requires-clause-child
attach-requires-clause-child g c = (adopt_first c.args.lists.now c.requires.links c.args.parent c.args.first c.args.second c.requires.trees.0 c.requires.trees.1).child

pub attach-requires-clause-differ : goal.attach-requires-clause-differ
attach-requires-clause-differ g c = (adopt_first c.args.lists.now c.requires.links c.args.parent c.args.first c.args.second c.requires.trees.0 c.requires.trees.1).differ

pub attach-requires-clause-loose : goal.attach-requires-clause-loose
attach-requires-clause-loose g c = (adopt_first c.args.lists.now c.requires.links c.args.parent c.args.first c.args.second c.requires.trees.0 c.requires.trees.1).loose

pub attach-requires-2-clause-parent : goal.attach-requires-2-clause-parent
attach-requires-2-clause-parent g c =
    (adopt_second c.args.lists.now c.requires.links c.args.parent c.args.first c.args.second c.requires.trees.0 c.requires.trees.1 c.attach.new.self c.attach.ensures.links c.attach.ensures.attached).parent

pub attach-requires-2-clause-child : goal.attach-requires-2-clause-child
attach-requires-2-clause-child g c =
    (adopt_second c.args.lists.now c.requires.links c.args.parent c.args.first c.args.second c.requires.trees.0 c.requires.trees.1 c.attach.new.self c.attach.ensures.links c.attach.ensures.attached).child

pub attach-requires-2-clause-differ : goal.attach-requires-2-clause-differ
attach-requires-2-clause-differ g c =
    (adopt_second c.args.lists.now c.requires.links c.args.parent c.args.first c.args.second c.requires.trees.0 c.requires.trees.1 c.attach.new.self c.attach.ensures.links c.attach.ensures.attached).differ

pub attach-requires-2-clause-loose : goal.attach-requires-2-clause-loose
attach-requires-2-clause-loose g c =
    (adopt_second c.args.lists.now c.requires.links c.args.parent c.args.first c.args.second c.requires.trees.0 c.requires.trees.1 c.attach.new.self c.attach.ensures.links c.attach.ensures.attached).loose

pub returns-clause-trees : goal.returns-clause-trees
returns-clause-trees g c = λ d can.
    adopt_end c.args.lists.now c.requires.links c.args.parent c.args.first c.args.second d can c.attach.new.self c.attach.ensures.links c.attach.ensures.attached c.attach-2.new.self c.attach-2.ensures.attached
