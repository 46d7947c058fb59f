use Rattle.std.proofs.Common.{sym, ◌∙◌}
use Rattle.std.proofs.lemmas.Bool.{false≢true}
use Rattle.md_cotree_edit.proofs.EdgeTurns.JoinedTrees.{join_ready, joined_in, join_view, join_can, joined_new}
use Rattle.md_cotree_edit.proofs.lifting.join.Goals as goal

pub attach-requires-clause-parent : goal.attach-requires-clause-parent
attach-requires-clause-parent g c =
    (join_ready c.args.lists.now c.requires.links c.args.first c.args.second c.args.series c.requires.trees.0 c.requires.trees.1 c.requires.trees.2 c.requires.trees.3 c.requires.trees.4 c.requires.trees.5 (c.is_of.ensures.kind.0 c.if-is_of.true)).parent

pub attach-requires-clause-child : goal.attach-requires-clause-child
attach-requires-clause-child g c =
    (join_ready c.args.lists.now c.requires.links c.args.first c.args.second c.args.series c.requires.trees.0 c.requires.trees.1 c.requires.trees.2 c.requires.trees.3 c.requires.trees.4 c.requires.trees.5 (c.is_of.ensures.kind.0 c.if-is_of.true)).child

pub attach-requires-clause-differ : goal.attach-requires-clause-differ
attach-requires-clause-differ g c =
    (join_ready c.args.lists.now c.requires.links c.args.first c.args.second c.args.series c.requires.trees.0 c.requires.trees.1 c.requires.trees.2 c.requires.trees.3 c.requires.trees.4 c.requires.trees.5 (c.is_of.ensures.kind.0 c.if-is_of.true)).differ

pub attach-requires-clause-loose : goal.attach-requires-clause-loose
attach-requires-clause-loose g c =
    (join_ready c.args.lists.now c.requires.links c.args.first c.args.second c.args.series c.requires.trees.0 c.requires.trees.1 c.requires.trees.2 c.requires.trees.3 c.requires.trees.4 c.requires.trees.5 (c.is_of.ensures.kind.0 c.if-is_of.true)).loose

pub returns-then-is_of-clause-trees : goal.returns-then-is_of-clause-trees
returns-then-is_of-clause-trees g c =
    λ y a us kept at_y at_a. joined_in c.args.lists.now c.requires.links c.args.first c.args.second c.args.series y a us kept at_y at_a (c.is_of.ensures.kind.0 c.if-is_of.true) c.attach.new.self c.attach.ensures.attached

pub adopt-requires-clause-trees : goal.adopt-requires-clause-trees
adopt-requires-clause-trees g c =
    (join_view c.args.lists.now c.requires.links c.args.first c.args.second c.args.series c.requires.trees.0 c.requires.trees.1 c.requires.trees.2 c.requires.trees.3 c.requires.trees.4 c.requires.trees.5 c.make-node.result c.node_kind.result c.node_kind.ensures c.make-node.ensures.place c.make-node.ensures.inside c.make-node.new.self c.make-node.ensures.made, join_can c.args.lists.now c.requires.links c.args.first c.args.second c.args.series c.requires.trees.0 c.requires.trees.1 c.requires.trees.2 c.requires.trees.3 c.requires.trees.4 c.requires.trees.5 c.make-node.result c.node_kind.result c.node_kind.ensures c.make-node.ensures.place c.make-node.ensures.inside c.make-node.new.self c.make-node.ensures.made)

pub returns-clause-trees : goal.returns-clause-trees
returns-clause-trees g c =
    λ y a us kept at_y at_a. joined_new c.args.lists.now c.requires.links c.args.first c.args.second c.args.series y a us kept at_y at_a c.make-node.result c.node_kind.result c.node_kind.ensures c.make-node.ensures.place c.make-node.ensures.inside c.make-node.new.self c.make-node.ensures.made (λ is. false≢true (sym c.if-is_of.false ∙ c.is_of.ensures.kind.1 is)) c.adopt.new.lists (c.adopt.ensures.trees (join_view c.args.lists.now c.requires.links c.args.first c.args.second c.args.series y a us kept at_y at_a c.make-node.result c.node_kind.result c.node_kind.ensures c.make-node.ensures.place c.make-node.ensures.inside c.make-node.new.self c.make-node.ensures.made) (join_can c.args.lists.now c.requires.links c.args.first c.args.second c.args.series y a us kept at_y at_a c.make-node.result c.node_kind.result c.node_kind.ensures c.make-node.ensures.place c.make-node.ensures.inside c.make-node.new.self c.make-node.ensures.made))
