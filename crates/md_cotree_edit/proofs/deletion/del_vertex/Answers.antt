use Rattle.std.proofs.Common.{refl}
use Rattle.std.specs.FinSet as set
use Rattle.md_graph.specs.PlainGraph.{neighbours}
use Rattle.md_cotree_edit.proofs.Deletions.VertexDeletion.{delete_there, delete_some, delete_view, delete_can, delete_few, deleted}
use Rattle.md_cotree_edit.proofs.deletion.del_vertex.Goals as goal

pub take_place-leaf-requires : goal.take_place-leaf-requires
take_place-leaf-requires g c = delete_there c.args.tree.now c.args.x c.requires

pub overflow_sub-tree : goal.overflow_sub-tree
overflow_sub-tree g c = delete_some c.args.tree.now c.args.x c.requires c.spare-spare.ensures.links c.take_place-leaf.result c.take_place-leaf.ensures.place

pub prune-tree-requires-clause-tree : goal.prune-tree-requires-clause-tree
prune-tree-requires-clause-tree g c = ((delete_view c.args.tree.now c.args.x c.requires c.spare-spare.ensures.links c.take_place-leaf.result c.take_place-leaf.ensures.place), (delete_can c.args.tree.now c.args.x c.requires c.spare-spare.ensures.links c.take_place-leaf.result c.take_place-leaf.ensures.place))

pub returns-clause-done : goal.returns-clause-done
returns-clause-done g c =
    deleted c.args.tree.now c.args.x c.requires c.spare-spare.ensures.links c.take_place-leaf.result c.take_place-leaf.ensures.place
    c.prune-tree.new.lists c.prune-tree.ensures.links c.prune-tree.ensures.unmarked c.prune-tree.result (c.prune-tree.ensures.tree (delete_view c.args.tree.now c.args.x c.requires c.spare-spare.ensures.links c.take_place-leaf.result c.take_place-leaf.ensures.place) (delete_can c.args.tree.now c.args.x c.requires c.spare-spare.ensures.links c.take_place-leaf.result c.take_place-leaf.ensures.place))
    _ refl refl c.take_place-leaf.ensures.taken c.take_place-leaf.ensures.entries refl

pub returns-clause-bound : goal.returns-clause-bound
returns-clause-bound g c =
    λ h den. c.prune-tree.ensures.steps (delete_view c.args.tree.now c.args.x c.requires c.spare-spare.ensures.links c.take_place-leaf.result c.take_place-leaf.ensures.place) (set.len (neighbours h c.args.x)) (delete_can c.args.tree.now c.args.x c.requires c.spare-spare.ensures.links c.take_place-leaf.result c.take_place-leaf.ensures.place) (delete_few c.args.tree.now c.args.x c.requires c.spare-spare.ensures.links c.take_place-leaf.result c.take_place-leaf.ensures.place h den)
