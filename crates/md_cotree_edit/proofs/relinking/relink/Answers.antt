use Rattle.std.proofs.Common.{sym, ◌∙◌}
use Rattle.md_cotree_edit.proofs.Insertions.Relinked.{pair_view, put_view, start_live, start_series, low_start, low_end, high_start, high_next, high_end}
use Rattle.md_cotree_edit.proofs.relinking.relink.Goals as goal

pub is_of-series-requires : goal.is_of-series-requires
is_of-series-requires g c = record { live = start_live c.args.lists.now c.requires.links c.args.root.now c.args.x c.args.place c.requires.tree.0 c.requires.tree.1 c.requires.tree.2 }

pub part-node-requires-clause-tree : goal.part-node-requires-clause-tree
part-node-requires-clause-tree g c = (
  c.requires.tree.0,
  c.requires.tree.1.lowest,
  c.requires.tree.1.alternates,
  c.requires.tree.2,
  start_series c.args.lists.now c.requires.links c.args.root.now c.args.x c.args.place c.requires.tree.0 c.requires.tree.1 c.requires.tree.2 c.is_of-series.result c.is_of-series.ensures.kind,
)

pub put-requires-clause-trees : goal.put-requires-clause-trees
put-requires-clause-trees g c =
    let parted = c.part-node.ensures.tree c.requires.tree.0 c.requires.tree.1.lowest c.requires.tree.1.alternates c.requires.tree.2 (start_series c.args.lists.now c.requires.links c.args.root.now c.args.x c.args.place c.requires.tree.0 c.requires.tree.1 c.requires.tree.2 c.is_of-series.result c.is_of-series.ensures.kind) in
    (put_view c.args.x c.make-leaf.result c.part-node.result c.requires.tree.0 parted.full parted.rest, high_start c.args.lists.now c.requires.links c.args.root.now c.args.x c.args.place c.requires.tree.0 c.requires.tree.1 c.requires.tree.2 c.make-leaf.result c.part-node.result c.part-node.new.lists c.part-node.ensures.links parted c.make-leaf.ensures.place c.make-leaf.ensures.inside c.make-leaf.new.self c.make-leaf.ensures.made)

pub pair_up-requires-clause-trees : goal.pair_up-requires-clause-trees
pair_up-requires-clause-trees g c =
    let parted = c.part-node.ensures.tree c.requires.tree.0 c.requires.tree.1.lowest c.requires.tree.1.alternates c.requires.tree.2 (start_series c.args.lists.now c.requires.links c.args.root.now c.args.x c.args.place c.requires.tree.0 c.requires.tree.1 c.requires.tree.2 c.is_of-series.result c.is_of-series.ensures.kind) in
    let put = c.put.ensures.trees (put_view c.args.x c.make-leaf.result c.part-node.result c.requires.tree.0 parted.full parted.rest) (high_start c.args.lists.now c.requires.links c.args.root.now c.args.x c.args.place c.requires.tree.0 c.requires.tree.1 c.requires.tree.2 c.make-leaf.result c.part-node.result c.part-node.new.lists c.part-node.ensures.links parted c.make-leaf.ensures.place c.make-leaf.ensures.inside c.make-leaf.new.self c.make-leaf.ensures.made) in
    (pair_view c.args.x c.requires.tree.0 parted.rest parted.full, high_next c.args.lists.now c.requires.links c.args.root.now c.args.x c.args.place c.requires.tree.0 c.requires.tree.1 c.requires.tree.2 c.make-leaf.result c.part-node.result c.part-node.new.lists c.part-node.ensures.links parted c.make-leaf.ensures.place c.make-leaf.ensures.inside c.make-leaf.new.self c.make-leaf.ensures.made c.put.new.lists c.put.new.root put)

pub returns-then-series-clause-tree : goal.returns-then-series-clause-tree
returns-then-series-clause-tree g c = λ d can at.
    let parted = c.part-node.ensures.tree d can.lowest can.alternates at (start_series c.args.lists.now c.requires.links c.args.root.now c.args.x c.args.place d can at c.is_of-series.result c.is_of-series.ensures.kind) in
    let put = c.put.ensures.trees (put_view c.args.x c.make-leaf.result c.part-node.result d parted.full parted.rest) (high_start c.args.lists.now c.requires.links c.args.root.now c.args.x c.args.place d can at c.make-leaf.result c.part-node.result c.part-node.new.lists c.part-node.ensures.links parted c.make-leaf.ensures.place c.make-leaf.ensures.inside c.make-leaf.new.self c.make-leaf.ensures.made) in
    high_end c.args.lists.now c.requires.links c.args.root.now c.args.x c.args.place d can at c.make-leaf.result c.part-node.result c.part-node.new.lists c.part-node.ensures.links parted c.make-leaf.ensures.place c.make-leaf.ensures.inside c.make-leaf.new.self c.make-leaf.ensures.made c.put.new.lists c.put.new.root put c.pair_up.new.lists
    (sym (start_series c.args.lists.now c.requires.links c.args.root.now c.args.x c.args.place d can at c.is_of-series.result c.is_of-series.ensures.kind) ∙ c.if-series.true)
    (c.pair_up.ensures.trees (pair_view c.args.x d parted.rest parted.full) (high_next c.args.lists.now c.requires.links c.args.root.now c.args.x c.args.place d can at c.make-leaf.result c.part-node.result c.part-node.new.lists c.part-node.ensures.links parted c.make-leaf.ensures.place c.make-leaf.ensures.inside c.make-leaf.new.self c.make-leaf.ensures.made c.put.new.lists c.put.new.root put))

pub pair_up-requires-2-clause-trees : goal.pair_up-requires-2-clause-trees
pair_up-requires-2-clause-trees g c =
    let parted = c.part-node.ensures.tree c.requires.tree.0 c.requires.tree.1.lowest c.requires.tree.1.alternates c.requires.tree.2 (start_series c.args.lists.now c.requires.links c.args.root.now c.args.x c.args.place c.requires.tree.0 c.requires.tree.1 c.requires.tree.2 c.is_of-series.result c.is_of-series.ensures.kind) in
    (pair_view c.args.x c.requires.tree.0 parted.full parted.rest, low_start c.args.lists.now c.requires.links c.args.root.now c.args.x c.args.place c.requires.tree.0 c.requires.tree.1 c.requires.tree.2 c.make-leaf.result c.part-node.result c.part-node.new.lists c.part-node.ensures.links parted c.make-leaf.ensures.place c.make-leaf.ensures.inside c.make-leaf.new.self c.make-leaf.ensures.made)

pub returns-clause-tree : goal.returns-clause-tree
returns-clause-tree g c = λ d can at.
    let parted = c.part-node.ensures.tree d can.lowest can.alternates at (start_series c.args.lists.now c.requires.links c.args.root.now c.args.x c.args.place d can at c.is_of-series.result c.is_of-series.ensures.kind) in
    low_end c.args.lists.now c.requires.links c.args.root.now c.args.x c.args.place d can at c.make-leaf.result c.part-node.result c.part-node.new.lists c.part-node.ensures.links parted c.make-leaf.ensures.place c.make-leaf.ensures.inside c.make-leaf.new.self c.make-leaf.ensures.made c.pair_up-2.new.lists
    (sym (start_series c.args.lists.now c.requires.links c.args.root.now c.args.x c.args.place d can at c.is_of-series.result c.is_of-series.ensures.kind) ∙ c.if-series.false)
    (c.pair_up-2.ensures.trees (pair_view c.args.x d parted.full parted.rest) (low_start c.args.lists.now c.requires.links c.args.root.now c.args.x c.args.place d can at c.make-leaf.result c.part-node.result c.part-node.new.lists c.part-node.ensures.links parted c.make-leaf.ensures.place c.make-leaf.ensures.inside c.make-leaf.new.self c.make-leaf.ensures.made))
