use Rattle.std.proofs.Common.{◌∙◌, ap}
use Rattle.md_cotree.specs.PlaceTrees.{place_kind}
use Rattle.md_cotree_edit.proofs.Insertions.Relinked.{part_ready, part_cleared}
use Rattle.md_cotree_edit.proofs.relinking.part.Goals as goal

pub move_full-requires-clause-tree : goal.move_full-requires-clause-tree
move_full-requires-clause-tree g c =
    let t = c.requires.tree in (
      t.0,
      part_ready c.args.lists.now c.requires.links c.make-node.result c.node_kind.result c.make-node.ensures.place c.make-node.ensures.inside c.make-node.new.self c.make-node.ensures.made t.0 t.1 t.2 (c.node_kind.ensures ∙ ap place_kind t.4),
      t.3,
    )

pub returns-clause-tree : goal.returns-clause-tree
returns-clause-tree g c = λ d lowest alternates at series.
    part_cleared c.move_full.new.lists c.clear.new.lists c.make-node.result d c.clear.ensures.still
    (c.move_full.ensures.tree d
    (part_ready c.args.lists.now c.requires.links c.make-node.result c.node_kind.result c.make-node.ensures.place c.make-node.ensures.inside c.make-node.new.self c.make-node.ensures.made d lowest alternates (c.node_kind.ensures ∙ ap place_kind series))
    at)
