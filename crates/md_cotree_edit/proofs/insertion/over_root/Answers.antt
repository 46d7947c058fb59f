use Rattle.std.proofs.Common.{Some, refl, sym, ap}
use Rattle.md_cotree.specs.PlaceTrees.{tip, no_more}
use Rattle.md_cotree_edit.proofs.Insertions.NewLeaf.{leaf_beside}
use Rattle.md_cotree_edit.proofs.insertion.over_root.Goals as goal

pub join-node-requires-clause-trees : goal.join-node-requires-clause-trees
join-node-requires-clause-trees g c =
    let t = c.requires.tree in (
      t.0,
      tip c.make-leaf.result c.args.x,
      no_more,
      leaf_beside c.args.lists.now c.clear.new.lists c.make-leaf.new.self c.clear.ensures.still c.clear.ensures.links c.make-leaf.ensures.links c.make-leaf.result c.args.x c.make-leaf.ensures.place
          c.make-leaf.ensures.inside c.make-leaf.ensures.made t.0 t.1,
      t.2,
      refl,
    )

pub returns-clause-tree : goal.returns-clause-tree
returns-clause-tree g c = λ t kept root.
    let ready =
    leaf_beside c.args.lists.now c.clear.new.lists c.make-leaf.new.self c.clear.ensures.still c.clear.ensures.links c.make-leaf.ensures.links c.make-leaf.result c.args.x c.make-leaf.ensures.place
    c.make-leaf.ensures.inside c.make-leaf.ensures.made t kept in
    let joined = c.join-node.ensures.trees t (tip c.make-leaf.result c.args.x) no_more ready root refl in
    (joined.0, joined.1, ap Some (sym joined.2), joined.3)
