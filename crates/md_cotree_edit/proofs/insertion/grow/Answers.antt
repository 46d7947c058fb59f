use Rattle.md_cotree_edit.proofs.insertion.grow.Goals as goal

pub join_all-requires-clause-tree : goal.join_all-requires-clause-tree
join_all-requires-clause-tree g c = let t = c.requires.tree in (c.args.neighbours.now, t.0, t.1, c.if-neighbours-tree.true)
