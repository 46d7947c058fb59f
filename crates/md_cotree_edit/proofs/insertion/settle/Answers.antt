use Rattle.md_cotree_edit.proofs.Insertions.LowestLeaf.{lowest_view, is_lowest, lowest_alternates, can_relink, settled_leaf}
use Rattle.md_cotree_edit.proofs.insertion.settle.Goals as goal

pub climb-requires-clause-tree : goal.climb-requires-clause-tree
climb-requires-clause-tree g c = (c.requires.tree.0, c.requires.tree.1.take.climb)

pub lowest-place-requires-clause-tree : goal.lowest-place-requires-clause-tree
lowest-place-requires-clause-tree g c =
    let d = c.requires.tree.0 in
    let can = c.requires.tree.1 in
    let told = c.climb.ensures.told d can.take.climb c.if-not-climb.false in
    let takes = (c.climb.ensures.can_take d can.take.climb).0 c.if-not-climb.false in (
      lowest_view c.args.lists.now c.climb.new.lists c.args.root.now c.args.x d can c.climb.ensures.still c.climb.ensures.links told takes,
      is_lowest c.args.lists.now c.climb.new.lists c.args.root.now c.args.x d can c.climb.ensures.still c.climb.ensures.links told takes,
      lowest_alternates c.args.lists.now c.climb.new.lists c.args.root.now c.args.x d can c.climb.ensures.still c.climb.ensures.links told takes,
    )

pub relink-requires-clause-tree : goal.relink-requires-clause-tree
relink-requires-clause-tree g c =
    let d = c.requires.tree.0 in
    let can = c.requires.tree.1 in
    let told = c.climb.ensures.told d can.take.climb c.if-not-climb.false in
    let takes = (c.climb.ensures.can_take d can.take.climb).0 c.if-not-climb.false in (
      lowest_view c.args.lists.now c.climb.new.lists c.args.root.now c.args.x d can c.climb.ensures.still c.climb.ensures.links told takes,
      can_relink c.args.lists.now c.climb.new.lists c.args.root.now c.args.x d can c.climb.ensures.still c.climb.ensures.links told takes,
      c.lowest-place.ensures.lowest
          (lowest_view c.args.lists.now c.climb.new.lists c.args.root.now c.args.x d can c.climb.ensures.still c.climb.ensures.links told takes)
          (is_lowest c.args.lists.now c.climb.new.lists c.args.root.now c.args.x d can c.climb.ensures.still c.climb.ensures.links told takes)
          (lowest_alternates c.args.lists.now c.climb.new.lists c.args.root.now c.args.x d can c.climb.ensures.still c.climb.ensures.links told takes),
    )

pub returns-clause-taken : goal.returns-clause-taken
returns-clause-taken g c = λ d can.
    let told = c.climb.ensures.told d can.take.climb c.if-not-climb.false in
    let takes = (c.climb.ensures.can_take d can.take.climb).0 c.if-not-climb.false in
    let view = lowest_view c.args.lists.now c.climb.new.lists c.args.root.now c.args.x d can c.climb.ensures.still c.climb.ensures.links told takes in
    let is = is_lowest c.args.lists.now c.climb.new.lists c.args.root.now c.args.x d can c.climb.ensures.still c.climb.ensures.links told takes in
    let alternates = lowest_alternates c.args.lists.now c.climb.new.lists c.args.root.now c.args.x d can c.climb.ensures.still c.climb.ensures.links told takes in
    let relinked =
    c.relink.ensures.tree view (can_relink c.args.lists.now c.climb.new.lists c.args.root.now c.args.x d can c.climb.ensures.still c.climb.ensures.links told takes) (c.lowest-place.ensures.lowest view is alternates) in
    settled_leaf c.args.lists.now c.climb.new.lists c.args.root.now c.args.x d can c.climb.ensures.still c.climb.ensures.links told takes c.relink.new.lists c.relink.new.root c.relink.result relinked
