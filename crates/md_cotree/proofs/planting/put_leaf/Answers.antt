use Rattle.std.proofs.Common.{refl, arith}
use Rattle.md_cotree.proofs.Growing.{forest_spare, forest_leaves, leaf_forest}
use Rattle.md_cotree.proofs.planting.put_leaf.Goals as goal

pub make-place-requires : goal.make-place-requires
make-place-requires g c = forest_spare _ _ _ c.requires.forest.1 c.requires.forest.2

pub overflow_add-cotree : goal.overflow_add-cotree
overflow_add-cotree g c = let low = forest_leaves _ _ _ c.requires.forest.1 c.requires.forest.2 in omega arith

pub returns : goal.returns
returns g c = (
  c.make-place.result,
  leaf_forest c.args.cotree.now _ c.args.stack.now.items c.push.new.self.items c.args.name c.make-place.result c.make-place.ensures.place c.make-place.ensures.inside c.make-place.ensures.made
      c.make-place.ensures.links c.keep_place.ensures.kept c.keep_place.ensures.entries refl c.in_ok-push.ensures.items c.requires.absent,
)
