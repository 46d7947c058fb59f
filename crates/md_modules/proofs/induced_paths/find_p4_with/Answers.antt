use Rattle.std.proofs.Common.{rules}
use Rattle.md_modules.proofs.PathSearch.{near_side, far_side}
use Rattle.md_modules.proofs.induced_paths.find_p4_with.Goals as goal

pub row-near-requires : goal.row-near-requires
row-near-requires g c = (search rules, (search rules, c.vertices-vertices.ensures.below c.args.x c.requires.vertex))

pub path_by_sides-requires : goal.path_by_sides-requires
path_by_sides-requires g c = (
  search rules,
  (
    search rules,
    (
      search rules,
      (
        near_side c.row-near.ensures.graph c.args.x _ c.row-near.ensures.set,
        far_side c.row-near.ensures.graph c.args.x _ _ _ _ c.vertices-vertices.ensures.set c.row-near.ensures.set c.minus-far.ensures.value c.remove.ensures.changed,
      ),
    ),
  ),
)

pub path_by_sides-requires-2 : goal.path_by_sides-requires-2
path_by_sides-requires-2 g c = (
  search rules,
  (
    search rules,
    (
      search rules,
      (
        far_side c.row-near.ensures.graph c.args.x _ _ _ _ c.vertices-vertices.ensures.set c.row-near.ensures.set c.minus-far.ensures.value c.remove.ensures.changed,
        near_side c.row-near.ensures.graph c.args.x _ c.row-near.ensures.set,
      ),
    ),
  ),
)
