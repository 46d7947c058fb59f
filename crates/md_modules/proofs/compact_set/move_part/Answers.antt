use Rattle.std.proofs.Common.{◌∙◌, refl, inl, inr}
use Rattle.md_graph.proofs.SetLemmas.{taken_whole, rest_in, meet_unshared}
use Rattle.std.specs.FinSet.{difference}
use Rattle.md_modules.proofs.compact_set.move_part.Goals as goal

pub returns-then-count : goal.returns-then-count
returns-then-count g c = (
  difference c.args.class.now c.args.row.now,
  inr refl,
  c.swap.ensures.x_after ∙ taken_whole _ _ _ c.requires c.move_unshared.ensures.moved ∙ rest_in c.args.class.now c.args.row.now,
  c.swap.ensures.y_after ∙ c.move_unshared.ensures.rest ∙ meet_unshared c.args.class.now c.args.row.now,
)

pub returns-else-count-gt-FEW : goal.returns-else-count-gt-FEW
returns-else-count-gt-FEW g c = (
  c.args.row.now,
  inl refl,
  c.move_unshared.ensures.rest,
  taken_whole _ _ _ c.requires c.move_unshared.ensures.moved,
)
