use Rattle.std.proofs.Common.{[], ◌∷◌, ◌++◌, refl, ◌∙◌, ap}
use Rattle.md_tree.specs.Plain.{plain}
use Rattle.md_tree.proofs.Stacking.{map_one_more}
use Rattle.md_local.proofs.copying.with_copy.Goals as goal

pub returns : goal.returns
returns c = (
  refl,
  refl,
  λ us is. map_one_more plain c.push.new.self.items c.args.above.below.items c.args.copy c.in_ok-push.ensures.items ∙ ap (λ l. l ++ plain c.args.copy ∷ []) is,
)
