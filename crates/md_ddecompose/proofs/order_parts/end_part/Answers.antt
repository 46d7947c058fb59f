use Rattle.std.proofs.Common.{◌++◌, ◌∷◌, [], ◌∙◌, ap}
use Rattle.md_ddecompose.proofs.order_parts.end_part.Goals as goal

pub returns-clause-cut : goal.returns-clause-cut
returns-clause-cut g c = λ _. (c.clear.ensures.changed, c.in_ok-push.ensures.items ∙ ap (λ b. c.args.parts.now.items ++ b ∷ []) c.in_ok-of.ensures.made)
