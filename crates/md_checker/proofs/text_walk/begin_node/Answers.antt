use Rattle.std.proofs.Common.{◌∷◌, ◌∙◌, ap}
use Rattle.md_checker.proofs.text_walk.begin_node.Goals as goal

pub returns-in_ok-push-in-Ok : goal.returns-in_ok-push-in-Ok
returns-in_ok-push-in-Ok g c = (c.requires.letter ∙ ap (λ t. g.K.Lettered.rules.letter c.args.kind ∷ t) c.in-Ok.ensures.on, c.in_ok-push-in-Ok.ensures.items)
