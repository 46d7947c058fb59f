use Rattle.std.proofs.Common.{[], ◌∷◌, ◌++◌, None, ◌∙◌, ap}
use Rattle.md_decompose.proofs.Opened.{opened_names, opened_below, opened_bare}
use Rattle.md_decompose.proofs.decomposition.first_open.Goals as goal

pub returns : goal.returns
returns g c =
    let names = c.in_ok-whole.whole in
    let whole = c.open_set.result in
    let is = c.open_set.ensures in (
      whole,
      c.in_ok-push.ensures.items ∙ ap (λ os. os ++ whole ∷ []) c.in_ok-waiting.ensures.items,
      opened_names names None c.none.result whole is ∙ c.in_ok-whole.ensures.made,
      opened_below names None c.none.result whole is,
      opened_bare names None c.none.result whole c.none.ensures.taken c.none.ensures.steps is,
    )
