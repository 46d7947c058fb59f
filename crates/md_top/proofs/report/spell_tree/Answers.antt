use Rattle.std.proofs.Common.{[], ◌∷◌, ◌++◌, refl, ◌∙◌, ap}
use Rattle.md_report.specs.Lines.{tree, line_text}
use Rattle.md_top.proofs.report.spell_tree.Goals as goal

pub returns : goal.returns
returns g c =
    let told = c.in_ok-fill_outline.ensures.outline in
    let line = tree told.0 in
    let written = c.in_ok-push_tree_by_rows.ensures.written told.0 told.1 (c.deref.ensures.value ∙ told.2) in (
      line,
      (told.0, told.1, refl),
      c.in_ok-push.ensures.items ∙ ap (λ l. l ++ 10 ∷ []) (written ∙ ap (λ l. l ++ line_text line) c.clear.ensures.items),
    )
