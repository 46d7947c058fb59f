use Rattle.std.proofs.Common.{[], ◌∷◌, ◌++◌, ◌∙◌, ap}
use Rattle.md_tree.specs.TreeTexts.{text_of}
use Rattle.md_report.specs.Lines.{applied}
use Rattle.md_top.proofs.put.applied_text_by_rows.Goals as goal

pub returns : goal.returns
returns g c = λ t is are.
    let written = c.in_ok-push_text_by_rows.ensures.written t is are in
    c.with_feed.ensures (applied t) (written ∙ ap (λ l. l ++ text_of t) (c.in_ok-extend_from_slice.ensures.items ∙ ap (λ l. l ++ (111 ∷ 107 ∷ 32 ∷ [])) c.new-text.ensures.items))
