use Rattle.std.proofs.Common.{◌++◌, ◌∙◌, ap}
use Rattle.md_report.specs.Lines.{tree, line_text}
use Rattle.md_top.proofs.put.tree_text_by_rows.Goals as goal

pub returns : goal.returns
returns g c = λ t is are.
    let written = c.in_ok-push_tree_by_rows.ensures.written t is are in
    c.with_feed.ensures (tree t) (written ∙ ap (λ l. l ++ line_text (tree t)) c.new-text.ensures.items)
