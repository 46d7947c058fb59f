use Rattle.md_tree.specs.Plain.{plain_option}
use Rattle.md_tree.proofs.Stacking.{if_ok}
use Rattle.md_report.specs.Lines.{tree}
use Rattle.md_top.proofs.session.first_text.Goals as goal

pub returns : goal.returns
returns g c =
    let t = plain_option c.kept_tree.result.now in
    if_ok c.with_feed.result (λ whole is. (t, c.kept_tree.ensures, is)) (c.with_feed.ensures (tree t) c.in_ok-write_tree.ensures)
