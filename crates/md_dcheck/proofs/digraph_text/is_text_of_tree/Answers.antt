use Rattle.md_tree.proofs.Stacking.{if_ok}
use Rattle.md_dcheck.proofs.ArcViews.{text_told, text_found}
use Rattle.md_dcheck.proofs.digraph_text.is_text_of_tree.Goals as goal

pub returns : goal.returns
returns g c =
    if_ok c.is_text_by_rows.result
    (λ fit told. (
      λ yes. let t = told.0 yes in let good = text_told c.args.graph.now c.args.text.now t.0 t.1 in (t.0, good.0, good.1),
      λ t. told.1 (t.0, text_found c.args.graph.now c.args.text.now t.0 t.1 t.2),
    )) c.is_text_by_rows.ensures.text
