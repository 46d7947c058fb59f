use Rattle.std.specs.Prelude.{⊤}
use Rattle.md_tree.proofs.Stacking.{if_ok}
use Rattle.md_checker.proofs.GraphTexts.{text_told, text_found, any_nodes}
use Rattle.md_checker.proofs.text_fit.is_text_of_tree.Goals as goal

pub returns : goal.returns
returns g c =
    let graph = c.vertices-vertices.ensures.graph in
    if_ok c.is_text_by_rows.result
    (λ fit told. (
      λ yes.
          let t = told.0 yes in
          let good = text_told (λ k cs. ⊤) graph c.args.text.now t.0 t.1 in
          (t.0, good.0, good.1, good.2),
      λ t. told.1 (t.0, text_found (λ k cs. ⊤) graph c.args.text.now t.0 t.2 t.3 (any_nodes t.0)),
    )) c.is_text_by_rows.ensures.text
