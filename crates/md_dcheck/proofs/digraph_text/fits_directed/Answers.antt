use Rattle.std.proofs.Common.{◌∙◌}
use Rattle.md_tree.specs.Plain.{plain_option}
use Rattle.md_tree.proofs.Stacking.{if_ok}
use Rattle.md_dcheck.proofs.DirectedJudged.{fits_text}
use Rattle.md_dcheck.proofs.digraph_text.fits_directed.Goals as goal

pub returns : goal.returns
returns g c = record {
  fit = if_ok c.is_tree_text.result (λ fit told. fits_text c.args.graph.now c.deref.result.now (plain_option c.args.tree.now) fit (c.deref.ensures.value ∙ c.in_ok-text.ensures.text) told) c.is_tree_text.ensures;
}
