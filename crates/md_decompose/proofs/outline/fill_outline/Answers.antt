use Rattle.std.proofs.Common.{Some, None, sym, ◌∙◌, subst}
use Rattle.md_graph.specs.PlainGraph.{adjacent}
use Rattle.md_graph.proofs.SetLemmas.{none_lacks, if_empty}
use Rattle.md_tree.specs.StrongTrees.{IsTreeOf}
use Rattle.md_tree.proofs.Stacking.{if_ok}
use Rattle.md_decompose.proofs.outline.fill_outline.Goals as goal

pub returns-in_default : goal.returns-in_default
returns-in_default g c =
    let names = c.vertices-names.result.now in
    record { outline = (None, sym c.vertices-names.ensures.set ∙ if_empty names (none_lacks names c.in_default.ensures.none), c.clear.ensures.items) }

pub returns : goal.returns
returns g c = record {
  outline = if_ok c.lay_parts.result
      (λ _ is. (Some is.0, subst (λ s. IsTreeOf (adjacent c.args.graph.now) s is.0) c.vertices-names.ensures.set is.1, is.2)) c.lay_parts.ensures;
}
