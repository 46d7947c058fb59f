use Rattle.std.proofs.Common.{ap, sym, ◌∙◌}
use Rattle.md_graph.specs.NameSet.{ascending}
use Rattle.md_graph.proofs.Limits.{words_few}
use Rattle.md_script.specs.declared.edit.Edit.TheVariants.{AddVertex}
use Rattle.md_script.specs.Pasts.{inverse_of, as_edit}
use Rattle.md_script.proofs.BackLemmas.{kept_back}
use Rattle.md_script.proofs.undo.again.Goals as goal

pub returns-in-AddEdge-clause-back : goal.returns-in-AddEdge-clause-back
returns-in-AddEdge-clause-back g c =
    kept_back _ c.args.graph.now (as_edit c.args.past.now) _ (words_few g.row.W c.vertices-vertices.ensures.limit) c.vertices-vertices.ensures.graph c.vertices-vertices.ensures.below
    c.requires.names c.requires.applies (sym (ap (λ p. inverse_of c.args.graph.now (as_edit p)) c.in-AddEdge.is))

pub returns-in-DelEdge-clause-back : goal.returns-in-DelEdge-clause-back
returns-in-DelEdge-clause-back g c =
    kept_back _ c.args.graph.now (as_edit c.args.past.now) _ (words_few g.row.W c.vertices-vertices.ensures.limit) c.vertices-vertices.ensures.graph c.vertices-vertices.ensures.below
    c.requires.names c.requires.applies (sym (ap (λ p. inverse_of c.args.graph.now (as_edit p)) c.in-DelEdge.is))

pub returns-in-AddVertex-clause-back : goal.returns-in-AddVertex-clause-back
returns-in-AddVertex-clause-back g c =
    kept_back _ c.args.graph.now (as_edit c.args.past.now) _ (words_few g.row.W c.vertices-vertices.ensures.limit) c.vertices-vertices.ensures.graph c.vertices-vertices.ensures.below
    c.requires.names c.requires.applies (sym (ap (λ p. inverse_of c.args.graph.now (as_edit p)) c.in-AddVertex.is))

pub returns-in-DelVertex-clause-back : goal.returns-in-DelVertex-clause-back
returns-in-DelVertex-clause-back g c =
    kept_back _ c.args.graph.now (as_edit c.args.past.now) _ (words_few g.row.W c.vertices-vertices.ensures.limit) c.vertices-vertices.ensures.graph c.vertices-vertices.ensures.below
    c.requires.names c.requires.applies
    (ap (λ s. AddVertex c.in-DelVertex.x (ascending s)) (c.copy.ensures.value ∙ c.row.ensures.set) ∙ sym (ap (λ p. inverse_of c.args.graph.now (as_edit p)) c.in-DelVertex.is))
