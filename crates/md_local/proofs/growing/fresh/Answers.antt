use Rattle.std.proofs.Common.{rules, map, ap, subst, ◌∙◌}
use Rattle.std.specs.FinSet.{intersection}
use Rattle.md_graph.specs.PlainGraph.{adjacent}
use Rattle.md_graph.proofs.SetLemmas.{Has-along, of_meet}
use Rattle.md_modules.proofs.Turns.{graph_adjacency}
use Rattle.md_tree.specs.Plain.{plain, plain_option}
use Rattle.md_tree.specs.StrongTrees.{IsTree, IsTreeOf}
use Rattle.md_tree.proofs.OneTree.{canonical_proof}
use Rattle.md_tree.proofs.Stacking.{if_ok}
use Rattle.md_local.specs.Growing.{quotient_names}
use Rattle.md_local.proofs.QuotientNames.{few_vertices, vertex_there}
use Rattle.md_local.proofs.growing.fresh.Goals as goal

pub decompose_part-requires : goal.decompose_part-requires
decompose_part-requires g c = (
  search rules,
  (
    search rules,
    λ x h. (of_meet _ _ x (Has-along _ _ c.vertices_of-names.ensures x h)).0,
  ),
)

pub returns-in_err-quotient-clause-work : goal.returns-in_err-quotient-clause-work
returns-in_err-quotient-clause-work g c =
    few_vertices _ _ _ _ _ c.decompose_part.ensures.work
    (c.vertices_of-names.ensures ∙ ap (λ l. intersection c.args.graph.now.vertices (quotient_names (map plain l) c.args.u c.args.v)) c.deref.ensures.value)

pub substitute-requires : goal.substitute-requires
substitute-requires g c =
    (canonical_proof (adjacent c.args.graph.now) (graph_adjacency c.vertices-vertices.ensures.graph) c.vertices_of-names.result (plain c.in-Some.quotient)
    (subst (λ o. IsTree (adjacent c.args.graph.now) c.vertices_of-names.result (plain_option o)) c.in-Some.is c.in_ok-quotient.ensures.tree)).1

pub unreachable-requires : goal.unreachable-requires
unreachable-requires g c =
    vertex_there _ _ (map plain c.deref.result.now) c.args.u c.args.v c.vertices_of-names.ensures c.requires.vertex
    (subst (λ o. IsTree (adjacent c.args.graph.now) c.vertices_of-names.result (plain_option o)) c.in-None.is c.in_ok-quotient.ensures.tree)

pub returns-clause-tree : goal.returns-clause-tree
returns-clause-tree g c =
    let tree = subst (λ o. IsTree (adjacent c.args.graph.now) c.vertices_of-names.result (plain_option o)) c.in-Some.is c.in_ok-quotient.ensures.tree in
    let same = c.vertices_of-names.ensures ∙ ap (λ l. intersection c.args.graph.now.vertices (quotient_names (map plain l) c.args.u c.args.v)) c.deref.ensures.value in
    if_ok c.substitute.result (λ t put. (plain c.in-Some.quotient, subst (λ n. IsTreeOf (adjacent c.args.graph.now) n (plain c.in-Some.quotient)) same tree, put)) c.substitute.ensures

pub returns-clause-work : goal.returns-clause-work
returns-clause-work g c =
    few_vertices _ _ _ _ _ c.decompose_part.ensures.work
    (c.vertices_of-names.ensures ∙ ap (λ l. intersection c.args.graph.now.vertices (quotient_names (map plain l) c.args.u c.args.v)) c.deref.ensures.value)
