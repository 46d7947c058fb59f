use Rattle.std.proofs.Common.{sym, ◌∙◌, ap, subst}
use Rattle.md_graph.specs.PlainGraph.{adjacent}
use Rattle.md_graph.specs.Sets.{Has, Lacks}
use Rattle.md_graph.proofs.SetLemmas.{empty_lacks, union_right}
use Rattle.md_tree.specs.Trees.{names}
use Rattle.md_tree.specs.Plain.{plain, plain_option}
use Rattle.md_tree.specs.TreeGraph.{graph_of_tree}
use Rattle.md_tree.specs.WellFormed.{IsWellFormed}
use Rattle.md_tree.proofs.Denoted.{filled_graph}
use Rattle.md_tree.proofs.tree_graph.graph_of.Goals as goal
use Rattle.md_graph.proofs.GraphLemmas.{empty_without_vertices}
use Rattle.md_tree.proofs.tree_graph.graph_of.Goals.{in-Some, in_default}

pub add_names-requires-clause-absent : goal.add_names-requires-clause-absent
add_names-requires-clause-absent c x h = subst (λ s. Lacks s x) (sym c.requires.no_vertices) (empty_lacks x)

pub add_tree_edges-requires-clause-inside : goal.add_tree_edges-requires-clause-inside
add_tree_edges-requires-clause-inside c x h =
    subst (λ s. Has s x) (sym c.add_names.ensures.vertices) (union_right c.args.graph.now.vertices (names (plain c.in-Some.tree)) x h)

pub returns : goal.returns
returns c = record {
  graph = elim c.match-tree.branch [
    | in-Some w ↦ (
        let well = subst (λ o. IsWellFormed (plain_option o)) w.in-Some.is c.requires.well_formed in
        filled_graph c.args.graph.now w.add_names.new.graph c.match-tree.graph c.args.tree.now w.in-Some.tree w.in-Some.is c.vertices-vertices.ensures.graph c.vertices-vertices-2.ensures.graph
        c.requires.no_vertices well.1 well.0 w.add_names.ensures.vertices w.add_names.ensures.edges
        (ap (λ g. g.vertices) w.graph-is ∙ w.add_tree_edges.ensures.vertices)
        (λ x y. ap (λ g. adjacent g x y) w.graph-is ∙ w.add_tree_edges.ensures.edges x y))
    | in_default w ↦ w.graph-is ∙ empty_without_vertices c.args.graph.now c.vertices-vertices.ensures.graph c.requires.no_vertices
        ∙ sym (ap (λ o. graph_of_tree (plain_option o)) w.in_default.is)
  ];
}
