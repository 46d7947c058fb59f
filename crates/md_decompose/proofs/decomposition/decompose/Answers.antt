use Rattle.std.proofs.Common.{subst}
use Rattle.md_graph.specs.PlainGraph.{adjacent}
use Rattle.md_modules.proofs.Turns.{graph_adjacency}
use Rattle.md_tree.specs.Plain.{plain_option}
use Rattle.md_tree.specs.StrongTrees.{IsTree}
use Rattle.md_tree.proofs.OneTree.{well_formed_proof, graph_proof}
use Rattle.md_tree.proofs.Stacking.{if_ok}
use Rattle.md_decompose.proofs.decomposition.decompose.Goals as goal

pub returns-clause-well_formed : goal.returns-clause-well_formed
returns-clause-well_formed g c =
    let graph = c.vertices.ensures.graph in
    if_ok c.decompose_within.result
    (λ tree is. well_formed_proof (adjacent c.args.graph.now) (graph_adjacency graph) c.args.graph.now.vertices (plain_option tree)
    (subst (λ s. IsTree (adjacent c.args.graph.now) s (plain_option tree)) c.vertices.ensures.set is) graph.names) c.decompose_within.ensures.tree

pub returns-clause-denotes : goal.returns-clause-denotes
returns-clause-denotes g c =
    if_ok c.decompose_within.result
    (λ tree is. graph_proof c.args.graph.now c.vertices.ensures.graph (plain_option tree)
    (subst (λ s. IsTree (adjacent c.args.graph.now) s (plain_option tree)) c.vertices.ensures.set is)) c.decompose_within.ensures.tree
