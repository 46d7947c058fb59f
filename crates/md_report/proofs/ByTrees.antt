-- Whether a graph is a cograph, by its tree of strong modules.
use Rattle.std.proofs.Common.{Option, Some, None, ◌↔◌, subst}
use Rattle.md_graph.specs.Sets.{Has}
use Rattle.md_graph.specs.PlainGraph.{PlainGraph, IsGraph, adjacent}
use Rattle.md_graph.proofs.SetLemmas.{clash, empty_lacks}
use Rattle.md_modules.proofs.Turns.{graph_adjacency}
use Rattle.md_tree.specs.Trees.{PlainTree}
use Rattle.md_tree.specs.StrongTrees.{IsTree}
use Rattle.md_tree.specs.NoPrimes.{HasNoPrime}
use Rattle.md_tree.proofs.OneTree.{no_path_proof}
use Rattle.md_report.specs.Cographs.{IsCograph}

pub cograph_by_tree : (g : PlainGraph) → IsGraph g → (o : Option PlainTree) → IsTree (adjacent g) g.vertices o → HasNoPrime o ↔ IsCograph g
cograph_by_tree g is None empty = ((λ _ path. clash (subst (λ s. Has s path.0) empty path.4.inside.0) (empty_lacks path.0)), (λ _. tt))
cograph_by_tree g is (Some t) made =
    let law = no_path_proof (adjacent g) (graph_adjacency is) g.vertices t made in
    (law.1, law.0)
