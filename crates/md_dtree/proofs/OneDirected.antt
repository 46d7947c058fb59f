-- Each directed graph has exactly one tree of strong modules, or none where it has no vertex.
use Rattle.std.proofs.Common.{◌≡◌, Option, Some, None, sym, subst}
use Rattle.md_graph.specs.NameSet.{AllBelow}
use Rattle.md_digraph.specs.declared.TheConstants.{DIRECTED_NAMES}
use Rattle.md_digraph.proofs.ArcTurns.{arcs_told}
use Rattle.md_tree.specs.Trees.{names}
use Rattle.md_tree.proofs.Built.{tree_names, tree_built}
use Rattle.md_tree.proofs.Kinded.{one_at_least, one_at_most}
use Rattle.md_dtree.specs.DirectedTrees.{PlainDTree, IsDirectedTree, IsCanonicalDTree}
use Rattle.md_dtree.specs.Laws.{OneDirectedTree, DirectedTreeIsCanonical, DirectedTreeIsWellFormed}
use Rattle.md_dtree.proofs.ArcKinds.{directed_kinds_law}
use Rattle.md_dtree.proofs.DirectedCanonical.{canonical_of}

pub one_tree_proof : OneDirectedTree
one_tree_proof arc s =
    let o : (o : Option PlainDTree) × IsDirectedTree arc s o = one_at_least (directed_kinds_law arc) arcs_told s in
    (o.0, o.1, λ p is. one_at_most (directed_kinds_law arc) s o.0 p o.1 is)

pub canonical_proof : DirectedTreeIsCanonical
canonical_proof arc s t is = (tree_names s t is, canonical_of arc t (tree_built s t is))

pub well_formed_proof : DirectedTreeIsWellFormed
well_formed_proof arc s None is below = tt
well_formed_proof arc s (Some t) is below =
    let c : (names t ≡ s) × IsCanonicalDTree t = canonical_proof arc s t is in
    (subst (λ w. AllBelow w DIRECTED_NAMES) (sym c.0) below, c.1)
