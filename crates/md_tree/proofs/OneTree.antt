-- Each graph has exactly one tree of strong modules, or none where it has no vertex; and what that tree tells.
use Rattle.std.proofs.Common.{◌≡◌, true, ◌&&◌, Option, Some, None, sym, ◌∙◌, subst}
use Rattle.std.proofs.lemmas.Bool.{and_parts, and_from}
use Rattle.std.specs.Cmp.{both_ways}
use Rattle.std.specs.FinSet.{contains}
use Rattle.md_graph.specs.declared.TheConstants.{NAMES}
use Rattle.md_graph.specs.NameSet.{AllBelow}
use Rattle.md_graph.specs.PlainGraph.{PlainGraph, adjacent}
use Rattle.md_graph.proofs.GraphLemmas.{adjacent_sym, adjacent_ends, empty_without_vertices}
use Rattle.md_graph.specs.Sets.{Has}
use Rattle.md_graph.specs.Adjacency.{IsAdjacency}
use Rattle.md_graph.proofs.SetLemmas.{Has-along}
use Rattle.md_graph.proofs.Search.{decide_test}
use Rattle.md_modules.proofs.Modules.{undirected}
use Rattle.md_modules.proofs.Turns.{graph_adjacency}
use Rattle.md_tree.specs.Trees.{PlainTree, names, EachNode}
use Rattle.md_tree.specs.WellFormed.{IsCanonicalNode}
use Rattle.md_tree.specs.TreeGraph.{adjacent_in}
use Rattle.md_tree.specs.StrongTrees.{IsTree}
use Rattle.md_tree.specs.Laws.{OneTree, TreeIsCanonical, TreeIsWellFormed, TreeTellsGraph, GraphOfTheTree, NoInducedPathIfNoPrimeNode}
use Rattle.md_tree.proofs.Built.{tree_names, tree_built}
use Rattle.md_tree.proofs.Kinded.{one_at_least, one_at_most}
use Rattle.md_tree.proofs.GraphKinds.{kinds_of_graphs}
use Rattle.md_tree.proofs.Canonical.{canonical_of}
use Rattle.md_tree.proofs.Graph.{adjacent_right, no_path_tree}
use Rattle.md_tree.proofs.Edges.{edges_are}
use Rattle.md_tree.proofs.Denoted.{tree_graph}

-- each graph has a tree, or none where it has no vertex
pub one_option : (g : PlainGraph) → (o : Option PlainTree) × IsTree (adjacent g) g.vertices o
one_option g = one_at_least (kinds_of_graphs (record { reversed = λ a b. adjacent_sym g b a })) decide_test g.vertices

pub one_tree_proof : OneTree
one_tree_proof e adj s =
    let kinds = kinds_of_graphs (undirected adj) in
    let o : (o : Option PlainTree) × IsTree e s o = one_at_least kinds decide_test s in
    (o.0, o.1, λ p is. one_at_most kinds s o.0 p o.1 is)

pub canonical_proof : TreeIsCanonical
canonical_proof e adj s t is = (tree_names s t is, canonical_of e adj t (tree_built s t is))

pub tells_proof : TreeTellsGraph
tells_proof e adj s t is a b ha hb =
    let same : s ≡ names t = sym (tree_names s t is) in
    adjacent_right e adj t (tree_built s t is) a b (Has-along s (names t) same a ha) (Has-along s (names t) same b hb)

pub no_path_proof : NoInducedPathIfNoPrimeNode
no_path_proof e adj s t is = no_path_tree e adj s t is

pub well_formed_proof : TreeIsWellFormed
well_formed_proof e adj s None is below = tt
well_formed_proof e adj s (Some t) is below =
    let c : (names t ≡ s) × EachNode IsCanonicalNode t = canonical_proof e adj s t is in
    (subst (λ w. AllBelow w NAMES) (sym c.0) below, c.1)

pub graph_proof : GraphOfTheTree
graph_proof g is None none = sym (empty_without_vertices g is none)
graph_proof g is (Some t) tree =
    let adj : IsAdjacency (adjacent g) = graph_adjacency is in
    let c : (names t ≡ g.vertices) × EachNode IsCanonicalNode t = canonical_proof (adjacent g) adj g.vertices t tree in
    sym (tree_graph g t is c.1 (subst (λ w. AllBelow w NAMES) (sym c.0) is.names) (sym c.0) (λ x y.
    both_ways (adjacent g x y) ((contains (names t) x && contains (names t) y) && adjacent_in t x y)
    (λ h.
    let ends : (_ : _) × _ × _ = adjacent_ends is x y h in
    and_from (contains (names t) x && contains (names t) y) (adjacent_in t x y)
    (and_from (contains (names t) x) (contains (names t) y) (Has-along g.vertices (names t) (sym c.0) x ends.0) (Has-along g.vertices (names t) (sym c.0) y ends.1))
    (tells_proof (adjacent g) adj g.vertices t tree x y ends.0 ends.1 ∙ h))
    (λ h.
    let a : (contains (names t) x && contains (names t) y ≡ true) × (adjacent_in t x y ≡ true) = and_parts (contains (names t) x && contains (names t) y) (adjacent_in t x y) h in
    let b : Has (names t) x × Has (names t) y = and_parts (contains (names t) x) (contains (names t) y) a.0 in
    sym (tells_proof (adjacent g) adj g.vertices t tree x y (Has-along (names t) g.vertices c.0 x b.0) (Has-along (names t) g.vertices c.0 y b.1)) ∙ a.1)
    ∙ sym (edges_are t c.1 x y)))
