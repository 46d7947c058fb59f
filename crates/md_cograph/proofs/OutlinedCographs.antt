-- The outline of the tree of a graph: no part is a prime node exactly where the graph is a cograph.
use Rattle.std.proofs.Common.{◌≡◌, List, Option, sym, ◌∙◌, subst}
use Rattle.std.specs.List.{All}
use Rattle.md_graph.specs.PlainGraph.{PlainGraph, IsGraph, adjacent}
use Rattle.md_modules.proofs.Turns.{graph_adjacency}
use Rattle.md_tree.specs.declared.Kind.{Kind}
use Rattle.md_tree.specs.NoPrimes.{HasNoPrime}
use Rattle.md_tree.specs.StrongTrees.{IsTree}
use Rattle.md_tree.specs.Trees.{PlainTree}
use Rattle.md_tree.specs.TreeGraph.{graph_of_tree}
use Rattle.md_tree.specs.WellFormed.{IsWellFormed}
use Rattle.md_tree.proofs.OneTree.{well_formed_proof, graph_proof}
use Rattle.md_outline.specs.declared.outline.OutlinePart.{OutlinePart}
use Rattle.md_outline.specs.Outlines.{outline_option}
use Rattle.md_outline.specs.OutlineParts.{IsNoPrimePart}
use Rattle.md_outline.proofs.NoPrimeParts.{no_prime_parts}
use Rattle.md_cotree.specs.Cotrees.{Denotes}
use Rattle.md_cotree.specs.declared.cotree.Cotree.{Cotree}
use Rattle.md_report.specs.Cographs.{IsCograph}
use Rattle.md_cograph.proofs.Changed.{no_prime_of}

module _ (g : PlainGraph) (is : IsGraph g) (parts first second : List (OutlinePart Kind)) (told : (t : Option PlainTree) × IsTree (adjacent g) g.vertices t × (parts ≡ outline_option t)) (same : first ≡ parts) (again : second ≡ parts) where
  pub cograph_parts : IsCograph g → All IsNoPrimePart first
  cograph_parts free = subst (All IsNoPrimePart) (sym (same ∙ told.2)) ((no_prime_parts told.0).0 (no_prime_of g is told.0 told.1 free))

  well : IsWellFormed told.0
  well = well_formed_proof (adjacent g) (graph_adjacency is) g.vertices told.0 told.1 is.names

  no_prime : All IsNoPrimePart first → HasNoPrime told.0
  no_prime plain = (no_prime_parts told.0).1 (subst (All IsNoPrimePart) (same ∙ told.2) plain)

  pub cotree_outline : All IsNoPrimePart first → (t : Option PlainTree) × IsWellFormed t × HasNoPrime t × (second ≡ outline_option t)
  cotree_outline plain = (told.0, well, no_prime plain, again ∙ told.2)

  pub outline_denotes : All IsNoPrimePart first → (c : Cotree) → ((t : Option PlainTree) → IsWellFormed t → HasNoPrime t → second ≡ outline_option t → Denotes c (graph_of_tree t)) → Denotes c g
  outline_denotes plain c den = subst (Denotes c) (graph_proof g is told.0 told.1) (den told.0 well (no_prime plain) (again ∙ told.2))
