-- Graphs of a class, and histories over them.
use Rattle.std.proofs.Common.{ℕ, List, [], ◌∷◌, Option}
use Rattle.md_graph.specs.PlainGraph.{PlainGraph, adjacent}
use Rattle.md_modules.proofs.Turns.{graph_adjacency}
use Rattle.md_tree.specs.Trees.{PlainTree}
use Rattle.md_tree.specs.StrongTrees.{IsTree}
use Rattle.md_bar_tree.specs.declared.Class.{Class}
use Rattle.md_bar_tree.specs.Inner.{HasFewInnerIn}
use Rattle.md_bar_tree.proofs.BarLaw.{no_bar_if_few_inner_proof}
use Rattle.md_cotree.specs.declared.cotree.Cotree.{Cotree}
use Rattle.md_cotree.specs.Cotrees.{Denotes}
use Rattle.md_cotree.proofs.NoPaths.{cotree_graph, cotree_no_path}
use Rattle.md_script.specs.declared.edit.Edit.{Edit}
use Rattle.md_script.specs.Pasts.{taken_back}
use Rattle.md_script.specs.Histories.{HistoryFits}
use Rattle.md_script.proofs.GroupLemmas.{back_weaker}
use Rattle.md_report.specs.Cographs.{IsCograph}
use Rattle.md_report.specs.Classes.{IsAllowedIn}
use Rattle.md_report.proofs.AllowedGraphs.{allowed_cograph}

-- ---- few inner children

-- where the tree of a cotree's graph has few inner children the graph is of the class
pub few_allowed : (class : Class) (c : Cotree) (g : PlainGraph) (o : Option PlainTree) → Denotes c g → IsTree (adjacent g) g.vertices o → HasFewInnerIn class o → IsAllowedIn class g
few_allowed class c g o den is few = (no_bar_if_few_inner_proof (adjacent g) (graph_adjacency (cotree_graph c g den)) g.vertices o is (cotree_no_path c g den) class).1 few

-- ---- what may be taken back

pub fits_cographs : (limit : ℕ) (class : Class) (g : PlainGraph) (items : List (List Edit)) → HistoryFits limit (IsAllowedIn class) g items → HistoryFits limit IsCograph g items
fits_cographs limit class g [] fits = tt
fits_cographs limit class g (item ∷ items) fits =
    (back_weaker limit (IsAllowedIn class) IsCograph (allowed_cograph class) g item fits.0, fits_cographs limit class (taken_back g item) items fits.1)
