-- What graph files spell are graphs.
use Rattle.std.proofs.Common.{ℕ, List, [], ◌∷◌, subst, sym, arith}
use Rattle.std.specs.List.{All}
use Rattle.std.proofs.lemmas.List.Elements.{All-head, All-tail}
use Rattle.md_graph.specs.declared.TheConstants.{NAMES}
use Rattle.md_graph.specs.PlainGraph.{PlainGraph, IsGraph}
use Rattle.md_graph6.proofs.FileLemmas.{spelled_has_no_fault, graphs_are_graphs}
use Rattle.md_input.specs.declared.format.Format.{Format}
use Rattle.md_input.specs.declared.format.Format.TheVariants.{G6, Dimacs}
use Rattle.md_input.specs.Spelling.{SpellsGraphs}
use Rattle.md_report.specs.Laws.{AreGraphs}

each_is_graph : (graphs : List PlainGraph) → All IsGraph graphs → AreGraphs graphs
each_is_graph [] all = tt
each_is_graph (g ∷ more) all = (All-head IsGraph g more all, each_is_graph more (All-tail IsGraph g more all))

pub are_graphs : (from : Format) (file : List ℕ) (graphs : List PlainGraph) → SpellsGraphs from file graphs → AreGraphs graphs
are_graphs G6 file graphs spelt =
    let read = spelled_has_no_fault NAMES file graphs (omega arith) spelt in
    each_is_graph graphs (subst (All IsGraph) read.1 (graphs_are_graphs NAMES file (omega arith) read.0))
are_graphs Dimacs file graphs spelt = subst AreGraphs (sym spelt.1) (spelt.2.graph, tt)
