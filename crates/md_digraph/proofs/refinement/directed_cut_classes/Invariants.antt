use Rattle.md_digraph.specs.PlainDigraph.{has_arc_to}
use Rattle.md_digraph.specs.ArcColours.{between}
use Rattle.md_modules.proofs.ClassLists.{work}
use Rattle.md_modules.proofs.ClassLemmas.{IsCutting}
use Rattle.md_digraph.proofs.refinement.directed_cut_classes.Given as goal

abbrev pub invariant-loop-at : goal.invariant-loop-at
invariant-loop-at g l = IsCutting (between (has_arc_to l.graph)) l.set l.rest l.classes.items l.at

abbrev pub decreases-loop-at : goal.decreases-loop-at
decreases-loop-at g l = work l.classes.items l.at
