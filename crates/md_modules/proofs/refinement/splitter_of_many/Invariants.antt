use Rattle.std.proofs.Common.{ℕ}
use Rattle.std.specs.FinSet.{len}
use Rattle.md_graph.specs.PlainGraph.{adjacent}
use Rattle.md_graph.specs.Sets.{Has, Within}
use Rattle.md_modules.specs.Classes.{IsSplitter}
use Rattle.md_modules.proofs.refinement.splitter_of_many.Given as goal

abbrev pub invariant-loop-p : goal.invariant-loop-p
invariant-loop-p g l = record {
  less : Within l.left l.initial.left;
  kept : (p : ℕ) → IsSplitter (adjacent l.graph) l.initial.left l.class p → Has l.left p;
}

abbrev pub decreases-loop-p : goal.decreases-loop-p
decreases-loop-p g l = len l.left
