use Rattle.std.proofs.Common.{◌≡◌, ◌<◌, length}
use Rattle.std.specs.FinSet.{empty}
use Rattle.md_graph.specs.PlainGraph.{adjacent}
use Rattle.md_modules.specs.Classes.{class_at}
use Rattle.md_modules.specs.Classes.{AreFiner, HoldsSplitters}
use Rattle.md_modules.proofs.ClassLists.{work}
use Rattle.md_modules.proofs.ClassLemmas.{IsCutting}
use Rattle.md_modules.proofs.refinement.cut_classes.Given as goal

abbrev pub invariant-loop-at : goal.invariant-loop-at
invariant-loop-at g l = record {
  cutting : IsCutting (adjacent l.graph) l.set l.rest l.classes.items l.at;
  finer : AreFiner l.fn.classes.items l.classes.items;
  empty : l.other ≡ empty;
  left : l.at < length l.classes.items → HoldsSplitters (adjacent l.graph) l.set (class_at l.classes.items l.at) l.left;
}

abbrev pub decreases-loop-at : goal.decreases-loop-at
decreases-loop-at g l = work l.classes.items l.at
