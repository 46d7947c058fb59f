use Rattle.std.proofs.Common.{◌≡◌, List, ◌++◌, length, map}
use Rattle.md_graph.specs.PlainGraph.{PlainGraph}
use Rattle.md_tree.specs.Plain.{plain}
use Rattle.md_tree.specs.Trees.{PlainTree}
use Rattle.md_local.specs.Growing.{IsGrownBelow}
use Rattle.md_local.proofs.growing.pass_leaves.Given as goal

abbrev pub invariant-loop-name : goal.invariant-loop-name
invariant-loop-name l =
    (ts : List PlainTree) × (map plain l.initial.rest ≡ ts ++ map plain l.rest) ×
    ((g : PlainGraph) (us : List PlainTree) → IsGrownBelow g l.u l.v us l.initial.below → IsGrownBelow g l.u l.v (us ++ ts) l.below)

abbrev pub decreases-loop-name : goal.decreases-loop-name
decreases-loop-name l = length l.rest
