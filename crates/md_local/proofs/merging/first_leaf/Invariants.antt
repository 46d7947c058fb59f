use Rattle.std.proofs.Common.{◌≡◌, length}
use Rattle.md_tree.specs.Heads.{head}
use Rattle.md_tree.specs.Plain.{plain}
use Rattle.md_tree.specs.Trees.{node_sets}
use Rattle.md_local.proofs.merging.first_leaf.Given as goal

abbrev pub invariant-loop-first : goal.invariant-loop-first
invariant-loop-first l = head (plain l.first) ≡ head (plain l.fn.tree)

abbrev pub decreases-loop-first : goal.decreases-loop-first
decreases-loop-first l = length (node_sets (plain l.first))
