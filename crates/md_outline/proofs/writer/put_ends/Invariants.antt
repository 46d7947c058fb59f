use Rattle.std.proofs.Common.{List, ℕ, ◌++◌, vec_len}
use Rattle.md_graph.specs.PlainGraph.{adjacent}
use Rattle.md_tree.specs.declared.Kind.{Kind}
use Rattle.md_outline.specs.declared.outline.OutlinePart.{OutlinePart}
use Rattle.md_outline.specs.BegunNodes.{IsOnWay}
use Rattle.md_outline.proofs.writer.put_ends.Given as goal

abbrev pub invariant-loop-node : goal.invariant-loop-node
invariant-loop-node g l = (whole : List ℕ) (parts : List (OutlinePart Kind)) → IsOnWay (adjacent l.graph) l.graph.vertices whole (l.fn.text.items ++ l.fn.progress.pairs.chunk) parts l.fn.progress.begun.items l.fn.progress.heads.items →
    IsOnWay (adjacent l.graph) l.graph.vertices whole (l.text.items ++ l.progress.pairs.chunk) parts l.progress.begun.items l.progress.heads.items

abbrev pub decreases-loop-node : goal.decreases-loop-node
decreases-loop-node g l = vec_len l.progress.begun
