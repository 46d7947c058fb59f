use Rattle.std.proofs.Common.{◌≡◌, ◌-◌, ◌++◌, length, drop}
use Rattle.md_graph.specs.PlainGraph.{adjacent}
use Rattle.md_tree.specs.Trees.{PlainTree, EachNode}
use Rattle.md_tree.specs.TreeTexts.{tree_text}
use Rattle.md_outline.specs.Outlines.{outline_of}
use Rattle.md_outline.specs.NodeRows.{IsNodeByRows}
use Rattle.md_outline.specs.BegunNodes.{HasChildLeft, MayGoOn}
use Rattle.md_outline.proofs.writer.push_tree.Given as goal

abbrev pub invariant-loop-next : goal.invariant-loop-next
invariant-loop-next g l = record {
  ready : HasChildLeft l.progress.begun.items;
  written : (t : PlainTree) → EachNode (IsNodeByRows (adjacent l.graph) l.graph.vertices) t → l.parts ≡ outline_of t →
      MayGoOn (adjacent l.graph) l.graph.vertices (l.fn.text.items ++ tree_text t) (l.text.items ++ l.progress.pairs.chunk) (drop l.next l.parts) l.progress.begun.items l.progress.heads.items;
}

abbrev pub decreases-loop-next : goal.decreases-loop-next
decreases-loop-next g l = length l.parts - l.next
