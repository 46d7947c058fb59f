use Rattle.std.proofs.Common.{◌++◌}
use Rattle.md_graph.specs.PlainGraph.{adjacent}
use Rattle.md_tree.specs.Spellings.{graph_pairs}
use Rattle.md_outline.specs.NodeRows.{is_edge_up}
use Rattle.md_outline.proofs.HeadPairs.{AreHeadsPut}
use Rattle.md_outline.proofs.head_pairs.gather_pairs.Given as goal

abbrev pub invariant-loop-position : goal.invariant-loop-position
invariant-loop-position g l = AreHeadsPut graph_pairs (is_edge_up (adjacent l.graph)) l.heads l.position (l.fn.text.items ++ l.fn.space.chunk) (l.text.items ++ l.space.chunk) l.space.mark l.space.places
