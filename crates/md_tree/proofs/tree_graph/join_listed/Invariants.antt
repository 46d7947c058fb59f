use Rattle.std.proofs.Common.{◌≡◌, ℕ, ◌||◌, drop, map}
use Rattle.md_graph.specs.PlainGraph.{adjacent}
use Rattle.md_tree.specs.Trees.{row}
use Rattle.md_tree.specs.Plain.{plain}
use Rattle.md_tree.specs.TreeEdges.{in_listed}
use Rattle.md_tree.proofs.tree_graph.join_listed.Given as goal

abbrev pub invariant-loop-pair : goal.invariant-loop-pair
invariant-loop-pair l =
    (l.graph.vertices ≡ l.initial.graph.vertices)
    × ((x y : ℕ) → (adjacent l.graph x y || in_listed (row (map plain l.children.list.items)) (drop l.pair-index l.edges.list.items) x y)
    ≡ (adjacent l.initial.graph x y || in_listed (row (map plain l.children.list.items)) l.edges.list.items x y))
