-- How many steps edits of a cotree may take.
-- Source: Corneil, Perl and Stewart, A linear recognition algorithm for cographs; the numbers are this project's.
use Rattle.std.specs.Prelude.{ℕ, ◌+◌, ◌*◌, List, [], ◌∷◌, length, if◌then◌else◌}
use Rattle.std.specs.FinSet as set
use Rattle.md_graph.specs.PlainGraph.{PlainGraph, neighbours}
use Rattle.md_script.specs.declared.edit.Edit.{Edit}
use Rattle.md_script.specs.declared.edit.Edit.TheVariants.{AddEdge, DelEdge, AddVertex, DelVertex}
use Rattle.md_script.specs.Pasts.{taken_back}

-- how many steps an edit of g may take: an edge 256, and a vertex 256 and as many for each of its neighbours; none to leave out a
-- vertex that isn't there
abbrev pub edit_cost : PlainGraph → Edit → ℕ
edit_cost g (AddEdge u v) = 256
edit_cost g (DelEdge u v) = 256
edit_cost g (AddVertex x list) = 256 * (length list + 1)
edit_cost g (DelVertex x) = if set.contains g.vertices x then 256 * (set.len (neighbours g x) + 1) else 0

-- how many steps edits that are taken back from g, the last one first, may take
abbrev pub back_cost : PlainGraph → List Edit → ℕ
back_cost g [] = 0
back_cost g (edit ∷ edits) = back_cost g edits + edit_cost (taken_back g edits) edit
