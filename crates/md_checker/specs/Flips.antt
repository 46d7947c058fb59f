-- Rows of names that are changed by what stands before each name in a list.
-- Source: two orders of the vertices of a permutation graph, Golumbic, Algorithmic Graph Theory and Perfect Graphs, chapter 7.
use Rattle.std.specs.Prelude.{◌≡◌, ℕ, not, List}
use Rattle.std.specs.FinSet as set
use Rattle.md_graph.specs.Sets.{NameSet}
use Rattle.md_graph.specs.Rows.{row_of}
use Rattle.md_comparability.specs.Orders.{Before}

-- in the row of each name, those names are flipped that stand before it in the list
pub record AreFlipped (list : List ℕ) (old new : List NameSet) : Type 0 where
  pub kept : (u v : ℕ) → ¬ Before list u v → set.contains (row_of new v) u ≡ set.contains (row_of old v) u
  pub turned : (u v : ℕ) → Before list u v → set.contains (row_of new v) u ≡ not (set.contains (row_of old v) u)
