-- The arcs of a set as a list.
-- Source: the order of pairs by first member, then by second, as in any textbook.
use Rattle.std.specs.Prelude.{ℕ, zero, suc, List, [], ◌++◌, map}
use Rattle.md_graph.specs.Sets.{NameSet}
use Rattle.md_graph.specs.NameSet.{ascending}
use Rattle.md_graph.specs.Rows.{row_of}
use Rattle.md_forcing.specs.declared.arc.Arc.{Arc}
use Rattle.md_forcing.specs.Forcing.{arc}

-- the arcs that rows by tail hold, with tails below n, in ascending order
unfoldable pub arcs_below : List NameSet → ℕ → List Arc
arcs_below rows zero = []
arcs_below rows (suc n) = arcs_below rows n ++ map (arc n) (ascending (row_of rows n))
