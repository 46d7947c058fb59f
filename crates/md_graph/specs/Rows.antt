-- The edges that rows of neighbours keep, and what holds of the rows of a graph.
-- Source: the adjacency matrix of a graph, as in any textbook.
use Rattle.std.specs.Prelude.{◌≡◌, ℕ, ◌<◌, ◌≤◌, List, length, get_or}
use Rattle.std.specs.FinSet as set
use Rattle.md_graph.specs.declared.TheConstants.{NAMES}
use Rattle.md_graph.specs.Sets.{NameSet, Has, Lacks}
use Rattle.md_graph.specs.PlainGraph.{PairSet, PlainGraph, pairs_where}

-- the row of name v
abbrev pub row_of : List NameSet → ℕ → NameSet
row_of rows v = get_or rows v set.empty

-- the pairs (u, v), u < v, for which u stands in the row of v
unfoldable pub edges_of : List NameSet → PairSet
edges_of rows = pairs_where (λ u v. set.contains (row_of rows v) u) NAMES

-- the graph that the set of live names and the rows keep
abbrev pub graph_of : NameSet → List NameSet → PlainGraph
graph_of live rows = record { vertices = live; edges = edges_of rows }

-- What holds of the rows of a graph whose vertices are below `limit`: one for each name below it; an
-- edge stands in the rows of both its ends, which are live and differ.
pub record AreRows (limit : ℕ) (live : NameSet) (rows : List NameSet) : Type 0 where
  pub one_each : length rows ≡ limit
  pub few : limit ≤ NAMES
  pub both_ways : (u v : ℕ) → set.contains (row_of rows u) v ≡ set.contains (row_of rows v) u
  pub no_loop : (v : ℕ) → Lacks (row_of rows v) v
  pub inside : (u v : ℕ) → Has (row_of rows u) v → Has live v
  pub names : (v : ℕ) → Has live v → v < limit

-- What holds of the room for the rows of a graph on names below `limit`, of which `size` are made:
-- `room` rows fit without new memory, and `none` is the row of each name behind those made.
pub record HasRoom (limit size room : ℕ) (none : NameSet) : Type 0 where
  pub made : size ≤ limit
  pub names : limit ≤ NAMES
  pub fits : limit ≤ room
  pub empty : none ≡ set.empty
