-- The arcs that rows keep, and what holds of the rows of a directed graph: those of the arcs out of
-- each name and those of the arcs into it.
-- Source: the adjacency matrix of a directed graph and its transpose, as in any textbook.
use Rattle.std.specs.Prelude.{◌≡◌, ℕ, zero, suc, ◌*◌, ◌<◌, ◌≤◌, Bool, List, length}
use Rattle.std.specs.FinSet as set
use Rattle.md_graph.specs.Sets.{NameSet, Has, Lacks}
use Rattle.md_graph.specs.PlainGraph.{PairSet, pairs_at}
use Rattle.md_graph.specs.Rows.{row_of}
use Rattle.md_digraph.specs.declared.TheConstants.{DIRECTED_NAMES, DIRECTED_WORDS}
use Rattle.md_digraph.specs.PlainDigraph.{PlainDigraph}

-- the pairs (u, v), u < bound and v < count, for which the test is true
unfoldable pub arcs_where : (ℕ → ℕ → Bool) → ℕ → ℕ → PairSet
arcs_where test bound zero = set.empty
arcs_where test bound (suc v) = pairs_at test (arcs_where test bound v) v bound

-- the pairs (u, v) for which v stands in the row out of u
unfoldable pub arcs_of : List NameSet → PairSet
arcs_of out = arcs_where (λ u v. set.contains (row_of out u) v) DIRECTED_NAMES DIRECTED_NAMES

-- the directed graph that the set of live names and the rows out keep
abbrev pub digraph_of : NameSet → List NameSet → PlainDigraph
digraph_of live out = record { vertices = live; arcs = arcs_of out }

-- What holds of the rows of a directed graph whose vertices are below `limit`: one of each family
-- for each name below it; an arc stands in the row out of its tail and in the row into its head,
-- which are live and differ.
pub record AreArcRows (limit : ℕ) (live : NameSet) (out into : List NameSet) : Type 0 where
  pub out_each : length out ≡ limit
  pub into_each : length into ≡ limit
  pub few : limit ≤ DIRECTED_NAMES
  pub both_ways : (u v : ℕ) → set.contains (row_of out u) v ≡ set.contains (row_of into v) u
  pub no_loop : (v : ℕ) → Lacks (row_of out v) v
  pub tail : (u v : ℕ) → Has (row_of out u) v → Has live u
  pub head : (u v : ℕ) → Has (row_of out u) v → Has live v
  pub names : (v : ℕ) → Has live v → v < limit

-- What holds of the room for the rows of a directed graph on names of `words` words, of which
-- `size` of each family are made: `out_room` and `into_room` rows fit without new memory.
pub record HasRoomForArcs (words size out_room into_room : ℕ) : Type 0 where
  pub made : size ≤ 64 * words
  pub few : words ≤ DIRECTED_WORDS
  pub out_fits : 64 * words ≤ out_room
  pub into_fits : 64 * words ≤ into_room
