-- A graph without loops and parallel edges, as contracts see it: a finite set of vertices and a
-- finite set of edges, each edge the pair of its two ends with the smaller first. Source: any
-- textbook on graphs.
use Rattle.std.specs.Prelude.{ℕ, zero, suc, ◌<◌, min, max, Bool, not, ◌&&◌, ◌==◌, if◌then◌else◌, List, map, IsTrue, refl}
use Rattle.std.specs.declared.cmp.Ordering.{Ordering}
use Rattle.std.specs.Ordering.{nat_cmp, then_cmp, on}
use Rattle.std.specs.FinSet as set
use Rattle.std.specs.Coded.{Coded, code_by, coded×, coded_ℕ}
use Rattle.md_graph.specs.declared.TheConstants.{NAMES}
use Rattle.md_graph.specs.Sets.{NameSet, Has}
use Rattle.md_graph.specs.NameSet.{ascending, range}

-- pairs in lexicographic order: by the first number, then by the second
abbrev pub pair_cmp : ℕ × ℕ → ℕ × ℕ → Ordering
pair_cmp = then_cmp (on (λ (p : ℕ × ℕ). p.0) nat_cmp) (on (λ (p : ℕ × ℕ). p.1) nat_cmp)

-- a set of pairs of numbers
abbrev pub PairSet : Type 0
PairSet = set.FinSet pair_cmp

pub record PlainGraph : Type 0 where
  pub vertices : NameSet
  pub edges : PairSet

-- a graph is stored as its two sets
abbrev pub graph_code : Coded PlainGraph
graph_code =
    code_by (NameSet × PairSet) (coded× (set.code coded_ℕ) (set.code (coded× coded_ℕ coded_ℕ)))
    (λ g. (g.vertices, g.edges)) (λ p. record { vertices = p.0; edges = p.1 }) (λ _. refl)

-- `start` with the pairs (u, v), u below `bound`, for which the test is true
unfoldable pub pairs_at : (ℕ → ℕ → Bool) → PairSet → ℕ → ℕ → PairSet
pairs_at test start v zero = start
pairs_at test start v (suc u) =
    if test u v then set.insert (pairs_at test start v u) (u, v) else pairs_at test start v u

-- the pairs (u, v), u < v < bound, for which the test is true
unfoldable pub pairs_where : (ℕ → ℕ → Bool) → ℕ → PairSet
pairs_where test zero = set.empty
pairs_where test (suc v) = pairs_at test (pairs_where test v) v v

-- the edge between u and v: its smaller end, then its larger end
abbrev pub edge : ℕ → ℕ → ℕ × ℕ
edge u v = (min u v, max u v)

-- whether an edge runs between u and v
unfoldable pub adjacent : PlainGraph → ℕ → ℕ → Bool
adjacent g u v = set.contains g.edges (edge u v)

-- the vertices that are adjacent to v
unfoldable pub neighbours : PlainGraph → ℕ → NameSet
neighbours g v = set.retain g.vertices (adjacent g v)

-- What holds of every graph: its vertices are names, and an edge has two different ends, both of
-- them vertices, the smaller first.
pub record IsGraph (g : PlainGraph) : Type 0 where
  pub names : (v : ℕ) → Has g.vertices v → v < NAMES
  pub ordered : (u v : ℕ) → IsTrue (set.contains g.edges (u, v)) → u < v
  pub low_end : (u v : ℕ) → IsTrue (set.contains g.edges (u, v)) → Has g.vertices u
  pub high_end : (u v : ℕ) → IsTrue (set.contains g.edges (u, v)) → Has g.vertices v

-- the graph without vertices
abbrev pub empty_graph : PlainGraph
empty_graph = record { vertices = set.empty; edges = set.empty }

-- g with the vertex v, and no new edge
abbrev pub with_vertex : PlainGraph → ℕ → PlainGraph
with_vertex g v = record { vertices = set.insert g.vertices v; edges = g.edges }

-- g with the vertices from `from` on, `count` of them, and no new edge
abbrev pub with_range : PlainGraph → ℕ → ℕ → PlainGraph
with_range g from count = record { vertices = set.union g.vertices (range from count); edges = g.edges }

-- g with an edge between u and v
abbrev pub with_edge : PlainGraph → ℕ → ℕ → PlainGraph
with_edge g u v = record { vertices = g.vertices; edges = set.insert g.edges (edge u v) }

-- the edges between v and each name of the list
abbrev pub star : ℕ → List ℕ → PairSet
star v others = set.from_list (map (edge v) others)

-- g with an edge between v and each member of `others`
abbrev pub with_edges : PlainGraph → ℕ → NameSet → PlainGraph
with_edges g v others = record { vertices = g.vertices; edges = set.union g.edges (star v (ascending others)) }

-- g with the vertex v, and edges between it and the vertices of a list
abbrev pub joined_graph : PlainGraph → ℕ → List ℕ → PlainGraph
joined_graph g v others = with_edges (with_vertex g v) v (set.from_list others)

-- the complement of g, for vertices below NAMES: the same vertices, and an edge between two of them
-- where g has none
abbrev pub complement : PlainGraph → PlainGraph
complement g = record {
  vertices = g.vertices;
  edges =
      pairs_where (λ u v. (set.contains g.vertices u && set.contains g.vertices v) && not (adjacent g u v)) NAMES;
}

-- the graph that g induces on s: the vertices of g in s, and the edges of g with both ends in s
abbrev pub induced : PlainGraph → NameSet → PlainGraph
induced g s = record {
  vertices = set.intersection g.vertices s;
  edges = set.retain g.edges (λ p. set.contains s p.0 && set.contains s p.1);
}

-- g without the vertex v and the edges at it
abbrev pub without_vertex : PlainGraph → ℕ → PlainGraph
without_vertex g v = record {
  vertices = set.remove g.vertices v;
  edges = set.retain g.edges (λ p. not (p.0 == v) && not (p.1 == v));
}

-- g without the edge between u and v
abbrev pub without_edge : PlainGraph → ℕ → ℕ → PlainGraph
without_edge g u v = record { vertices = g.vertices; edges = set.remove g.edges (edge u v) }
