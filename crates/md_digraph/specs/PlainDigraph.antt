-- A directed graph without loops and parallel arcs, as contracts see it: a finite set of vertices
-- and a finite set of arcs, each arc the pair of the vertex that it leaves and the one that it
-- enters. Source: Bang-Jensen and Gutin, Digraphs: theory, algorithms and applications.
use Rattle.std.specs.Prelude.{◌≡◌, ◌≢◌, ℕ, ◌<◌, Bool, true, refl}
use Rattle.std.specs.FinSet as set
use Rattle.std.specs.Coded.{Coded, code_by, coded×, coded_ℕ}
use Rattle.md_digraph.specs.declared.TheConstants.{DIRECTED_NAMES}
use Rattle.md_graph.specs.Sets.{NameSet, Has}
use Rattle.md_graph.specs.PlainGraph.{PairSet}

pub record PlainDigraph : Type 0 where
  pub vertices : NameSet
  pub arcs : PairSet

-- a directed graph is stored as its two sets
abbrev pub digraph_code : Coded PlainDigraph
digraph_code =
    code_by (NameSet × PairSet) (coded× (set.code coded_ℕ) (set.code (coded× coded_ℕ coded_ℕ)))
    (λ g. (g.vertices, g.arcs)) (λ p. record { vertices = p.0; arcs = p.1 }) (λ _. refl)

-- whether an arc runs from u to v
unfoldable pub has_arc_to : PlainDigraph → ℕ → ℕ → Bool
has_arc_to g u v = set.contains g.arcs (u, v)

-- the vertices that the arcs from v enter
unfoldable pub successors : PlainDigraph → ℕ → NameSet
successors g v = set.retain g.vertices (has_arc_to g v)

-- the vertices that the arcs to v leave
unfoldable pub predecessors : PlainDigraph → ℕ → NameSet
predecessors g v = set.retain g.vertices (λ u. has_arc_to g u v)

-- What holds of every directed graph: its vertices are names below DIRECTED_NAMES, and an arc runs
-- between two different vertices.
pub record IsDigraph (g : PlainDigraph) : Type 0 where
  pub names : (v : ℕ) → Has g.vertices v → v < DIRECTED_NAMES
  pub differ : (u v : ℕ) → has_arc_to g u v ≡ true → u ≢ v
  pub tail : (u v : ℕ) → has_arc_to g u v ≡ true → Has g.vertices u
  pub head : (u v : ℕ) → has_arc_to g u v ≡ true → Has g.vertices v

-- the directed graph without vertices
abbrev pub empty_digraph : PlainDigraph
empty_digraph = record { vertices = set.empty; arcs = set.empty }

-- g with the vertex v, and no new arc
abbrev pub digraph_with_vertex : PlainDigraph → ℕ → PlainDigraph
digraph_with_vertex g v = record { vertices = set.insert g.vertices v; arcs = g.arcs }

-- g with an arc from u to v
abbrev pub with_arc : PlainDigraph → ℕ → ℕ → PlainDigraph
with_arc g u v = record { vertices = g.vertices; arcs = set.insert g.arcs (u, v) }
