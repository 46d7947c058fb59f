-- A directed graph on the way from its vertices alone to what a body spells. Only private contracts cite it.
-- Source: the adjacency matrix, row by row.
use Rattle.std.specs.Prelude.{◌≡◌, ℕ, ◌==◌, ◌&&◌, ◌||◌, nat_lt, List}
use Rattle.std.specs.FinSet as set
use Rattle.md_graph.specs.Sets.{NameSet}
use Rattle.md_digraph.specs.PlainDigraph.{PlainDigraph, has_arc_to}
use Rattle.md_digraph6.specs.ArcLine.{is_arc}

-- a directed graph on the numbers below n that has the arcs of the rows below row i
pub record HasArcRows (body : List ℕ) (n i : ℕ) (g : PlainDigraph) : Type 0 where
  pub vertices : (v : ℕ) → set.contains g.vertices v ≡ nat_lt v n
  pub arcs : (a b : ℕ) → has_arc_to g a b ≡ ((nat_lt a i && nat_lt b n) && is_arc body n a b)

-- the heads of the arcs of row i
abbrev pub IsArcRow : List ℕ → ℕ → ℕ → NameSet → Type 0
IsArcRow body n i row = (v : ℕ) → set.contains row v ≡ (nat_lt v n && is_arc body n i v)

-- g with an arc from u to each member of a set
pub record IsWithArcs (g : PlainDigraph) (u : ℕ) (heads : NameSet) (new : PlainDigraph) : Type 0 where
  pub vertices : new.vertices ≡ g.vertices
  pub arcs : (a b : ℕ) → has_arc_to new a b ≡ (((a == u) && set.contains heads b) || has_arc_to g a b)
