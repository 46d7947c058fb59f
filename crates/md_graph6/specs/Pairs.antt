-- A graph on the way through the pairs of a sparse6 line.
use Rattle.std.specs.Prelude.{◌≡◌, ℕ, ◌+◌, ◌*◌, ◌<◌, ◌≤◌, ◌==◌, ◌&&◌, ◌||◌, min, nat_lt, List, length}
use Rattle.std.specs.FinSet as set
use Rattle.md_graph.specs.PlainGraph.{PlainGraph, IsGraph, adjacent}
use Rattle.md_graph6.specs.Sparse.{reached, some_pair, gives}

-- pair p of a body, of k + 1 bits as each, begins with bit `from` of byte `at`; the vertex that is reached is
-- `vertex`, or none of the n, and then `vertex` is n
pub record IsAtPair (body : List ℕ) (k n p at from vertex : ℕ) : Type 0 where
  pub place : 6 * at + from ≡ p * (k + 1)
  pub shift : from < 6
  pub inside : at ≤ length body
  pub reached : vertex ≡ min (reached body k p) n

-- a graph on the numbers below n that has the edges of the first p pairs
pub record HasPairEdges (body : List ℕ) (k n p : ℕ) (g : PlainGraph) : Type 0 where
  pub vertices : (v : ℕ) → set.contains g.vertices v ≡ nat_lt v n
  pub graph : IsGraph g
  pub pairs : (a b : ℕ) → a < b → adjacent g a b ≡ (nat_lt b n && some_pair (gives body k a b) p)

-- g with the edge between `other` and the larger `vertex`, if that is below n
pub record IsWithPair (g : PlainGraph) (n other vertex : ℕ) (new : PlainGraph) : Type 0 where
  pub vertices : new.vertices ≡ g.vertices
  pub graph : IsGraph new
  pub pairs : (a b : ℕ) → a < b
      → adjacent new a b ≡ ((nat_lt b n && ((other == a) && (vertex == b))) || adjacent g a b)
