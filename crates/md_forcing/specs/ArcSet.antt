-- Sets of arcs as rows: the row of a name has the heads of the arcs with that tail.
-- Source: the adjacency matrix of a graph, as in any textbook.
use Rattle.std.specs.Prelude.{◌≡◌, ◌≤◌, ℕ, Bool, List, length}
use Rattle.std.specs.FinSet as set
use Rattle.md_graph.specs.declared.TheConstants.{NAMES}
use Rattle.md_graph.specs.Sets.{NameSet, Has}
use Rattle.md_graph.specs.Rows.{row_of}
use Rattle.md_forcing.specs.declared.arc.Arc.{Arc}
use Rattle.md_forcing.specs.Forcing.{IsArc, ForcesDirectly}

-- the arc is in the set
abbrev pub HasArc : List NameSet → Arc → Type 0
HasArc rows a = Has (row_of rows a.tail) a.head

-- rows by tail and rows by head of the same arcs, on names below `limit`
pub record AreTransposed (limit : ℕ) (by_tail by_head : List NameSet) : Type 0 where
  pub few : length by_tail ≤ limit
  pub names : limit ≤ NAMES
  pub same : length by_head ≡ length by_tail
  pub both : (u v : ℕ) → set.contains (row_of by_head v) u ≡ set.contains (row_of by_tail u) v

-- with an arc all arcs that it forces are in the set
abbrev pub IsForcingClosed : (ℕ → ℕ → Bool) → List NameSet → Type 0
IsForcingClosed e rows = (a b : Arc) → HasArc rows a → IsArc e b → ForcesDirectly e a b → HasArc rows b
