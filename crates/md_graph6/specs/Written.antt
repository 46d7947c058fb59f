-- The graph6 text of a graph.
-- Source: B. McKay, "Description of graph6, sparse6 and digraph6 encodings".
use Rattle.std.specs.Prelude.{◌≡◌, ℕ, ◌+◌, ◌<◌, ◌≤◌, Bool, List, [], ◌∷◌, ◌++◌, length, get_or, if◌then◌else◌}
use Rattle.md_graph.specs.declared.TheConstants.{NAMES}
use Rattle.md_graph.specs.NameSet.{ascending, range}
use Rattle.md_graph.specs.PlainGraph.{PlainGraph, adjacent, pairs_where}
use Rattle.md_graph6.specs.Bits.{bit, pair_number}
use Rattle.md_graph6.specs.Line.{SpellsGraph6}
use Rattle.md_graph6.specs.Window.{AreGroups}

-- the i-th vertex in ascending order, counted from 0
abbrev pub nth : PlainGraph → ℕ → ℕ
nth g i = get_or (ascending g.vertices) i 0

-- the first n vertices are consecutive numbers: the i-th is `least + i`
abbrev pub AreFrom : PlainGraph → ℕ → ℕ → Type 0
AreFrom g least n = (i : ℕ) → i < n → nth g i ≡ least + i

-- whether the i-th and the j-th vertex are adjacent
abbrev pub are_adjacent : PlainGraph → ℕ → ℕ → Bool
are_adjacent g i j = adjacent g (nth g i) (nth g j)

-- the graph with the i-th vertex renamed to i
abbrev pub renumbered : PlainGraph → PlainGraph
renumbered g = record {
  vertices = range 0 (length (ascending g.vertices));
  edges = pairs_where (are_adjacent g) (length (ascending g.vertices));
}

-- 1 for an edge
abbrev pub bit_if : Bool → ℕ
bit_if edge = if edge then 1 else 0

-- a body that holds the bits of the pairs of the first n vertices, and no other bit
pub record IsWritten (body : List ℕ) (g : PlainGraph) (n : ℕ) : Type 0 where
  pub groups : AreGroups body
  pub bits : (i j : ℕ) → i < j → j < n → bit body (pair_number i j) ≡ bit_if (are_adjacent g i j)
  pub blank : (k : ℕ) → pair_number 0 n ≤ k → bit body k ≡ 0

-- a graph6 line of the graph so renumbered, and a line feed
pub record IsTextOf (text : List ℕ) (g : PlainGraph) : Type 0 where
  pub line : List ℕ
  pub ended : text ≡ line ++ 10 ∷ []
  pub spells : SpellsGraph6 NAMES line (renumbered g)
