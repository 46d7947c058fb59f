-- The induced P4s that an edit makes: each holds both ends of its edge, or its new vertex.
-- Source: Corneil, Lerchs and Stewart Burlingham, Complement reducible graphs.
use Rattle.std.specs.Prelude.{◌≢◌, ℕ, ⊤}
use Rattle.md_graph.specs.Sets.{Has}
use Rattle.md_graph.specs.PlainGraph.{PlainGraph, adjacent}
use Rattle.md_modules.specs.InducedPaths.{IsInducedPath, IsOneOf}
use Rattle.md_script.specs.declared.edit.Edit.{Edit}
use Rattle.md_script.specs.declared.edit.Edit.TheVariants.{AddEdge, DelEdge, AddVertex, DelVertex}

-- the graph has what an edit that led to it names: two ends, or the new vertex
abbrev pub HasChange : PlainGraph → Edit → Type 0
HasChange g (AddEdge u v) = Has g.vertices u × Has g.vertices v × (u ≢ v)
HasChange g (DelEdge u v) = Has g.vertices u × Has g.vertices v × (u ≢ v)
HasChange g (AddVertex x neighbours) = Has g.vertices x
HasChange g (DelVertex x) = ⊤

-- both ends of the edge of an edit are among four names, or its new vertex is
abbrev pub HoldsChange : Edit → ℕ → ℕ → ℕ → ℕ → Type 0
HoldsChange (AddEdge u v) a b c d = IsOneOf u a b c d × IsOneOf v a b c d
HoldsChange (DelEdge u v) a b c d = IsOneOf u a b c d × IsOneOf v a b c d
HoldsChange (AddVertex x neighbours) a b c d = IsOneOf x a b c d
HoldsChange (DelVertex x) a b c d = ⊥

-- no induced P4 of g holds the change of an edit
abbrev pub HasNoneMade : PlainGraph → Edit → Type 0
HasNoneMade g edit = (a b c d : ℕ) → IsInducedPath (adjacent g) g.vertices a b c d → HoldsChange edit a b c d → ⊥
