-- The laws of cotrees.
-- Source: Corneil, Perl and Stewart, A linear recognition algorithm for cographs.
use Rattle.std.specs.Prelude.{◌≡◌, Option}
use Rattle.md_graph.specs.PlainGraph.{PlainGraph, IsGraph, adjacent}
use Rattle.md_modules.specs.InducedPaths.{HasInducedPath}
use Rattle.md_cotree.specs.declared.cotree.Cotree.{Cotree}
use Rattle.md_cotree.specs.PlaceTrees.{PlaceTree}
use Rattle.md_cotree.specs.Cotrees.{IsKeptAs, Denotes}

-- a cotree keeps one tree at most
abbrev pub OneTreeOfACotree : Type 0
OneTreeOfACotree = (c : Cotree) (o p : Option PlaceTree) → IsKeptAs c o → IsKeptAs c p → o ≡ p

-- a cotree denotes one graph at most
abbrev pub OneGraphOfACotree : Type 0
OneGraphOfACotree = (c : Cotree) (g h : PlainGraph) → Denotes c g → Denotes c h → g ≡ h

-- what a cotree denotes is a graph on names
abbrev pub CotreeDenotesGraph : Type 0
CotreeDenotesGraph = (c : Cotree) (g : PlainGraph) → Denotes c g → IsGraph g

-- what a cotree denotes has no induced path on four vertices
abbrev pub NoPathInACotree : Type 0
NoPathInACotree = (c : Cotree) (g : PlainGraph) → Denotes c g → ¬ (HasInducedPath (adjacent g) g.vertices)
