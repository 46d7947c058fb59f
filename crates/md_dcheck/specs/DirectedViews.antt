-- A directed graph as a comparison with the text of a tree sees it. Only private contracts cite it.
-- Source: Ehrenfeucht and Rozenberg, Theory of 2-structures, for the directed graph as one of its
-- instances.
use Rattle.std.specs.Prelude.{⊤}
use Rattle.md_digraph.specs.PlainDigraph.{PlainDigraph, has_arc_to}
use Rattle.md_digraph.specs.ArcColours.{ArcColour, between}
use Rattle.md_checker.specs.TextViews.{View}
use Rattle.md_dtree.specs.declared.DKind.{DKind}
use Rattle.md_dtree.specs.declared.DKind.TheVariants.{Prime}
use Rattle.md_dtree.specs.declared.DPair.{DPair}
use Rattle.md_dtree.specs.DirectedFits.{puts_arcs}

-- a prime node lists the pairs with an arc from the first to the second
abbrev pub digraph_view : PlainDigraph → View DKind DPair
digraph_view g = record {
  vertices = g.vertices;
  Colour = ArcColour;
  colours = between (has_arc_to g);
  puts = puts_arcs;
  prime = Prime;
  lists = has_arc_to g;
  Admits = λ k cs. ⊤;
}
