-- A graph as a comparison with the text of a tree sees it, which may have to be a state of a session.
-- Source: Ehrenfeucht and Rozenberg, Theory of 2-structures, for graphs as one of their instances; what cographs, trivially perfect
-- graphs and threshold graphs ask of a tree is told in md_tree and md_bar_tree.
use Rattle.std.specs.Prelude.{◌≢◌, Bool, ⊤}
use Rattle.md_graph.specs.PlainGraph.{PlainGraph, adjacent}
use Rattle.md_tree.specs.declared.Kind.{Kind}
use Rattle.md_tree.specs.declared.Kind.TheVariants.{Prime}
use Rattle.md_tree.specs.declared.Pair.{Pair}
use Rattle.md_tree.specs.TreeGraph.{joins}
use Rattle.md_tree.specs.Trees.{PlainTrees}
use Rattle.md_bar_tree.specs.Inner.{IsNarrow, HasOneInner}
use Rattle.md_outline.specs.NodeRows.{is_edge_up}
use Rattle.md_report.specs.declared.line.SessionMode.{SessionMode}
use Rattle.md_report.specs.declared.line.SessionMode.TheVariants.{Edit, Cograph, Quiet, Of}
use Rattle.md_checker.specs.TextViews.{View}

-- a graph of whose tree this is asked; a prime node lists the pairs with an edge, the lower name first
abbrev pub view_where : (Kind → PlainTrees → Type 0) → PlainGraph → View Kind Pair
view_where Admits g = record {
  vertices = g.vertices;
  Colour = Bool;
  colours = adjacent g;
  puts = joins;
  prime = Prime;
  lists = is_edge_up (adjacent g);
  Admits = Admits;
}

-- any graph: nothing is asked
abbrev pub graph_view : PlainGraph → View Kind Pair
graph_view = view_where (λ k cs. ⊤)

-- a node of kind k with the children cs may stand in the tree of a state of a session of the mode: of a cograph it isn't prime, and
-- of a graph of a class it has few children that are no leaves
abbrev pub MayStandIn : SessionMode → Kind → PlainTrees → Type 0
MayStandIn Edit k cs = ⊤
MayStandIn Cograph k cs = k ≢ Prime
MayStandIn Quiet k cs = k ≢ Prime
MayStandIn (Of class) k cs = (k ≢ Prime) × (IsNarrow class k → HasOneInner cs)

-- a graph that may be a state of a session of the mode
abbrev pub state_view : SessionMode → PlainGraph → View Kind Pair
state_view mode = view_where (MayStandIn mode)
