-- Sound cotrees, and the graph that one denotes.
-- Source: Corneil, Perl and Stewart, A linear recognition algorithm for cographs.
use Rattle.std.specs.Prelude.{◌≡◌, ◌≤◌, ℕ, [], slice_index_or, Option, Some, None, Vec, vec_len, vec_capacity}
use Rattle.std.specs.Global.{Global}
use Rattle.std.specs.Option.{option_map}
use Rattle.md_graph.specs.declared.TheConstants.{NAMES}
use Rattle.md_graph.specs.PlainGraph.{PlainGraph}
use Rattle.md_lists.specs.Words.{holds_once}
use Rattle.md_tree.specs.TreeGraph.{graph_of_tree}
use Rattle.md_cotree.specs.declared.cotree.Cotree.{Cotree}
use Rattle.md_cotree.specs.PlaceTrees.{PlaceTree, PlaceTrees, no_more, then, place_of, leaves_among, leaf_counts, AllAlternate, shape, FillsLists}

-- the tree that there is, in a row
abbrev pub root_row : Option PlaceTree → PlaceTrees
root_row None = no_more
root_row (Some t) = then t no_more

-- the place that is kept for a name, or none
abbrev pub place_at : Cotree → ℕ → Option ℕ
place_at c v = slice_index_or c.places.items v None

-- there are entries for the names below some number, and there is room for an entry for each name
abbrev pub AreEntries : Vec (Option ℕ) Global → Type 0
AreEntries places = (vec_len places ≤ NAMES) × (NAMES ≤ vec_capacity places)

-- the cotree keeps this tree, or none: its places are the live ones, its root is the root that is kept, the place kept for a name is
-- its leaf and none is kept for another name, its leaves are counted, its kinds alternate, and nothing is marked
pub record IsKeptAs (c : Cotree) (o : Option PlaceTree) : Type 0 where
  pub fits : FillsLists c.lists (root_row o)
  pub root : c.root ≡ option_map place_of o
  pub entries : AreEntries c.places
  pub names : (v p : ℕ) → leaves_among p v (root_row o) ≡ holds_once (place_at c v) p
  pub leaves : c.leaves ≡ leaf_counts (root_row o)
  pub alternates : AllAlternate (root_row o)
  pub unmarked : c.lists.marked ≡ []

-- the cotree keeps some tree, or none
abbrev pub IsSoundCotree : Cotree → Type 0
IsSoundCotree c = (o : Option PlaceTree) × IsKeptAs c o

-- the cotree is sound, and the graph is that of its tree
abbrev pub Denotes : Cotree → PlainGraph → Type 0
Denotes c g = (o : Option PlaceTree) × IsKeptAs c o × (graph_of_tree (option_map shape o) ≡ g)
