-- Loose trees over places on a stack, as a cotree is put together from an outline.
-- Source: the evaluation of prefix notation, read from right to left.
use Rattle.std.specs.Prelude.{◌≡◌, ◌≢◌, ◌<◌, ◌≤◌, ℕ, List, [], ◌∷◌, length, take, drop, reverse, slice_index_or, None, ⊤}
use Rattle.md_graph.specs.declared.TheConstants.{NAMES}
use Rattle.md_lists.specs.Links.{AreLinks}
use Rattle.md_lists.specs.Words.{holds_once}
use Rattle.md_tree.specs.declared.Kind.{Kind}
use Rattle.md_tree.specs.declared.Kind.TheVariants.{Prime}
use Rattle.md_tree.specs.Trees.{PlainTree, leaf, node, row}
use Rattle.md_outline.specs.declared.outline.OutlinePart.{OutlinePart}
use Rattle.md_outline.specs.declared.outline.OutlinePart.TheVariants.{Name, Node}
use Rattle.md_cotree.specs.declared.cotree.Cotree.{Cotree}
use Rattle.md_cotree.specs.Cotrees.{AreEntries}
use Rattle.md_cotree.specs.PlaceTrees.{PlaceTrees, no_more, then, roots, leaves_among, leaf_counts, shape, FillsLists}

-- two rows, one behind the other
abbrev pub row_append : PlaceTrees → PlaceTrees → PlaceTrees
row_append no_more us = us
row_append (then t ts) us = then t (row_append ts us)

-- the trees of a row without their places
abbrev pub shape_list : PlaceTrees → List PlainTree
shape_list no_more = []
shape_list (then t ts) = shape t ∷ shape_list ts

-- the cotree keeps these loose trees, whose roots are the stack, the first on top
pub record IsForest (c : Cotree) (stack : List ℕ) (ts : PlaceTrees) : Type 0 where
  pub fits : FillsLists c.lists ts
  pub links : AreLinks c.lists
  pub on_stack : reverse (roots ts) ≡ stack
  pub entries : AreEntries c.places
  pub names : (v p : ℕ) → leaves_among p v ts ≡ holds_once (slice_index_or c.places.items v None) p
  pub leaves : c.leaves ≡ leaf_counts ts
  pub unmarked : c.lists.marked ≡ []

-- the trees of a stack after one more part, the uppermost first: a name is a tree, and a node takes the first ones as its children
abbrev pub with_outline_part : OutlinePart Kind → List PlainTree → List PlainTree
with_outline_part (Name v) ts = leaf v ∷ ts
with_outline_part (Node k n) ts = node k (row (take n ts)) [] ∷ drop n ts

-- there are as many trees as the part has children
abbrev pub HasTreesFor : OutlinePart Kind → List PlainTree → Type 0
HasTreesFor (Name v) ts = ⊤
HasTreesFor (Node k n) ts = n ≤ length ts

-- no leaf has the name of the part, and its kind isn't prime
abbrev pub IsReady : Cotree → OutlinePart Kind → Type 0
IsReady c (Name v) = (v < NAMES) × (slice_index_or c.places.items v None ≡ None)
IsReady c (Node k n) = k ≢ Prime
