-- How a vertex leaves the tree of a cotree.
-- Source: Corneil, Perl and Stewart, A linear recognition algorithm for cographs.
use Rattle.std.specs.Prelude.{◌≡◌, ◌≢◌, ℕ, ◌+◌, ◌*◌, ◌<◌, ◌≤◌, Bool, false, not, cond, ◌&&◌, ◌==◌, List, [], ◌∷◌, Option, Some}
use Rattle.std.specs.Option.{option_map}
use Rattle.md_lists.specs.Links.{Links}
use Rattle.md_cotree.specs.PlaceTrees.{PlaceTree, tip, inner, PlaceTrees, no_more, then, place_of, leaves_in, leaves_among, leaf_count, leaf_counts, row_length, IsInner, NoneInner, Alternates, AllAlternate}
use Rattle.md_cotree.specs.Cotrees.{root_row}
use Rattle.md_cotree_edit.specs.Counts.{name_in, name_row, pair_row, edge_in, edge_row}
use Rattle.md_cotree_edit.specs.Contexts.{Frame, plug, AreAround, AreTreesKept}
use Rattle.md_cotree_edit.specs.Turns.{IsTurned}

-- ---- children that move from one node to another

-- how often two names stand in two different trees of two rows
abbrev pub pairs_of : ℕ → ℕ → PlaceTrees → PlaceTrees → ℕ
pairs_of a b ts us = (pair_row a b ts + pair_row a b us) + (name_row a ts * name_row b us + name_row b ts * name_row a us)

-- two rows have together the trees of two others
pub record AreMoved (xs ys us zs : PlaceTrees) : Type 0 where
  pub tips : (p v : ℕ) → leaves_among p v us + leaves_among p v zs ≡ leaves_among p v xs + leaves_among p v ys
  pub named : (v : ℕ) → name_row v us + name_row v zs ≡ name_row v xs + name_row v ys
  pub pairs : (a b : ℕ) → pairs_of a b us zs ≡ pairs_of a b xs ys
  pub edges : (a b : ℕ) → edge_row a b us + edge_row a b zs ≡ edge_row a b xs + edge_row a b ys
  pub leaves : leaf_counts us + leaf_counts zs ≡ leaf_counts xs + leaf_counts ys
  pub long : row_length us + row_length zs ≡ row_length xs + row_length ys
  pub none : (k : Bool) → NoneInner xs k → NoneInner ys k → NoneInner us k × NoneInner zs k
  pub alternates : AllAlternate xs → AllAlternate ys → AllAlternate us × AllAlternate zs

-- two nodes of a kind in two trees, and a child of the one that moves
pub record PassView : Type 0 where
  pub around_from : List Frame
  pub around_to : List Frame
  pub series : Bool
  pub child : PlaceTree
  pub left : PlaceTrees
  pub there : PlaceTrees

-- the two trees, with these children of the two nodes
abbrev pub two_trees : List Frame → List Frame → Bool → ℕ → PlaceTrees → ℕ → PlaceTrees → PlaceTrees
two_trees fs gs k from xs to ys = then (plug fs (inner from k xs)) (then (plug gs (inner to k ys)) no_more)

pub record CanPass (l : Links) (from c to : ℕ) (d : PassView) : Type 0 where
  pub kept : AreTreesKept l (two_trees d.around_from d.around_to d.series from (then d.child d.left) to d.there)
  pub child : place_of d.child ≡ c

-- two nodes of a kind in two trees, and the children of the one that move
pub record MoveView : Type 0 where
  pub around_from : List Frame
  pub around_to : List Frame
  pub series : Bool
  pub moved : PlaceTrees
  pub there : PlaceTrees

abbrev pub CanMove : Links → ℕ → ℕ → MoveView → Type 0
CanMove l from to d = AreTreesKept l (two_trees d.around_from d.around_to d.series from d.moved to d.there)

-- some of them have moved
pub record AreMoving (l : Links) (from to : ℕ) (d : MoveView) : Type 0 where
  pub left : PlaceTrees
  pub row : PlaceTrees
  pub kept : AreTreesKept l (two_trees d.around_from d.around_to d.series from left to row)
  pub counts : AreMoved d.moved d.there left row

-- all of them have
pub record AreAllMoved (l : Links) (from to : ℕ) (d : MoveView) : Type 0 where
  pub row : PlaceTrees
  pub kept : AreTreesKept l (two_trees d.around_from d.around_to d.series from no_more to row)
  pub counts : AreMoved d.moved d.there no_more row

-- ---- a loose tree comes in the place of a node

-- a node without children in a tree, and a loose tree
pub record PlaceView : Type 0 where
  pub frames : List Frame
  pub series : Bool
  pub child : PlaceTree

pub record CanReplace (l : Links) (r : Option ℕ) (old c : ℕ) (d : PlaceView) : Type 0 where
  pub kept : AreTreesKept l (then (plug d.frames (inner old d.series no_more)) (then d.child no_more))
  pub child : place_of d.child ≡ c
  pub root : r ≡ Some (place_of (plug d.frames (inner old d.series no_more)))

-- the lists keep this tree alone, and it has this root
pub record IsKeptFrom (l : Links) (r : Option ℕ) (t : PlaceTree) : Type 0 where
  pub kept : AreTreesKept l (then t no_more)
  pub root : r ≡ Some (place_of t)

-- ---- two nodes of a kind, one above the other, become one

-- a loose node, and one of its kind in a tree
pub record MergeView : Type 0 where
  pub frames : List Frame
  pub series : Bool
  pub below : PlaceTrees
  pub others : PlaceTrees

pub record CanMerge (l : Links) (r : Option ℕ) (top c : ℕ) (d : MergeView) : Type 0 where
  pub kept : AreTreesKept l (then (inner c d.series d.below) (then (plug d.frames (inner top d.series d.others)) no_more))
  pub root : r ≡ Some (place_of (plug d.frames (inner top d.series d.others)))

-- there is one of them, with the children of both
pub record IsMerged (l : Links) (r : Option ℕ) (d : MergeView) : Type 0 where
  pub place : ℕ
  pub row : PlaceTrees
  pub is : IsKeptFrom l r (plug d.frames (inner place d.series row))
  pub counts : AreMoved d.below d.others no_more row

-- ---- a loose tree comes below a node, or its children do where it is of the kind of the node

pub record SettleView : Type 0 where
  pub frames : List Frame
  pub series : Bool
  pub child : PlaceTree
  pub others : PlaceTrees

pub record CanSettle (l : Links) (r : Option ℕ) (top c : ℕ) (d : SettleView) : Type 0 where
  pub kept : AreTreesKept l (then d.child (then (plug d.frames (inner top d.series d.others)) no_more))
  pub child : place_of d.child ≡ c
  pub root : r ≡ Some (place_of (plug d.frames (inner top d.series d.others)))
  pub kind : IsInner d.child (not d.series) → ⊥

-- the children of a node of a kind, when a tree has come to them
pub record TakesChild (k : Bool) (y : PlaceTree) (ys zs : PlaceTrees) : Type 0 where
  pub tips : (p v : ℕ) → leaves_among p v zs ≡ leaves_in p v y + leaves_among p v ys
  pub named : (v : ℕ) → name_row v zs ≡ name_in v y + name_row v ys
  pub edges : (a b : ℕ) → cond k (pair_row a b zs) 0 + edge_row a b zs ≡ cond k (pair_row a b (then y ys)) 0 + edge_row a b (then y ys)
  pub leaves : leaf_counts zs ≡ leaf_count y + leaf_counts ys
  pub alternates : Alternates y → 1 ≤ row_length ys → NoneInner ys k → AllAlternate ys → (2 ≤ row_length zs) × NoneInner zs k × AllAlternate zs

pub record IsSettled (l : Links) (r : Option ℕ) (d : SettleView) : Type 0 where
  pub place : ℕ
  pub row : PlaceTrees
  pub is : IsKeptFrom l r (plug d.frames (inner place d.series row))
  pub taken : TakesChild d.series d.child d.others row

-- how many children a tree has
abbrev pub below_count : PlaceTree → ℕ
below_count (tip p v) = 0
below_count (inner p k ts) = row_length ts

-- how many trees stand beside a hole
abbrev pub beside_count : List Frame → ℕ
beside_count [] = 0
beside_count (f ∷ fs) = row_length f.others

-- ---- a node of one child goes

pub record CloseView : Type 0 where
  pub frames : List Frame
  pub series : Bool
  pub child : PlaceTree

-- the tree with the node
abbrev pub open_tree : ℕ → CloseView → PlaceTree
open_tree above d = plug d.frames (inner above d.series (then d.child no_more))

pub record CanClose (l : Links) (r : Option ℕ) (above : ℕ) (d : CloseView) : Type 0 where
  pub is : IsKeptFrom l r (open_tree above d)
  pub around : AreAround d.frames d.series
  pub alternates : Alternates d.child
  pub kind : IsInner d.child d.series → ⊥

-- no two names
abbrev pub no_pairs : ℕ → ℕ → ℕ
no_pairs a b = 0

-- the lists keep a tree whose kinds alternate, with the leaves and the pairs of another
pub record IsNodeClosed (l : Links) (r : Option ℕ) (t : PlaceTree) : Type 0 where
  pub tree : PlaceTree
  pub is : IsKeptFrom l r tree
  pub alternates : Alternates tree
  pub turned : IsTurned false no_pairs t tree

-- ---- a leaf goes

pub record PruneView : Type 0 where
  pub frames : List Frame
  pub name : ℕ

-- the tree with the leaf
abbrev pub leaf_tree : ℕ → PruneView → PlaceTree
leaf_tree leaf d = plug d.frames (tip leaf d.name)

pub record CanPrune (l : Links) (r : Option ℕ) (leaf : ℕ) (d : PruneView) : Type 0 where
  pub is : IsKeptFrom l r (leaf_tree leaf d)
  pub alternates : Alternates (leaf_tree leaf d)
  pub once : (v : ℕ) → name_in v (leaf_tree leaf d) ≤ 1

-- the tree without a leaf: it is gone, and other names are joined as they were
pub record IsWithoutLeaf (leaf x : ℕ) (t : PlaceTree) (ss : PlaceTrees) : Type 0 where
  pub tips : (p v : ℕ) → leaves_among p v ss + cond ((leaf == p) && (x == v)) 1 0 ≡ leaves_in p v t
  pub named : (v : ℕ) → name_row v ss + cond (x == v) 1 0 ≡ name_in v t
  pub edges : (a b : ℕ) → x ≢ a → x ≢ b → edge_row a b ss ≡ edge_in a b t
  pub leaves : leaf_counts ss + 1 ≡ leaf_count t

pub record IsPruned (l : Links) (r : Option ℕ) (leaf : ℕ) (d : PruneView) : Type 0 where
  pub tree : Option PlaceTree
  pub kept : AreTreesKept l (root_row tree)
  pub root : r ≡ option_map place_of tree
  pub alternates : AllAlternate (root_row tree)
  pub without : IsWithoutLeaf leaf d.name (leaf_tree leaf d) (root_row tree)

-- no more than n names are joined to x: trees that have only such names, each once, have no more leaves
pub record HasFew (n x : ℕ) (t : PlaceTree) : Type 0 where
  pub few : (zs : PlaceTrees) → ((y : ℕ) → name_row y zs ≤ 1) → ((y : ℕ) → 0 < name_row y zs → 0 < edge_in x y t) → leaf_counts zs ≤ n
