-- Trees over places: how trees without prime nodes stand in linked lists.
-- Source: Corneil, Perl and Stewart, A linear recognition algorithm for cographs; the places are this project's.
use Rattle.std.specs.Prelude.{◌≡◌, ℕ, ◌+◌, ◌≤◌, Bool, true, false, cond, ◌&&◌, ◌==◌, List, [], ◌∷◌, Some, None, ⊤}
use Rattle.md_lists.specs.declared.kinds.PlaceKind.{PlaceKind}
use Rattle.md_lists.specs.declared.kinds.PlaceKind.TheVariants.{Leaf, Parallel, Series}
use Rattle.md_lists.specs.Links.{Links, kind_at, parent_at, children_at, alive}
use Rattle.md_tree.specs.declared.Kind.{Kind}
use Rattle.md_tree.specs.declared.Kind.TheVariants as kinds
use Rattle.md_tree.specs.Trees.{PlainTree, leaf, node, PlainTrees, no_tree, one_more}

mutual
  -- a leaf at a place with its name, or a node at a place, series or not, with its children
  pub data PlaceTree : Type 0 where
    tip : ℕ → ℕ → PlaceTree
    inner : ℕ → Bool → PlaceTrees → PlaceTree

  -- trees in a row
  pub data PlaceTrees : Type 0 where
    no_more : PlaceTrees
    then : PlaceTree → PlaceTrees → PlaceTrees

-- the place of the root
abbrev pub place_of : PlaceTree → ℕ
place_of (tip p v) = p
place_of (inner p k ts) = p

-- the places of the roots, in order
abbrev pub roots : PlaceTrees → List ℕ
roots no_more = []
roots (then t ts) = place_of t ∷ roots ts

-- the kind of the place of a node
abbrev pub place_kind : Bool → PlaceKind
place_kind true = Series
place_kind false = Parallel

abbrev mutual
  -- the tree stands in the lists: each leaf with its name and no children, each node with its kind and its children in order, each
  -- child with its parent
  pub Stands : Links → PlaceTree → Type 0
  Stands l (tip p v) = (kind_at l p ≡ Some (Leaf v)) × (children_at l p ≡ [])
  Stands l (inner p k ts) = (kind_at l p ≡ Some (place_kind k)) × (children_at l p ≡ roots ts) × StandsBelow l p ts

  pub StandsBelow : Links → ℕ → PlaceTrees → Type 0
  StandsBelow l q no_more = ⊤
  StandsBelow l q (then t ts) = (parent_at l (place_of t) ≡ Some q) × Stands l t × StandsBelow l q ts

-- the trees stand in the lists, none below a place
abbrev pub StandLoose : Links → PlaceTrees → Type 0
StandLoose l no_more = ⊤
StandLoose l (then t ts) = (parent_at l (place_of t) ≡ None) × Stands l t × StandLoose l ts

abbrev mutual
  -- how often a place stands in a tree
  pub times_in : ℕ → PlaceTree → ℕ
  times_in p (tip q v) = cond (q == p) 1 0
  times_in p (inner q k ts) = cond (q == p) 1 0 + times_among p ts

  pub times_among : ℕ → PlaceTrees → ℕ
  times_among p no_more = 0
  times_among p (then t ts) = times_in p t + times_among p ts

abbrev mutual
  -- how often a leaf stands in a tree, by its place and its name
  pub leaves_in : ℕ → ℕ → PlaceTree → ℕ
  leaves_in p v (tip q w) = cond ((q == p) && (w == v)) 1 0
  leaves_in p v (inner q k ts) = leaves_among p v ts

  pub leaves_among : ℕ → ℕ → PlaceTrees → ℕ
  leaves_among p v no_more = 0
  leaves_among p v (then t ts) = leaves_in p v t + leaves_among p v ts

abbrev mutual
  -- the number of leaves
  pub leaf_count : PlaceTree → ℕ
  leaf_count (tip p v) = 1
  leaf_count (inner p k ts) = leaf_counts ts

  pub leaf_counts : PlaceTrees → ℕ
  leaf_counts no_more = 0
  leaf_counts (then t ts) = leaf_count t + leaf_counts ts

abbrev mutual
  -- the number of nodes, leaves among them
  pub node_count : PlaceTree → ℕ
  node_count (tip p v) = 1
  node_count (inner p k ts) = 1 + node_counts ts

  pub node_counts : PlaceTrees → ℕ
  node_counts no_more = 0
  node_counts (then t ts) = node_count t + node_counts ts

-- how many trees stand in a row
abbrev pub row_length : PlaceTrees → ℕ
row_length no_more = 0
row_length (then t ts) = 1 + row_length ts

-- the tree is a node of a kind
abbrev pub IsInner : PlaceTree → Bool → Type 0
IsInner (tip p v) k = ⊥
IsInner (inner p l ts) k = l ≡ k

-- none of the trees is a node of a kind
abbrev pub NoneInner : PlaceTrees → Bool → Type 0
NoneInner no_more k = ⊤
NoneInner (then t ts) k = (¬ (IsInner t k)) × NoneInner ts k

abbrev mutual
  -- each node has two children or more, none of its own kind
  pub Alternates : PlaceTree → Type 0
  Alternates (tip p v) = ⊤
  Alternates (inner p k ts) = (2 ≤ row_length ts) × NoneInner ts k × AllAlternate ts

  pub AllAlternate : PlaceTrees → Type 0
  AllAlternate no_more = ⊤
  AllAlternate (then t ts) = Alternates t × AllAlternate ts

-- the kind of a node
abbrev pub kind_of : Bool → Kind
kind_of true = kinds.Series
kind_of false = kinds.Parallel

abbrev mutual
  -- the tree without its places
  pub shape : PlaceTree → PlainTree
  shape (tip p v) = leaf v
  shape (inner p k ts) = node (kind_of k) (shapes ts) []

  pub shapes : PlaceTrees → PlainTrees
  shapes no_more = no_tree
  shapes (then t ts) = one_more (shape t) (shapes ts)

-- the trees stand in the lists, none below a place; each live place stands in them once, and no other place does
pub record FillsLists (l : Links) (ts : PlaceTrees) : Type 0 where
  pub stand : StandLoose l ts
  pub each : (p : ℕ) → times_among p ts ≡ alive l p
