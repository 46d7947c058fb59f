-- Trees around a place, and trees in linked lists but for the order of children.
-- Source: ordered trees with a hole, as in any textbook on data structures.
use Rattle.std.specs.Prelude.{◌≡◌, ℕ, ◌≤◌, Bool, not, List, [], ◌∷◌, ⊤}
use Rattle.md_lists.specs.Words.{holds_once}
use Rattle.md_lists.specs.Links.{Links, kind_at, parent_at, alive}
use Rattle.md_cotree.specs.PlaceTrees.{PlaceTree, inner, PlaceTrees, then, times_among, row_length, NoneInner, AllAlternate}
use Rattle.md_cotree_edit.specs.Counts.{kind_code, kind_row, child_row}

-- a node around one of its children: its place, whether it is series, and its other children
pub record Frame : Type 0 where
  pub place : ℕ
  pub series : Bool
  pub others : PlaceTrees

-- the node with t among its children
abbrev pub fill : Frame → PlaceTree → PlaceTree
fill f t = inner f.place f.series (then t f.others)

-- the tree with t in its hole; the innermost node comes first
abbrev pub plug : List Frame → PlaceTree → PlaceTree
plug [] t = t
plug (f ∷ fs) t = plug fs (fill f t)

-- kinds alternate around a node of a kind
abbrev pub AreAround : List Frame → Bool → Type 0
AreAround [] k = ⊤
AreAround (f ∷ fs) k =
    (f.series ≡ not k) × (1 ≤ row_length f.others) × NoneInner f.others f.series × AllAlternate f.others
    × AreAround fs f.series

-- the lists keep these loose trees, but for the order of children: each live place stands in them once, with its kind,
-- below its parent
pub record AreTreesKept (l : Links) (ts : PlaceTrees) : Type 0 where
  pub each : (p : ℕ) → times_among p ts ≡ alive l p
  pub kinds : (p : ℕ) → kind_row p ts ≡ kind_code (kind_at l p)
  pub links : (p c : ℕ) → child_row p c ts ≡ holds_once (parent_at l c) p
