-- How a lowest mixed node is parted into its full children and the others, and how a new leaf comes beside the ones or the others.
-- Source: Corneil, Perl and Stewart, A linear recognition algorithm for cographs.
use Rattle.std.specs.Prelude.{◌≡◌, ℕ, ◌+◌, ◌*◌, ◌<◌, Bool, cond, ◌&&◌, ◌==◌, List, Option, Some, ⊤}
use Rattle.md_lists.specs.Words.{holds_once}
use Rattle.md_graph.specs.Linked.{times}
use Rattle.md_lists.specs.Links.{Links, parent_at, note_at, attached, detached}
use Rattle.md_cotree.specs.PlaceTrees.{PlaceTree, tip, inner, PlaceTrees, no_more, then, place_of, leaves_among, leaf_counts, row_length, NoneInner, AllAlternate}
use Rattle.md_cotree_edit.specs.Counts.{name_row, pair_row, edge_row}
use Rattle.md_cotree_edit.specs.Contexts.{Frame, plug, AreTreesKept}
use Rattle.md_cotree_edit.specs.Turns.{IsTidied, IsBeside}
use Rattle.md_cotree_edit.specs.Marks.{LowestView, whole, AreNameMarks, AreHalves, full_in, full_row, hits_row}

-- a place that is noted as full, and a child of `from`, is a child of `to` then
abbrev pub moved_if : Links → ℕ → ℕ → ℕ → Links
moved_if l p from to = cond ((note_at l p == 1) && (holds_once (parent_at l p) from == 1)) (attached (detached l from p) to p) l

-- the trees of a row are those of two others
pub record IsRowSplit (ts us vs : PlaceTrees) : Type 0 where
  pub tips : (p v : ℕ) → leaves_among p v ts ≡ leaves_among p v us + leaves_among p v vs
  pub named : (v : ℕ) → name_row v ts ≡ name_row v us + name_row v vs
  pub pairs : (a b : ℕ) → pair_row a b ts ≡ (pair_row a b us + pair_row a b vs) + (name_row a us * name_row b vs + name_row b us * name_row a vs)
  pub edges : (a b : ℕ) → edge_row a b ts ≡ edge_row a b us + edge_row a b vs
  pub leaves : leaf_counts ts ≡ leaf_counts us + leaf_counts vs
  pub none : (k : Bool) → NoneInner ts k → NoneInner us k × NoneInner vs k
  pub alternates : AllAlternate ts → AllAlternate us × AllAlternate vs

-- each of the trees is noted as full exactly where it is
abbrev pub AreNoted : (ℕ → ℕ) → (ℕ → ℕ) → PlaceTrees → Type 0
AreNoted n m no_more = ⊤
AreNoted n m (then t ts) = (n (place_of t) ≡ full_in m t) × AreNoted n m ts

-- the node is the lowest mixed one of a tree, its full children are noted, and a loose node of its kind has no children and no mark
pub record CanPart (l : Links) (to : ℕ) (d : LowestView) : Type 0 where
  pub kept : AreTreesKept l (then (inner to d.series no_more) (then (whole d) no_more))
  pub marks : AreNameMarks d.marks
  pub halves : AreHalves d.marks d.children
  pub noted : AreNoted (note_at l) d.marks d.children
  pub unmarked : times to l.marked ≡ 0

-- the full children of the node have moved to the other
pub record IsParted (l : Links) (to : ℕ) (d : LowestView) : Type 0 where
  pub full : PlaceTrees
  pub rest : PlaceTrees
  pub kept : AreTreesKept l (then (inner to d.series full) (then (plug d.frames (inner d.place d.series rest)) no_more))
  pub split : IsRowSplit d.children full rest
  pub all_full : full_row d.marks full ≡ 1
  pub none_marked : hits_row d.marks rest ≡ 0
  pub some_full : 0 < row_length full
  pub some_rest : 0 < row_length rest

-- a tree that stands in another, and one that is loose, with others
pub record PutView : Type 0 where
  pub frames : List Frame
  pub old : PlaceTree
  pub new : PlaceTree
  pub others : PlaceTrees

pub record CanPut (l : Links) (top : Option ℕ) (place node : ℕ) (d : PutView) : Type 0 where
  pub kept : AreTreesKept l (then d.new (then (plug d.frames d.old) d.others))
  pub root : top ≡ Some (place_of (plug d.frames d.old))
  pub old : place_of d.old ≡ place
  pub new : place_of d.new ≡ node

-- the loose one stands in the place of the other, which is loose
pub record IsTreePut (l : Links) (top : Option ℕ) (d : PutView) : Type 0 where
  pub kept : AreTreesKept l (then d.old (then (plug d.frames d.new) d.others))
  pub root : top ≡ Some (place_of (plug d.frames d.new))

-- a loose node, a loose leaf, and a node of a tree
pub record PairView : Type 0 where
  pub frames : List Frame
  pub kind : Bool
  pub name : ℕ
  pub loose : PlaceTrees
  pub stay : PlaceTrees

pub record CanPair (l : Links) (stay loose leaf : ℕ) (d : PairView) : Type 0 where
  pub kept : AreTreesKept l (then (inner loose d.kind d.loose) (then (tip leaf d.name) (then (plug d.frames (inner stay d.kind d.stay)) no_more)))
  pub some : 0 < row_length d.loose

-- what stays of the loose node, and the leaf, are below a node of a kind, which is below the node of the tree
pub record IsPaired (l : Links) (stay loose leaf : ℕ) (series : Bool) (d : PairView) : Type 0 where
  pub tidy : PlaceTree
  pub pair : PlaceTree
  pub kept : AreTreesKept l (then (plug d.frames (inner stay d.kind (then pair d.stay))) no_more)
  pub tidied : IsTidied d.loose d.kind loose tidy
  pub beside : IsBeside series tidy (tip leaf d.name) pair
