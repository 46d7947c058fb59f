-- How an edit changes the tree of a cotree.
-- Source: Corneil, Perl and Stewart, A linear recognition algorithm for cographs.
use Rattle.std.specs.Prelude.{◌≡◌, ◌≢◌, ℕ, ◌+◌, Bool, true, false, not, cond, List, Some}
use Rattle.md_graph.specs.PlainGraph.{PlainGraph, with_edge, without_edge}
use Rattle.md_lists.specs.Links.{Links, parent_at}
use Rattle.md_cotree.specs.PlaceTrees.{PlaceTree, tip, inner, PlaceTrees, no_more, then, place_of, leaves_in, leaves_among, leaf_count, leaf_counts, IsInner, NoneInner, Alternates, AllAlternate}
use Rattle.md_cotree_edit.specs.declared.finding.Meeting.{Meeting}
use Rattle.md_cotree_edit.specs.declared.finding.Meeting.TheVariants.{Both, First, Second, Apart}
use Rattle.md_cotree_edit.specs.Counts.{name_in, name_row, edge_in, crossing}
use Rattle.md_cotree_edit.specs.Contexts.{Frame, plug, AreAround, AreTreesKept}

-- the leaves stay, and the pairs that are counted are joined, or parted where they were below a series node
pub record IsTurned (series : Bool) (crossed : ℕ → ℕ → ℕ) (t s : PlaceTree) : Type 0 where
  pub tips : (p x : ℕ) → leaves_in p x s ≡ leaves_in p x t
  pub named : (x : ℕ) → name_in x s ≡ name_in x t
  pub edges : (x y : ℕ) → edge_in x y s + cond series (crossed x y) 0 ≡ edge_in x y t + cond series 0 (crossed x y)
  pub leaves : leaf_count s ≡ leaf_count t

-- two loose trees, and a node that they come below
pub record AdoptView : Type 0 where
  pub frames : List Frame
  pub series : Bool
  pub children : PlaceTrees
  pub first : PlaceTree
  pub second : PlaceTree
  pub others : PlaceTrees

-- they are loose in the lists, and their roots are x and y
pub record CanAdopt (l : Links) (parent x y : ℕ) (d : AdoptView) : Type 0 where
  pub kept : AreTreesKept l (then d.first (then d.second (then (plug d.frames (inner parent d.series d.children)) d.others)))
  pub first : place_of d.first ≡ x
  pub second : place_of d.second ≡ y

-- the trees when they are below the node
abbrev pub adopted : ℕ → AdoptView → PlaceTrees
adopted parent d = then (plug d.frames (inner parent d.series (then d.second (then d.first d.children)))) d.others

-- two loose trees, and the node that they were below, with the rest of its children
pub record LiftView : Type 0 where
  pub frames : List Frame
  pub rest : PlaceTrees
  pub first : PlaceTree
  pub second : PlaceTree

-- the two are loose and can come below a node of the other kind, and kinds alternate all round
pub record CanLift (l : Links) (w x y : ℕ) (series : Bool) (d : LiftView) : Type 0 where
  pub kept : AreTreesKept l (then d.first (then d.second (then (plug d.frames (inner w series d.rest)) no_more)))
  pub first : place_of d.first ≡ x
  pub second : place_of d.second ≡ y
  pub around : AreAround d.frames series
  pub none : NoneInner d.rest series
  pub rest : AllAlternate d.rest
  pub first_alternates : Alternates d.first
  pub second_alternates : Alternates d.second
  pub first_other : IsInner d.first (not series) → ⊥
  pub second_other : IsInner d.second (not series) → ⊥

-- the tree that was lifted: below a node of the other kind, the two are joined, or parted
pub record IsLifted (l : Links) (t : PlaceTree) (series : Bool) (crossed : ℕ → ℕ → ℕ) : Type 0 where
  pub tree : PlaceTree
  pub kept : AreTreesKept l (then tree no_more)
  pub turned : IsTurned series crossed t tree
  pub place : place_of tree ≡ place_of t
  pub alternates : Alternates tree

-- the tree as it was, with the two below the node
abbrev pub with_both : ℕ → Bool → LiftView → PlaceTree
with_both w series d = plug d.frames (inner w series (then d.first (then d.second d.rest)))

-- a node without some of its children, and what stands in its place
pub record IsTidied (ys : PlaceTrees) (k : Bool) (q : ℕ) (y : PlaceTree) : Type 0 where
  pub tips : (p x : ℕ) → leaves_in p x y ≡ leaves_among p x ys
  pub named : (x : ℕ) → name_in x y ≡ name_row x ys
  pub edges : (x z : ℕ) → edge_in x z y ≡ edge_in x z (inner q k ys)
  pub leaves : leaf_count y ≡ leaf_counts ys
  pub alternates : NoneInner ys k → AllAlternate ys → Alternates y

-- a node of a kind that has both trees below it, one of them merged where it is of the kind
pub record IsBeside (k : Bool) (y a r : PlaceTree) : Type 0 where
  pub tips : (p x : ℕ) → leaves_in p x r ≡ leaves_in p x y + leaves_in p x a
  pub named : (x : ℕ) → name_in x r ≡ name_in x y + name_in x a
  pub edges : (x z : ℕ) → edge_in x z r ≡ (edge_in x z y + edge_in x z a) + cond k (crossing y a x z) 0
  pub leaves : leaf_count r ≡ leaf_count y + leaf_count a
  pub alternates : Alternates y → Alternates a → (IsInner a k → ⊥) → Alternates r
  pub kind : IsInner r k

-- what the parents and grandparents of two places say
abbrev pub IsMeetingOf : Links → ℕ → ℕ → Meeting → Type 0
IsMeetingOf l a b (Both w) = (parent_at l a ≡ Some w) × (parent_at l b ≡ Some w)
IsMeetingOf l a b (First w q) = (parent_at l a ≡ Some w) × (parent_at l b ≡ Some q) × (parent_at l q ≡ Some w) × (w ≢ q)
IsMeetingOf l a b (Second w q) = (parent_at l b ≡ Some w) × (parent_at l a ≡ Some q) × (parent_at l q ≡ Some w) × (w ≢ q)
IsMeetingOf l a b Apart =
    (p : ℕ) × (q : ℕ) × (parent_at l a ≡ Some p) × (parent_at l b ≡ Some q) × (p ≢ q)
    × (parent_at l q ≢ Some p) × (parent_at l p ≢ Some q)

-- two leaves that are children of one node, and the tree around them
pub record BothView : Type 0 where
  pub frames : List Frame
  pub left : ℕ
  pub right : ℕ
  pub rest : PlaceTrees

-- the tree around them
abbrev pub both_tree : ℕ → ℕ → ℕ → Bool → BothView → PlaceTree
both_tree w a b series d = plug d.frames (inner w series (then (tip a d.left) (then (tip b d.right) d.rest)))

-- a leaf that is a child of a node, and another that is a child of a child of it
pub record OneView : Type 0 where
  pub frames : List Frame
  pub left : ℕ
  pub right : ℕ
  pub beside : PlaceTrees
  pub rest : PlaceTrees

-- the tree around them
abbrev pub one_tree : ℕ → ℕ → ℕ → ℕ → Bool → OneView → PlaceTree
one_tree w a q b series d =
    plug d.frames
    (inner w series (then (tip a d.left) (then (inner q (not series) (then (tip b d.right) d.beside)) d.rest)))

-- the lists keep a tree whose kinds alternate
abbrev pub IsAlternating : Links → PlaceTree → Type 0
IsAlternating l t = AreTreesKept l (then t no_more) × Alternates t

-- the graph with an edge turned: without it where it was there, with it where it wasn't
abbrev pub turned_graph : Bool → PlainGraph → ℕ → ℕ → PlainGraph
turned_graph true g u v = without_edge g u v
turned_graph false g u v = with_edge g u v
