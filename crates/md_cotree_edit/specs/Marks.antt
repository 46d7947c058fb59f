-- Names of a tree that are marked, as those are that a new vertex is joined to, and what linked lists tell of them.
-- Source: Corneil, Perl and Stewart, A linear recognition algorithm for cographs; the counts are this project's.
use Rattle.std.specs.Prelude.{◌≡◌, ℕ, ◌+◌, ◌-◌, ◌*◌, ◌<◌, ◌≤◌, min, Bool, true, false, cond, ◌&&◌, ◌==◌, List, [], ◌∷◌, slice_index_or, Option, Some, None, ⊤}
use Rattle.md_graph.specs.declared.TheConstants.{NAMES}
use Rattle.md_graph.specs.Linked.{times}
use Rattle.md_lists.specs.Links.{Links, tally_at, note_at}
use Rattle.md_cotree.specs.PlaceTrees.{PlaceTree, tip, inner, PlaceTrees, no_more, then, place_of, leaves_in, leaf_count, row_length, Alternates}
use Rattle.md_cotree.specs.declared.cotree.Cotree.{Cotree}
use Rattle.md_cotree.specs.Cotrees.{IsKeptAs}
use Rattle.md_cotree_edit.specs.Counts.{name_in, edge_in}
use Rattle.md_cotree_edit.specs.Contexts.{Frame, plug, AreTreesKept}

-- each name is marked once at most
abbrev pub AreNameMarks : (ℕ → ℕ) → Type 0
AreNameMarks m = (v : ℕ) → m v ≤ 1

-- one name more is marked
abbrev pub more : (ℕ → ℕ) → ℕ → ℕ → ℕ
more m n v = cond (n == v) 1 0 + m v

-- ---- what is counted of marked names

abbrev mutual
  -- how many of its names are marked
  pub hits_in : (ℕ → ℕ) → PlaceTree → ℕ
  hits_in m (tip p v) = m v
  hits_in m (inner p k ts) = hits_row m ts

  pub hits_row : (ℕ → ℕ) → PlaceTrees → ℕ
  hits_row m no_more = 0
  hits_row m (then t ts) = hits_in m t + hits_row m ts

abbrev mutual
  -- 1 where the tree is full: all its names are marked; else 0
  pub full_in : (ℕ → ℕ) → PlaceTree → ℕ
  full_in m (tip p v) = m v
  full_in m (inner p k ts) = full_row m ts

  pub full_row : (ℕ → ℕ) → PlaceTrees → ℕ
  full_row m no_more = 1
  full_row m (then t ts) = full_in m t * full_row m ts

-- how many of the trees are full
abbrev pub full_count : (ℕ → ℕ) → PlaceTrees → ℕ
full_count m no_more = 0
full_count m (then t ts) = full_in m t + full_count m ts

abbrev mutual
  -- how many of its nodes, leaves not among them, are full
  pub full_nodes : (ℕ → ℕ) → PlaceTree → ℕ
  full_nodes m (tip p v) = 0
  full_nodes m (inner p k ts) = full_row m ts + full_nodes_row m ts

  pub full_nodes_row : (ℕ → ℕ) → PlaceTrees → ℕ
  full_nodes_row m no_more = 0
  full_nodes_row m (then t ts) = full_nodes m t + full_nodes_row m ts

-- 1 where the tree is mixed: some of its names are marked, and some aren't; else 0
abbrev pub mixed_in : (ℕ → ℕ) → PlaceTree → ℕ
mixed_in m t = (1 - full_in m t) * min 1 (hits_in m t)

-- how many of the trees are mixed
abbrev pub mixed_count : (ℕ → ℕ) → PlaceTrees → ℕ
mixed_count m no_more = 0
mixed_count m (then t ts) = mixed_in m t + mixed_count m ts

-- where one child of a node is mixed, the others are full, if it is series; if it is parallel none is full
abbrev pub Passes : Bool → ℕ → ℕ → Type 0
Passes true full count = full + 1 ≡ count
Passes false full count = full ≡ 0

abbrev mutual
  -- a vertex that is joined to the marked names leaves the graph of the tree a cograph: of the children of a node one at most is
  -- mixed, and where one is, the others are full below a series node, and have no marked name below a parallel one
  pub CanTake : (ℕ → ℕ) → PlaceTree → Type 0
  CanTake m (tip p v) = ⊤
  CanTake m (inner p k ts) =
      (mixed_count m ts ≤ 1) × (mixed_count m ts ≡ 1 → Passes k (full_count m ts) (row_length ts)) × AllCanTake m ts

  pub AllCanTake : (ℕ → ℕ) → PlaceTrees → Type 0
  AllCanTake m no_more = ⊤
  AllCanTake m (then t ts) = CanTake m t × AllCanTake m ts

-- ---- what linked lists tell: each node's tally is the number of its children that are full; its note is 1 where it is full, and 2
-- more for each of its children that isn't full and was walked over

-- how many of the trees were walked over and aren't full
abbrev pub walked_count : (ℕ → ℕ) → (ℕ → ℕ) → PlaceTrees → ℕ
walked_count m w no_more = 0
walked_count m w (then t ts) = (1 - full_in m t) * w (place_of t) + walked_count m w ts

abbrev mutual
  -- the tally of a place in a tree where it stands once, 0 where it doesn't
  pub tally_in : (ℕ → ℕ) → ℕ → PlaceTree → ℕ
  tally_in m p (tip q v) = 0
  tally_in m p (inner q k ts) = cond (q == p) (full_count m ts) 0 + tally_row m p ts

  pub tally_row : (ℕ → ℕ) → ℕ → PlaceTrees → ℕ
  tally_row m p no_more = 0
  tally_row m p (then t ts) = tally_in m p t + tally_row m p ts

abbrev mutual
  -- the note of a place in a tree where it stands once, 0 where it doesn't
  pub note_in : (ℕ → ℕ) → (ℕ → ℕ) → ℕ → PlaceTree → ℕ
  note_in m w p (tip q v) = cond (q == p) (m v) 0
  note_in m w p (inner q k ts) = cond (q == p) (full_row m ts + 2 * walked_count m w ts) 0 + note_row m w p ts

  pub note_row : (ℕ → ℕ) → (ℕ → ℕ) → ℕ → PlaceTrees → ℕ
  note_row m w p no_more = 0
  note_row m w p (then t ts) = note_in m w p t + note_row m w p ts

-- the lists tell of a tree which of its names are marked, and which places were walked over
pub record TellMarks (l : Links) (m w : ℕ → ℕ) (t : PlaceTree) : Type 0 where
  pub tallies : (p : ℕ) → tally_at l p ≡ tally_in m p t
  pub notes : (p : ℕ) → note_at l p ≡ note_in m w p t

-- no place was walked over
abbrev pub none_walked : ℕ → ℕ
none_walked p = 0

-- the marked places were walked over
abbrev pub marked_walked : Links → ℕ → ℕ
marked_walked l p = times p l.marked

-- nothing but tallies, notes and marks differs
abbrev pub AreStill : Links → Links → Type 0
AreStill l k = (k.kinds ≡ l.kinds) × (k.parents ≡ l.parents) × (k.children ≡ l.children)

-- ---- marking

-- a tree, the names that are marked there, and one that comes to them
pub record MarkView : Type 0 where
  pub marks : ℕ → ℕ
  pub name : ℕ
  pub tree : PlaceTree

pub record CanMark (l : Links) (place : ℕ) (d : MarkView) : Type 0 where
  pub kept : AreTreesKept l (then d.tree no_more)
  pub told : TellMarks l d.marks none_walked d.tree
  pub marks : AreNameMarks d.marks
  pub fresh : d.marks d.name ≡ 0
  pub once : name_in d.name d.tree ≡ 1
  pub leaf : leaves_in place d.name d.tree ≡ 1

-- nothing is marked in the lists that keep a tree whose kinds alternate, and the names stand there at the places that are kept for them, each once
pub record CanMarkAll (l : Links) (places : List (Option ℕ)) (names : List ℕ) (t : PlaceTree) : Type 0 where
  pub kept : AreTreesKept l (then t no_more)
  pub unmarked : l.marked ≡ []
  pub alternates : Alternates t
  pub different : (v : ℕ) → times v names ≤ 1
  pub once : (v : ℕ) → 0 < times v names → name_in v t ≡ 1
  pub leaves : (v : ℕ) → 0 < times v names → (p : ℕ) × (slice_index_or places v None ≡ Some p) × (leaves_in p v t ≡ 1)

-- ---- walking over the marked places

-- a tree whose kinds alternate, and the names that are marked there
pub record ClimbView : Type 0 where
  pub marks : ℕ → ℕ
  pub tree : PlaceTree

pub record CanClimb (l : Links) (d : ClimbView) : Type 0 where
  pub kept : AreTreesKept l (then d.tree no_more)
  pub told : TellMarks l d.marks none_walked d.tree
  pub marks : AreNameMarks d.marks
  pub alternates : Alternates d.tree

-- ---- the lowest mixed node: no child of it is mixed

-- a tree around a node, and what is marked and was walked over
pub record LowestView : Type 0 where
  pub marks : ℕ → ℕ
  pub walked : ℕ → ℕ
  pub frames : List Frame
  pub place : ℕ
  pub series : Bool
  pub children : PlaceTrees

-- the tree
abbrev pub whole : LowestView → PlaceTree
whole d = plug d.frames (inner d.place d.series d.children)

-- trees beside a hole below a node: full below a series node, without marked names below a parallel one
abbrev pub AreBesideIt : (ℕ → ℕ) → Bool → PlaceTrees → Type 0
AreBesideIt m true ts = full_row m ts ≡ 1
AreBesideIt m false ts = hits_row m ts ≡ 0

-- all around a hole
abbrev pub AreReady : (ℕ → ℕ) → List Frame → Type 0
AreReady m [] = ⊤
AreReady m (f ∷ fs) = AreBesideIt m f.series f.others × AreReady m fs

-- each of the trees is full or has no marked name, some are full, and not all of them
pub record AreHalves (m : ℕ → ℕ) (ts : PlaceTrees) : Type 0 where
  pub none_mixed : mixed_count m ts ≡ 0
  pub some : 0 < full_count m ts
  pub not_all : full_row m ts ≡ 0

-- the lists keep the tree and tell what is marked and was walked over, which is what they have marked; the node is the lowest mixed one,
-- and what is around it is ready
pub record IsLowest (l : Links) (d : LowestView) : Type 0 where
  pub kept : AreTreesKept l (then (whole d) no_more)
  pub told : TellMarks l d.marks d.walked (whole d)
  pub walked : (p : ℕ) → d.walked p ≡ times p l.marked
  pub marks : AreNameMarks d.marks
  pub ready : AreReady d.marks d.frames
  pub halves : AreHalves d.marks d.children

-- ---- a new leaf

-- a leaf with the name x has come into the tree, joined to the names that are marked there
pub record IsInserted (m : ℕ → ℕ) (leaf x : ℕ) (t s : PlaceTree) : Type 0 where
  pub tips : (p v : ℕ) → leaves_in p v s ≡ leaves_in p v t + cond ((leaf == p) && (x == v)) 1 0
  pub named : (v : ℕ) → name_in v s ≡ name_in v t + cond (x == v) 1 0
  pub edges : (a b : ℕ) →
      edge_in a b s ≡ edge_in a b t + (cond (x == a) (m b * name_in b t) 0 + cond (x == b) (m a * name_in a t) 0)
  pub leaves : leaf_count s ≡ leaf_count t + 1

-- the node is the lowest mixed one of the tree with this root, whose kinds alternate, and x doesn't stand there
pub record CanRelink (l : Links) (top : Option ℕ) (x : ℕ) (d : LowestView) : Type 0 where
  pub lowest : IsLowest l d
  pub root : top ≡ Some (place_of (whole d))
  pub alternates : Alternates (whole d)
  pub fresh : name_in x (whole d) ≡ 0

-- the tree with the leaf, kept in the lists from its root on
pub record IsLinkedIn (l : Links) (top : Option ℕ) (m : ℕ → ℕ) (x leaf : ℕ) (t : PlaceTree) : Type 0 where
  pub tree : PlaceTree
  pub kept : AreTreesKept l (then tree no_more)
  pub root : top ≡ Some (place_of tree)
  pub alternates : Alternates tree
  pub inserted : IsInserted m leaf x t tree

-- ---- a new leaf below the lowest mixed node, or none

-- the lists keep a tree whose kinds alternate, from its root on, and tell which of its names are marked, not all of them; x doesn't
-- stand there
pub record CanTakeIn (l : Links) (top : Option ℕ) (x : ℕ) (d : ClimbView) : Type 0 where
  pub climb : CanClimb l d
  pub root : top ≡ Some (place_of d.tree)
  pub fresh : name_in x d.tree ≡ 0
  pub not_all : full_in d.marks d.tree ≡ 0

-- some of the names are marked too
pub record CanLinkIn (l : Links) (top : Option ℕ) (x : ℕ) (d : ClimbView) : Type 0 where
  pub take : CanTakeIn l top x d
  pub some : 0 < hits_in d.marks d.tree

-- the cotree keeps the tree; a name isn't there, and others are, each once in a list
pub record CanGrow (c : Cotree) (x : ℕ) (ns : List ℕ) (t : PlaceTree) : Type 0 where
  pub kept : IsKeptAs c (Some t)
  pub within : x < NAMES
  pub fresh : name_in x t ≡ 0
  pub different : (v : ℕ) → times v ns ≤ 1
  pub there : (v : ℕ) → 0 < times v ns → name_in v t ≡ 1

-- ---- what was walked over

abbrev mutual
  -- of the children of a node one at most was walked over and isn't full, and where one was, the others are all full below a series node,
  -- and none is full below a parallel one
  pub Walked : (ℕ → ℕ) → (ℕ → ℕ) → PlaceTree → Type 0
  Walked m w (tip p v) = ⊤
  Walked m w (inner p k ts) = (walked_count m w ts ≤ 1) × (walked_count m w ts ≡ 1 → Passes k (full_count m ts) (row_length ts)) × AllWalked m w ts

  pub AllWalked : (ℕ → ℕ) → (ℕ → ℕ) → PlaceTrees → Type 0
  AllWalked m w no_more = ⊤
  AllWalked m w (then t ts) = Walked m w t × AllWalked m w ts

-- a tree, and what is marked there and was walked over
pub record WalkView : Type 0 where
  pub marks : ℕ → ℕ
  pub walked : ℕ → ℕ
  pub tree : PlaceTree

-- the lists keep the tree, whose kinds alternate, and tell what is marked and was walked over, which leaves no breach
pub record AreWalkedOver (l : Links) (d : WalkView) : Type 0 where
  pub kept : AreTreesKept l (then d.tree no_more)
  pub marks : AreNameMarks d.marks
  pub alternates : Alternates d.tree
  pub told : TellMarks l d.marks d.walked d.tree
  pub walked : Walked d.marks d.walked d.tree

-- what was walked over is marked, and the place wasn't walked over
pub record CanWalk (l : Links) (place : ℕ) (d : WalkView) : Type 0 where
  pub walked : AreWalkedOver l d
  pub seen : (p : ℕ) → d.walked p ≤ times p l.marked
  pub fresh : d.walked place ≡ 0

-- one place more was walked over
abbrev pub walked_on : WalkView → ℕ → WalkView
walked_on d place = record { marks = d.marks; walked = more d.walked place; tree = d.tree }

-- a walk that has come over some places, the first of which are marked
abbrev pub walked_to : ClimbView → List ℕ → WalkView
walked_to d passed = record { marks = d.marks; walked = λ p. times p passed; tree = d.tree }
