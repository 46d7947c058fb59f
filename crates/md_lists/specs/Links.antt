-- What is kept of places: their kinds, parents, children, tallies and notes, and the list of those that are marked.
-- Source: ordered forests and lists, as in any textbook; the tally, the note and the mark are this project's.
use Rattle.std.specs.Prelude.{Option, Some, None, ◌≡◌, ℕ, ◌+◌, min, List, [], ◌∷◌, ◌++◌, length, replicate, slice_index_or, slice_set, cond, is_some, is_none, IsSome}
use Rattle.std.specs.List.{count_by}
use Rattle.md_lists.specs.declared.kinds.PlaceKind.{PlaceKind}
use Rattle.md_lists.specs.declared.TheConstants.{PLACES}
use Rattle.md_lists.specs.Words.{holds_once, without, exchanged, added_once}
use Rattle.md_graph.specs.Linked.{times}

-- what is kept, one item a place; `marked` is the list of marked places
pub record Links : Type 0 where
  pub kinds : List (Option PlaceKind)
  pub parents : List (Option ℕ)
  pub children : List (List ℕ)
  pub tallies : List ℕ
  pub notes : List ℕ
  pub marked : List ℕ

-- the kind of a place, none where it is free
abbrev pub kind_at : Links → ℕ → Option PlaceKind
kind_at l p = slice_index_or l.kinds p None

-- the parent of a place, or none
abbrev pub parent_at : Links → ℕ → Option ℕ
parent_at l p = slice_index_or l.parents p None

-- the children of a place, in order
abbrev pub children_at : Links → ℕ → List ℕ
children_at l p = slice_index_or l.children p []

-- the tally of a place
abbrev pub tally_at : Links → ℕ → ℕ
tally_at l p = slice_index_or l.tallies p 0

-- the note of a place
abbrev pub note_at : Links → ℕ → ℕ
note_at l p = slice_index_or l.notes p 0

-- the place isn't free
abbrev pub IsLive : Links → ℕ → Type 0
IsLive l p = IsSome (kind_at l p)

-- the place is on the list of marked places
abbrev pub IsMarked : Links → ℕ → Type 0
IsMarked l p = times p l.marked ≡ 1

-- the number of free places
abbrev pub spare_count : Links → ℕ
spare_count l = count_by is_none l.kinds

-- 1 where the place isn't free, else 0
abbrev pub alive : Links → ℕ → ℕ
alive l p = cond (is_some (kind_at l p)) 1 0

-- the list that a place with this parent stands in: none stands in no list
abbrev pub siblings : Links → Option ℕ → List ℕ
siblings l None = []
siblings l (Some q) = children_at l q

-- the place has no parent, children and marks
pub record IsBare (l : Links) (p : ℕ) : Type 0 where
  pub no_parent : parent_at l p ≡ None
  pub no_children : children_at l p ≡ []
  pub no_tally : tally_at l p ≡ 0
  pub no_note : note_at l p ≡ 0

-- there is one item a place; c is a child of p, once, exactly where p is its parent; a place is marked, once,
-- exactly where its tally or its note isn't 0; free places are bare
pub record AreLinks (l : Links) : Type 0 where
  pub kinds_len : length l.kinds ≡ PLACES
  pub parents_len : length l.parents ≡ PLACES
  pub children_len : length l.children ≡ PLACES
  pub tallies_len : length l.tallies ≡ PLACES
  pub notes_len : length l.notes ≡ PLACES
  pub agree : (p c : ℕ) → times c (children_at l p) ≡ holds_once (parent_at l c) p
  pub marks : (p : ℕ) → times p l.marked ≡ min 1 (tally_at l p + note_at l p)
  pub bare : (p : ℕ) → kind_at l p ≡ None → IsBare l p

-- all places are free
unfoldable pub all_free : Links
all_free = record {
  kinds = replicate PLACES None;
  parents = replicate PLACES None;
  children = replicate PLACES [];
  tallies = replicate PLACES 0;
  notes = replicate PLACES 0;
  marked = [];
}

-- p has another kind, or none
abbrev pub with_kind : Links → ℕ → Option PlaceKind → Links
with_kind l p k = record l { kinds = slice_set l.kinds p k }

-- c becomes the last child of q
abbrev pub attached : Links → ℕ → ℕ → Links
attached l q c = record l { parents = slice_set l.parents c (Some q); children = slice_set l.children q (children_at l q ++ c ∷ []) }

-- c leaves the children of q, and has no parent
abbrev pub detached : Links → ℕ → ℕ → Links
detached l q c = record l { parents = slice_set l.parents c None; children = slice_set l.children q (without c (children_at l q)) }

-- n stands where p stood among the children of q, and p has no parent
abbrev pub replaced : Links → ℕ → ℕ → ℕ → Links
replaced l q p n = record l {
  parents = slice_set (slice_set l.parents p None) n (Some q);
  children = slice_set l.children q (exchanged p n (children_at l q));
}

-- the tally of p is one more, and p is marked
abbrev pub raised : Links → ℕ → Links
raised l p = record l { tallies = slice_set l.tallies p (tally_at l p + 1); marked = added_once p l.marked }

-- p has another note, and is marked
abbrev pub noted : Links → ℕ → ℕ → Links
noted l p note = record l { notes = slice_set l.notes p note; marked = added_once p l.marked }

-- of marked places, the first leaves them, and its tally and its note are 0
abbrev pub unmarked_first : Links → List ℕ → Links
unmarked_first l [] = l
unmarked_first l (p ∷ rest) = record l { tallies = slice_set l.tallies p 0; notes = slice_set l.notes p 0; marked = rest }

-- the first marked place, if there is one, isn't marked any more
abbrev pub unmarked : Links → Links
unmarked l = unmarked_first l l.marked
