-- How linked lists keep what contracts see of them.
-- Source: doubly linked lists and a stack of free places, as in any textbook.
use Rattle.std.specs.Prelude.{Option, None, ◌≡◌, ℕ, ◌+◌, ◌-◌, ◌<◌, ◌≤◌, List, [], ◌++◌, map, length, replicate, slice_index_or, cond, is_some, is_none}
use Rattle.std.specs.List.{count_by}
use Rattle.md_lists.specs.declared.kinds.PlaceKind.{PlaceKind}
use Rattle.md_lists.specs.declared.span.Span.{Span}
use Rattle.md_lists.specs.declared.TheConstants.{PLACES}
use Rattle.md_graph.specs.Linked.{Follow, times}
use Rattle.md_lists.specs.Links.{Links, AreLinks}
use Rattle.md_lists.specs.Spans.{span_of, span_list, Precede}

-- what the lists keep, one item for each of the places that were made, which are the numbers below `made`; but for `marks`, the
-- ends of the list of marked places, and `free`, the free ones of these places
pub record Store : Type 0 where
  pub made : ℕ
  pub kinds : List (Option PlaceKind)
  pub parents : List (Option ℕ)
  pub spans : List Span
  pub nexts : List (Option ℕ)
  pub previous : List (Option ℕ)
  pub tallies : List ℕ
  pub notes : List ℕ
  pub marks : Span
  pub mark_nexts : List (Option ℕ)
  pub free : List ℕ

-- the items, and behind them as many times `rest` as make n items of them
unfoldable pub filled_up : {X : Type 0} → List X → X → ℕ → List X
filled_up xs rest n = xs ++ replicate (n - length xs) rest

-- what contracts see of them: a place that wasn't made has no kind, parent, children and marks
unfoldable pub links_of : Store → Links
links_of f = record {
  kinds = filled_up f.kinds None PLACES;
  parents = filled_up f.parents None PLACES;
  children = filled_up (map (span_list f.nexts) f.spans) [] PLACES;
  tallies = filled_up f.tallies 0 PLACES;
  notes = filled_up f.notes 0 PLACES;
  marked = span_list f.mark_nexts f.marks;
}

-- of each place the fields have its children in order, by the ends and the number of them, and by the links between them
pub record ShowsChildren (made : ℕ) (parents : List (Option ℕ)) (children : List (List ℕ)) (ends : List Span) (nexts previous : List (Option ℕ)) : Type 0 where
  pub spans_len : length ends ≡ made
  pub nexts_len : length nexts ≡ made
  pub previous_len : length previous ≡ made
  pub spans : (p : ℕ) → slice_index_or ends p (span_of []) ≡ span_of (slice_index_or children p [])
  pub forward : (p : ℕ) → Follow nexts (slice_index_or children p []) None
  pub back : (p : ℕ) → Precede previous None (slice_index_or children p [])
  pub loose : (c : ℕ) → slice_index_or parents c None ≡ None → slice_index_or nexts c None ≡ None

-- the fields have the marked places in order
pub record ShowsMarked (made : ℕ) (marked : List ℕ) (ends : Span) (nexts : List (Option ℕ)) : Type 0 where
  pub mark_nexts_len : length nexts ≡ made
  pub marks : ends ≡ span_of marked
  pub mark_forward : Follow nexts marked None

-- the free ones of the places that were made are those without a kind, each of them once; all other places are free too
pub record ShowsFree (made : ℕ) (kinds : List (Option PlaceKind)) (free : List ℕ) : Type 0 where
  pub made_few : made ≤ PLACES
  pub free_once : (p : ℕ) → p < made → times p free + cond (is_some (slice_index_or kinds p None)) 1 0 ≡ 1
  pub free_within : (p : ℕ) → made ≤ p → times p free ≡ 0
  pub free_count : length free + (PLACES - made) ≡ count_by is_none kinds

-- the fields keep these links
pub record Shows (f : Store) (l : Links) : Type 0 where
  pub links : AreLinks l
  pub kinds_len : length f.kinds ≡ f.made
  pub parents_len : length f.parents ≡ f.made
  pub tallies_len : length f.tallies ≡ f.made
  pub notes_len : length f.notes ≡ f.made
  pub kinds : filled_up f.kinds None PLACES ≡ l.kinds
  pub parents : filled_up f.parents None PLACES ≡ l.parents
  pub tallies : filled_up f.tallies 0 PLACES ≡ l.tallies
  pub notes : filled_up f.notes 0 PLACES ≡ l.notes
  pub children : ShowsChildren f.made l.parents l.children f.spans f.nexts f.previous
  pub open children use *
  pub marked : ShowsMarked f.made l.marked f.marks f.mark_nexts
  pub open marked use *
  pub spare : ShowsFree f.made l.kinds f.free
  pub open spare use *

-- the fields keep some links
abbrev pub IsStore : Store → Type 0
IsStore f = (l : Links) × Shows f l
