-- A list in place: its first and last item and their number, and for each item the one behind it and the one before it.
-- Source: doubly linked lists, as in any textbook.
use Rattle.std.specs.Prelude.{Option, Some, None, ◌≡◌, ℕ, List, [], ◌∷◌, length, slice_index_or, slice_set}
use Rattle.md_lists.specs.declared.span.Span.{Span}
use Rattle.md_graph.specs.Linked.{first_or, walk}
use Rattle.md_lists.specs.Words.{last_or}

-- the ends and the number of the items
abbrev pub span_of : List ℕ → Span
span_of xs = record { first = first_or xs None; last = last_or xs None; count = length xs }

-- at each item, `previous` has the one before it, and `before` at the first
abbrev pub Precede : List (Option ℕ) → Option ℕ → List ℕ → Type 0
Precede previous before [] = Unit {0}
Precede previous before (x ∷ xs) = (slice_index_or previous x None ≡ before) × Precede previous (Some x) xs

-- a link is written at a place, if there is one
abbrev pub linked : List (Option ℕ) → Option ℕ → Option ℕ → List (Option ℕ)
linked links None to = links
linked links (Some p) to = slice_set links p to

-- the items of a list in place
abbrev pub span_list : List (Option ℕ) → Span → List ℕ
span_list nexts span = walk nexts span.count span.first
