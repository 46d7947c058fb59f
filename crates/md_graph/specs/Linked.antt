-- Lists whose items are numbers of places, and what links from place to place tell of them.
-- Source: linked lists, as in any textbook.
use Rattle.std.specs.Prelude.{Option, Some, None, ◌≡◌, ℕ, zero, suc, ◌+◌, cond, List, [], ◌∷◌, ◌==◌, slice_index_or}

-- how often p stands in the list
abbrev pub times : ℕ → List ℕ → ℕ
times p [] = 0
times p (x ∷ xs) = cond (x == p) 1 0 + times p xs

-- the first item, or `after` where there is none
abbrev pub first_or : List ℕ → Option ℕ → Option ℕ
first_or [] after = after
first_or (x ∷ xs) after = Some x

-- at each item, `nexts` has the one behind it, and `after` at the last
abbrev pub Follow : List (Option ℕ) → List ℕ → Option ℕ → Type 0
Follow nexts [] after = Unit {0}
Follow nexts (x ∷ xs) after = (slice_index_or nexts x None ≡ first_or xs after) × Follow nexts xs after

-- the items that are found from one on, by the links: n of them, or those up to the end
unfoldable pub walk : List (Option ℕ) → ℕ → Option ℕ → List ℕ
walk nexts zero from = []
walk nexts (suc n) None = []
walk nexts (suc n) (Some x) = x ∷ walk nexts n (slice_index_or nexts x None)
