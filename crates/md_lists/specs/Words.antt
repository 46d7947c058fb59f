-- What is said of lists of places: what is last, what is behind one, what is left without one.
-- Source: finite sequences, as in any textbook.
use Rattle.std.specs.Prelude.{Option, Some, None, ℕ, cond, not, List, [], ◌∷◌, ◌++◌, map, ◌==◌, if◌then◌else◌}
use Rattle.std.specs.List.{filter}
use Rattle.md_graph.specs.Linked.{times, first_or}

-- 1 where there is a place and it is p, else 0
abbrev pub holds_once : Option ℕ → ℕ → ℕ
holds_once None p = 0
holds_once (Some q) p = cond (q == p) 1 0

-- the last item, or `before` where there is none
abbrev pub last_or : List ℕ → Option ℕ → Option ℕ
last_or [] before = before
last_or (x ∷ xs) before = last_or xs (Some x)

-- the item behind p, or none
abbrev pub behind : ℕ → List ℕ → Option ℕ
behind p [] = None
behind p (x ∷ xs) = if x == p then first_or xs None else behind p xs

-- the list without p
abbrev pub without : ℕ → List ℕ → List ℕ
without p xs = filter (λ x. not (x == p)) xs

-- the list with n where p stood
abbrev pub exchanged : ℕ → ℕ → List ℕ → List ℕ
exchanged p n xs = map (λ x. if x == p then n else x) xs

-- the list with p at its end, unless p stands there already
abbrev pub added_once : ℕ → List ℕ → List ℕ
added_once p xs = if times p xs == 0 then xs ++ p ∷ [] else xs
