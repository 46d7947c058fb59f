-- What is found along links is the list that they follow.
use Rattle.std.proofs.Common.{◌≡◌, ℕ, List, [], ◌∷◌, length, Option, None, refl, ◌∙◌, ap}
use Rattle.md_graph.specs.Linked.{first_or, Follow, walk}

pub walk-follow : (ns : List (Option ℕ)) (xs : List ℕ) → Follow ns xs None → walk ns (length xs) (first_or xs None) ≡ xs
unfolding walk
walk-follow ns [] h = refl
walk-follow ns (x ∷ xs) h = ap (λ l. x ∷ l) (ap (walk ns (length xs)) h.0 ∙ walk-follow ns xs h.1)
