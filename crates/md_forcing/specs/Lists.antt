-- What lists hold.
-- Source: finite sequences, as in any textbook.
use Rattle.std.specs.Prelude.{◌≡◌, ◌⊎◌, List, [], ◌∷◌}

-- x is an item of the list
abbrev pub Holds : {X : Type 0} → List X → X → Type 0
Holds [] x = ⊥
Holds (y ∷ ys) x = (x ≡ y) ⊎ Holds ys x

-- no item stands in the list twice
abbrev pub NoRepeats : {X : Type 0} → List X → Type 0
NoRepeats [] = Unit {0}
NoRepeats (x ∷ xs) = (¬ Holds xs x) × NoRepeats xs
