-- A set of vertices that is split down, by splits of both kinds in turn.
-- Source: Corneil, Lerchs and Stewart Burlingham, Complement reducible graphs.
use Rattle.std.specs.Prelude.{◌≡◌, ◌<◌, ◌⊎◌, ℕ, Bool, List, [], ◌∷◌}
use Rattle.std.specs.FinSet.{len, difference}
use Rattle.md_graph.specs.Sets.{NameSet}
use Rattle.md_modules.specs.Kinds.{IsSplit}
use Rattle.md_checker.specs.declared.cograph_test.Unsplit.{Unsplit}

-- what comes of the set s: nothing where it has fewer than four names, and else the two parts of a
-- split
abbrev pub IsSplitUp : {w : ℕ} → (ℕ → ℕ → Bool) → NameSet → List (Unsplit w) → Type 0
IsSplitUp {w} e s sets = ((len s < 4) × (sets ≡ []))
    ⊎ ((rest : Unsplit w) × (part : Unsplit w) × (joined : Bool) × (sets ≡ rest ∷ part ∷ [])
    × IsSplit e s part.names joined × (rest.names ≡ difference s part.names))
