-- What a refused put leaves of its piece, and a device has of what was put.
use Rattle.std.specs.Prelude.{◌≡◌, ℕ, List, ◌++◌, Option, None, Some}
use Rattle.std.specs.Io.KnownBytes.{Appends, append_known}

-- known bytes grew by the beginning of a piece, all or none of it included.
-- Source: the beginnings of a list are the lists that something completes to it.
pub record AppendsFront (old new : Option (List ℕ)) (piece : List ℕ) : Type 0 where
  pub part : List ℕ
  pub rest : List ℕ
  pub whole : piece ≡ part ++ rest
  pub appended : Appends old new part

-- known bytes begin others. Source: the beginnings of a list are the lists that something completes
-- to it.
abbrev pub Begins : Option (List ℕ) → Option (List ℕ) → Type 0
Begins front whole = (rest : List ℕ) × Appends front whole rest

-- known bytes begin themselves with more behind
pub begins_more : (front : Option (List ℕ)) (rest : List ℕ) → Begins front (append_known front rest)
begins_more None rest = (rest, tt)
begins_more (Some bytes) rest = (rest, λ i. bytes ++ rest)
