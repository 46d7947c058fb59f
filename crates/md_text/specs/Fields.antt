-- The fields of a line.
use Rattle.std.specs.Prelude.{◌≡◌, ℕ, ◌<◌, Bool, false, not, ◌||◌, List, length, ◌==◌, filter}
use Rattle.std.specs.List.{All, slice_split}

-- a space or a tab (the class `blank` of POSIX)
abbrev pub is_blank : ℕ → Bool
is_blank byte = byte == 32 || byte == 9

-- whether a part between blanks has a byte
abbrev pub has_byte : List ℕ → Bool
has_byte part = not (length part == 0)

-- the longest runs of bytes that are no blanks, from left to right: the parts between blanks, without
-- the empty ones (fields as awk splits them)
unfoldable pub fields : List ℕ → List (List ℕ)
fields line = filter has_byte (slice_split is_blank line)

-- some bytes, none of them a blank
pub record IsWord (word : List ℕ) : Type 0 where
  pub some_byte : 0 < length word
  pub no_blank : All (λ byte. is_blank byte ≡ false) word
