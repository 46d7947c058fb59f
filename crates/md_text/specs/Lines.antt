-- The lines of a text.
use Rattle.std.specs.Prelude.{◌≡◌, ◌≢◌, ◌⊎◌, ℕ, ◌-◌, Bool, List, [], ◌∷◌, ◌++◌, length, take, if◌then◌else◌, ◌==◌, slice_index}
use Rattle.std.specs.List.{All, onto_first}

-- the text cut at each byte 10; what follows the last is a line if it isn't empty
-- (POSIX's text lines, with a last line that may lack its newline)
unfoldable pub lines : List ℕ → List (List ℕ)
lines [] = []
lines (byte ∷ rest) = if byte == 10 then [] ∷ lines rest else onto_first byte (lines rest)

-- the lines, each followed by the byte 10 (a POSIX text file)
unfoldable pub ended : List (List ℕ) → List ℕ
ended [] = []
ended (line ∷ more) = (line ++ 10 ∷ []) ++ ended more

-- no byte is 10, which ends a line
abbrev pub LacksFeed : List ℕ → Type 0
LacksFeed line = All (λ byte. byte ≢ 10) line

-- The text is cut into these lines: no line holds a byte 10, and each ended by one they are the text; or the
-- text lacks the last of these bytes, and then the last line isn't empty.
pub record IsCut (text : List ℕ) (cut : List (List ℕ)) : Type 0 where
  pub no_feed : All LacksFeed cut
  pub whole : (ended cut ≡ text) ⊎ ((ended cut ≡ text ++ 10 ∷ []) × ((before : List (List ℕ)) → cut ≢ before ++ [] ∷ []))

-- the byte ends a line
abbrev pub is_feed : ℕ → Bool
is_feed byte = byte == 10

-- the line without its last byte, where that is 13 (the line ends of CP/M, DOS and Internet mail)
abbrev pub without_return : List ℕ → List ℕ
without_return line =
    if slice_index line (length line - 1) == 13 then take (length line - 1) line else line
