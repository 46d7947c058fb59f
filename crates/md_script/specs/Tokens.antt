-- A line of a script as a token, which is what it says of the items: an edit, an undo, or that a group begins or ends.
-- Source: the format and its faults are this project's.
use Rattle.std.specs.Prelude.{ℕ, ◌+◌, nat_le, Bool, true, false, not, ◌&&◌, List, [], ◌∷◌, ◌++◌, map, if◌then◌else◌, Option, None, Some, option_map}
use Rattle.std.specs.Bool.{then_some}
use Rattle.md_script.specs.declared.TheConstants.{EDITS}
use Rattle.md_script.specs.declared.fault.ScriptKind.{ScriptKind}
use Rattle.md_script.specs.declared.fault.ScriptKind.TheVariants.{UnknownEdit, FieldCount, Nested, NoGroup, TooManyEdits}
use Rattle.md_script.specs.declared.item.Item.{Item}
use Rattle.md_script.specs.declared.item.Item.TheVariants as item
use Rattle.md_script.specs.declared.token.Token.{Token}
use Rattle.md_script.specs.declared.token.Token.TheVariants.{Edit, Undo, Begin, Commit}
use Rattle.md_script.specs.declared.word.LineWord.{LineWord}
use Rattle.md_script.specs.declared.word.LineWord.TheVariants as word
use Rattle.md_script.specs.Line.{is_skipped, word_of, edit_by, fault_with}

-- the tokens of an item, of a group those of its edits between a beginning and an end
abbrev pub tokens_of : Item → List Token
tokens_of (item.One edit) = Edit edit ∷ []
tokens_of item.Undo = Undo ∷ []
tokens_of (item.Group edits) = Begin ∷ (map Edit edits ++ Commit ∷ [])

-- the token, if no field stands behind its word
abbrev pub lone_token : Token → List (List ℕ) → Option Token
lone_token token [] = Some token
lone_token token (field ∷ rest) = None

-- the token of a word with these fields behind it
abbrev pub token_by : Option LineWord → List (List ℕ) → Option Token
token_by None rest = None
token_by (Some (word.Edit edit_word)) rest = option_map Edit (edit_by edit_word rest)
token_by (Some word.Undo) rest = lone_token Undo rest
token_by (Some word.Begin) rest = lone_token Begin rest
token_by (Some word.Commit) rest = lone_token Commit rest

-- the token that the fields of a line spell, if they spell one
abbrev pub token_of : List (List ℕ) → Option Token
token_of [] = None
token_of (first ∷ rest) = token_by (word_of first) rest

-- what stood before a line: how many lines that count, and whether a group is open
pub record Seen : Type 0 where
  pub counted : ℕ
  pub inside : Bool

-- every word counts but the end of a group
abbrev pub is_counted : Option LineWord → Bool
is_counted (Some word.Commit) = false
is_counted _ = true

-- the first fault of a word that takes no field: one stands behind it, or else the word stands in the wrong place
abbrev pub lone_fault : Bool → ScriptKind → List (List ℕ) → Option ScriptKind
lone_fault wrong kind [] = then_some wrong kind
lone_fault wrong kind (field ∷ rest) = Some FieldCount

-- the first fault of a word and the fields behind it, inside a group or outside
abbrev pub fault_by : Bool → Option LineWord → List (List ℕ) → Option ScriptKind
fault_by inside None rest = Some UnknownEdit
fault_by inside (Some (word.Edit edit_word)) rest = fault_with edit_word rest
fault_by inside (Some word.Undo) rest = lone_fault inside Nested rest
fault_by inside (Some word.Begin) rest = lone_fault inside Nested rest
fault_by inside (Some word.Commit) rest = lone_fault (not inside) NoGroup rest

-- the same where too many lines that count may have stood before
abbrev pub word_fault : Seen → Option LineWord → List (List ℕ) → Option ScriptKind
word_fault seen word rest =
    if is_counted word && nat_le EDITS seen.counted then Some TooManyEdits else fault_by seen.inside word rest

-- the first fault of the fields of a line that isn't skipped
abbrev pub token_fault : Seen → List (List ℕ) → Option ScriptKind
token_fault seen [] = None
token_fault seen (first ∷ rest) = word_fault seen (word_of first) rest

-- the first fault of a line by its fields
abbrev pub fault_of_words : Seen → List (List ℕ) → Option ScriptKind
fault_of_words seen ws = if is_skipped ws then None else token_fault seen ws

-- what stood before the next line, once this word stood there too
abbrev pub seen_with : Seen → Option LineWord → Seen
seen_with seen (Some word.Begin) = record { counted = seen.counted + 1; inside = true }
seen_with seen (Some word.Commit) = record { counted = seen.counted; inside = false }
seen_with seen _ = record { counted = seen.counted + 1; inside = seen.inside }

-- what stood before the next line, once a line with these fields stood there too
abbrev pub seen_after : Seen → List (List ℕ) → Seen
seen_after seen [] = seen
seen_after seen (first ∷ rest) = if is_skipped (first ∷ rest) then seen else seen_with seen (word_of first)
