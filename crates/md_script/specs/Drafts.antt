-- Drafts of scripts: what the lines read so far spell.
-- Source: the format of scripts is this project's.
use Rattle.std.specs.Prelude.{◌≡◌, ℕ, ◌+◌, ◌<◌, ◌≤◌, false, true, List, [], ◌∷◌, ◌++◌, length, map, is_some, IfSome, Option, None, Some, if◌then◌else◌, ⊤}
use Rattle.std.specs.List.{All, flat_map, sum_by}
use Rattle.md_graph.specs.declared.TheConstants.{NAMES}
use Rattle.md_script.specs.declared.TheConstants.{EDITS}
use Rattle.md_script.specs.declared.edit.Edit.{Edit}
use Rattle.md_script.specs.declared.item.Item.{Item}
use Rattle.md_script.specs.declared.item.Item.TheVariants.{One, Undo, Group}
use Rattle.md_script.specs.declared.token.Token.{Token}
use Rattle.md_script.specs.declared.token.Token.TheVariants as token
use Rattle.md_script.specs.Edit.{HasNames}
use Rattle.md_script.specs.Items.{IsScriptItem, item_size}
use Rattle.md_script.specs.Line.{is_skipped}
use Rattle.md_script.specs.Tokens.{tokens_of, token_of, Seen}

-- items, and behind them the edits of a group that isn't closed
abbrev pub PlainDraft : Type 0
PlainDraft = List Item × Option (List Edit)

-- the tokens of an open group so far
abbrev pub open_tokens : Option (List Edit) → List Token
open_tokens None = []
open_tokens (Some edits) = token.Begin ∷ map token.Edit edits

-- the lines of an open group that count
abbrev pub open_size : Option (List Edit) → ℕ
open_size None = 0
open_size (Some edits) = length edits + 1

-- the tokens of the lines so far
abbrev pub draft_tokens : PlainDraft → List Token
draft_tokens d = flat_map tokens_of d.0 ++ open_tokens d.1

-- what stood before the next line
abbrev pub draft_seen : PlainDraft → Seen
draft_seen d = record { counted = sum_by item_size d.0 + open_size d.1; inside = is_some d.1 }

-- an edit behind a draft: one more of the open group, or an item
abbrev pub with_edit : PlainDraft → Edit → PlainDraft
with_edit (items, None) edit = (items ++ One edit ∷ [], None)
with_edit (items, Some edits) edit = (items, Some (edits ++ edit ∷ []))

-- the open group as an item
abbrev pub with_group_closed : PlainDraft → PlainDraft
with_group_closed (items, None) = (items, None)
with_group_closed (items, Some edits) = (items ++ Group edits ∷ [], None)

-- a token behind a draft
abbrev pub with_token : PlainDraft → Token → PlainDraft
with_token d (token.Edit edit) = with_edit d edit
with_token d token.Undo = (d.0 ++ Undo ∷ [], d.1)
with_token d token.Begin = (d.0, Some [])
with_token d token.Commit = with_group_closed d

-- a token behind a draft, if there is one
abbrev pub with_token_of : PlainDraft → Option Token → PlainDraft
with_token_of d None = d
with_token_of d (Some token) = with_token d token

-- a line behind a draft, by its fields
abbrev pub draft_after : PlainDraft → List (List ℕ) → PlainDraft
draft_after d ws = if is_skipped ws then d else with_token_of d (token_of ws)

-- the names of a draft are names, and not too many of its lines count
pub record IsDraft (d : PlainDraft) : Type 0 where
  pub items : All (IsScriptItem NAMES) d.0
  pub edits : IfSome d.1 (All HasNames)
  pub few : sum_by item_size d.0 + open_size d.1 ≤ EDITS

-- the names of a token are names
abbrev pub HasTokenNames : Token → Type 0
HasTokenNames (token.Edit edit) = HasNames edit
HasTokenNames _ = ⊤

-- a token may stand behind what stood before: an undo and the beginning of a group outside of groups, the end of one
-- inside; and there is room for one more line that counts, if its own does
abbrev pub MayStand : Seen → Token → Type 0
MayStand seen (token.Edit edit) = seen.counted < EDITS
MayStand seen token.Undo = (seen.inside ≡ false) × (seen.counted < EDITS)
MayStand seen token.Begin = (seen.inside ≡ false) × (seen.counted < EDITS)
MayStand seen token.Commit = seen.inside ≡ true
