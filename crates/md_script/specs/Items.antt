-- The items of scripts: an edit, an undo, or a group of edits.
-- Source: the format of scripts is this project's.
use Rattle.std.specs.Prelude.{ℕ, ◌+◌, ◌≤◌, Bool, true, false, length, ⊤}
use Rattle.std.specs.List.{All}
use Rattle.md_script.specs.declared.TheConstants.{EDITS}
use Rattle.md_script.specs.declared.item.Item.{Item}
use Rattle.md_script.specs.declared.item.Item.TheVariants.{One, Undo, Group}
use Rattle.md_script.specs.Edit.{HasNamesBelow}

-- the names in an item are below a limit
abbrev pub HasItemNamesBelow : ℕ → Item → Type 0
HasItemNamesBelow limit (One edit) = HasNamesBelow limit edit
HasItemNamesBelow limit Undo = ⊤
HasItemNamesBelow limit (Group edits) = All (HasNamesBelow limit) edits

-- the lines of an item that count: those of its edits, and the first line of a group
abbrev pub item_size : Item → ℕ
item_size (One edit) = 1
item_size Undo = 1
item_size (Group edits) = length edits + 1

-- for how many edits and items a history needs room before the item
abbrev pub room_for : Item → ℕ
room_for (One edit) = 2
room_for (Group edits) = length edits + 1
room_for Undo = 0

-- what holds of each item of a script: its names are below a limit, and it isn't too large
pub record IsScriptItem (limit : ℕ) (item : Item) : Type 0 where
  pub names : HasItemNamesBelow limit item
  pub small : item_size item ≤ EDITS

-- whether an item is an undo
abbrev pub is_undo : Item → Bool
is_undo Undo = true
is_undo _ = false
