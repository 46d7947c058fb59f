-- A script: the items that it spells, and its first fault.
-- Source: the format and its faults are this project's.
use Rattle.std.specs.Prelude.{◌≡◌, ℕ, ◌+◌, ◌≤◌, false, not, List, map, filter, Option, Some}
use Rattle.std.specs.Bool.{then_some}
use Rattle.std.specs.List.{flat_map, sum_by}
use Rattle.md_text.specs.Lines.{lines}
use Rattle.md_text.specs.Spelling.{words, first_fault_behind}
use Rattle.md_script.specs.declared.TheConstants.{EDITS}
use Rattle.md_script.specs.declared.fault.ScriptKind.{ScriptKind}
use Rattle.md_script.specs.declared.fault.ScriptKind.TheVariants.{OpenGroup}
use Rattle.md_script.specs.declared.item.Item.{Item}
use Rattle.md_script.specs.Items.{item_size}
use Rattle.md_script.specs.Line.{is_skipped}
use Rattle.md_script.specs.Tokens.{tokens_of, token_of, Seen, fault_of_words, seen_after}

-- the fields of each line that isn't skipped
abbrev pub token_lines : List (List ℕ) → List (List (List ℕ))
token_lines all = filter (λ ws. not (is_skipped ws)) (map words all)

-- The bytes spell a script: the lines that aren't skipped spell the tokens of its items, one each, in order, and not too
-- many lines count.
pub record SpellsScript (bytes : List ℕ) (items : List Item) : Type 0 where
  pub each : map token_of (token_lines (lines bytes)) ≡ map Some (flat_map tokens_of items)
  pub few : sum_by item_size items ≤ EDITS

-- what is wrong with a line, and the number of the line
pub record FaultyLine : Type 0 where
  pub kind : ScriptKind
  pub line : ℕ

-- a kind as the fault of a line
abbrev pub fault_at : ScriptKind → ℕ → FaultyLine
fault_at kind line = record { kind = kind; line = line }

-- the fault of a script at its end, behind `count` lines: a group is open
abbrev pub end_fault : Seen → ℕ → Option FaultyLine
end_fault seen count = then_some seen.inside (fault_at OpenGroup (count + 1))

-- the first fault of lines behind `count` others, which count too
abbrev pub fault_behind : Seen → ℕ → List (List ℕ) → Option FaultyLine
fault_behind = first_fault_behind fault_at
    (λ seen line. fault_of_words seen (words line)) (λ seen line. seen_after seen (words line)) end_fault

-- nothing stood before the first line
abbrev pub nothing_seen : Seen
nothing_seen = record { counted = 0; inside = false }

-- the first fault of a script: that of its first faulty line, with the number of the line, counted from 1, or else that
-- of its end
abbrev pub first_fault : List ℕ → Option FaultyLine
first_fault bytes = fault_behind nothing_seen 0 (lines bytes)
