-- A line of a script: its first word, and of an edit's line the names and the edit that they spell.
-- Source: the format and its faults are this project's.
use Rattle.std.specs.Prelude.{ℕ, ◌==◌, nat_eq, nat_le, Bool, true, List, [], ◌∷◌, length, slice_index, if◌then◌else◌, Option, None, Some, codes, option_and_then}
use Rattle.std.specs.Option.{option_or}
use Rattle.std.specs.Cmp.Lexicographic.{pointwise}
use Rattle.std.specs.FinSet as set
use Rattle.md_graph.specs.declared.TheConstants.{NAMES}
use Rattle.md_graph.specs.NameSet.{ascending}
use Rattle.md_text.specs.Numbers.{number_of}
use Rattle.md_script.specs.declared.edit.Edit.{Edit as EditOfGraph}
use Rattle.md_script.specs.declared.edit.Edit.TheVariants.{AddEdge, DelEdge, AddVertex, DelVertex}
use Rattle.md_script.specs.declared.fault.ScriptKind.{ScriptKind}
use Rattle.md_script.specs.declared.fault.ScriptKind.TheVariants.{FieldCount, BadNumber, NameTooLarge}
use Rattle.md_script.specs.declared.word.LineWord.{LineWord}
use Rattle.md_script.specs.declared.word.LineWord.TheVariants.{Edit, Undo, Begin, Commit}
use Rattle.md_script.specs.declared.word.EditWord.{EditWord}
use Rattle.md_script.specs.declared.word.EditWord.TheVariants.{PlusEdge, MinusEdge, PlusVertex, MinusVertex}

-- whether a line with these fields is skipped: it has none, or the first begins with `#`
abbrev pub is_skipped : List (List ℕ) → Bool
is_skipped [] = true
is_skipped (first ∷ rest) = slice_index first 0 == 35

-- the word that a first field is, if it is one of the seven
unfoldable pub word_of : List ℕ → Option LineWord
word_of field =
    if pointwise nat_eq field (codes "+e") then Some (Edit PlusEdge)
    else (if pointwise nat_eq field (codes "-e") then Some (Edit MinusEdge)
    else (if pointwise nat_eq field (codes "+v") then Some (Edit PlusVertex)
    else (if pointwise nat_eq field (codes "-v") then Some (Edit MinusVertex)
    else (if pointwise nat_eq field (codes "undo") then Some Undo
    else (if pointwise nat_eq field (codes "begin") then Some Begin
    else (if pointwise nat_eq field (codes "commit") then Some Commit
    else None))))))

-- the number, if it is one and a name
abbrev pub name_in : Option ℕ → Option ℕ
name_in None = None
name_in (Some n) = if nat_le NAMES n then None else Some n

-- the fault of a field in the place of a name, by its number
abbrev pub number_fault : Option ℕ → Option ScriptKind
number_fault None = Some BadNumber
number_fault (Some n) = if nat_le NAMES n then Some NameTooLarge else None

-- a name before others, if all are there
abbrev pub before_names : Option ℕ → Option (List ℕ) → Option (List ℕ)
before_names None names = None
before_names (Some v) None = None
before_names (Some v) (Some names) = Some (v ∷ names)

-- the names that fields write, if each writes one
unfoldable pub names_written : List (List ℕ) → Option (List ℕ)
names_written [] = Some []
names_written (field ∷ rest) = before_names (name_in (number_of field)) (names_written rest)

-- the first fault of fields that are all to be names
unfoldable pub names_fault : List (List ℕ) → Option ScriptKind
names_fault [] = None
names_fault (field ∷ rest) = option_or (number_fault (number_of field)) (names_fault rest)

-- the edit of a word with these names behind it, if they are as many as it takes; of the neighbours of
-- a new vertex the order and repeats don't matter
abbrev pub edit_with : EditWord → List ℕ → Option EditOfGraph
edit_with PlusEdge (u ∷ v ∷ []) = Some (AddEdge u v)
edit_with MinusEdge (u ∷ v ∷ []) = Some (DelEdge u v)
edit_with PlusVertex (x ∷ names) = Some (AddVertex x (ascending (set.from_list names)))
edit_with MinusVertex (x ∷ []) = Some (DelVertex x)
edit_with _ _ = None

-- the edit of a word with these fields behind it
abbrev pub edit_by : EditWord → List (List ℕ) → Option EditOfGraph
edit_by word rest = option_and_then (edit_with word) (names_written rest)

-- the first fault of fields that are to be n names
abbrev pub count_fault : ℕ → List (List ℕ) → Option ScriptKind
count_fault n rest = if length rest == n then names_fault rest else Some FieldCount

-- the first fault of fields that are to be a name and any number of others
abbrev pub vertex_fault : List (List ℕ) → Option ScriptKind
vertex_fault [] = Some FieldCount
vertex_fault (field ∷ rest) = names_fault (field ∷ rest)

-- the first fault of the fields behind an edit's word
abbrev pub fault_with : EditWord → List (List ℕ) → Option ScriptKind
fault_with PlusEdge rest = count_fault 2 rest
fault_with MinusEdge rest = count_fault 2 rest
fault_with PlusVertex rest = vertex_fault rest
fault_with MinusVertex rest = count_fault 1 rest
