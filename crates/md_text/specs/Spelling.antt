-- What bytes spell, and the first fault of bytes that spell nothing: the words that readers of files share.
-- `Spells` relates bytes to what they spell.
use Rattle.std.specs.Prelude.{◌≡◌, ℕ, ◌+◌, List, [], ◌∷◌, Option, None, Some, MatchOption}
use Rattle.md_text.specs.Lines.{without_return}
use Rattle.md_text.specs.Fields.{fields}

-- the bytes spell x and nothing else
pub record SpellsOnly {X : Type 0} (Spells : List ℕ → X → Type 0) (bytes : List ℕ) (x : X) : Type 0 where
  pub spells : Spells bytes x
  pub only : (other : X) → Spells bytes other → other ≡ x

-- the bytes spell exactly one thing
abbrev pub SpellsOne : {X : Type 0} → (List ℕ → X → Type 0) → List ℕ → Type 0
SpellsOne {X} Spells bytes = (x : X) × SpellsOnly Spells bytes x

-- the bytes spell nothing
abbrev pub SpellsNone : {X : Type 0} → (List ℕ → X → Type 0) → List ℕ → Type 0
SpellsNone {X} Spells bytes = (x : X) → Spells bytes x → ⊥

-- bytes either have no fault and spell exactly one thing, or have a first fault and spell nothing
abbrev pub SpelledOrFaulty : {X F : Type 0} → (List ℕ → X → Type 0) → (List ℕ → Option F) → Type 0
SpelledOrFaulty Spells first_fault =
    (bytes : List ℕ) → MatchOption (first_fault bytes) (SpellsOne Spells bytes) (λ _. SpellsNone Spells bytes)

-- bytes that spell something have no fault
abbrev pub SpelledHasNoFault : {X F : Type 0} → (List ℕ → X → Type 0) → (List ℕ → Option F) → Type 0
SpelledHasNoFault {X} Spells first_fault = (bytes : List ℕ) (x : X) → Spells bytes x → first_fault bytes ≡ None

-- the fields of a line, of which one byte 13 at its end is no part
abbrev pub words : List ℕ → List (List ℕ)
words line = fields (without_return line)

-- the kind, if there is one, as the fault of line `number`, or else what comes later
abbrev pub fault_or : {K F : Type 0} → (K → ℕ → F) → Option K → ℕ → Option F → Option F
fault_or fault_at None number later = later
fault_or fault_at (Some kind) number later = Some (fault_at kind number)

-- The first fault of lines behind `count` others, which count too: that of the first faulty line, with its number,
-- or else that of the end. What stood before a line is `seen`, and `after` the line this with it.
unfoldable pub first_fault_behind : {S K F : Type 0} → (K → ℕ → F) → (S → List ℕ → Option K) → (S → List ℕ → S) → (S → ℕ → Option F)
    → S → ℕ → List (List ℕ) → Option F
first_fault_behind fault_at of_line after at_end seen count [] = at_end seen count
first_fault_behind fault_at of_line after at_end seen count (line ∷ more) =
    fault_or fault_at (of_line seen line) (count + 1) (first_fault_behind fault_at of_line after at_end (after seen line) (count + 1) more)
