-- Where the limit of the number of vertices isn't at fault, a greater one changes nothing.
use Rattle.std.proofs.Common.{◌≡◌, ◌≢◌, ◌⊎◌, ℕ, ◌+◌, ◌≤◌, ◌==◌, Bool, true, false, not, List, [], ◌∷◌, get_or, if◌then◌else◌, nat_lt, Option, None, Some, inl, inr, refl, sym, ◌∙◌, arith}
use Rattle.std.specs.List.{list_all}
use Rattle.std.proofs.lemmas.Bool.{cases_lt, lt-ltb, le-ltb}
use Rattle.md_text.specs.Spelling.{fault_or, first_fault_behind}
use Rattle.md_graph.specs.declared.TheConstants.{NAMES}
use Rattle.md_graph6.specs.declared.fault.G6Fault.{G6Fault}
use Rattle.md_graph6.specs.declared.fault.G6Kind.{G6Kind}
use Rattle.md_graph6.specs.declared.fault.G6Kind.TheVariants.{BadByte, BadSize, TooManyVertices, OtherFormat}
use Rattle.md_graph6.specs.Size.{size_of, is_too_long}
use Rattle.md_graph6.specs.Line.{is_group, begins_other, body_fault, size_fault, graph6_fault}
use Rattle.md_graph6.specs.SparseLine.{pairs_fault, sparse_size_fault, sparse_fault}
use Rattle.md_graph6.specs.FileLine.{line_fault}
use Rattle.md_graph6.specs.File.{fault_at, fault_after, file_lines, HasNoFault, first_fault}
use Rattle.md_graph6.specs.Laws.{LimitsAgree}

-- there are too many vertices under the lower limit, or the fault stays under the higher
abbrev Agree : Option G6Kind → Option G6Kind → Type 0
Agree low high = (low ≡ Some TooManyVertices) ⊎ (high ≡ low)

-- a test comes before, which no limit changes
agree_behind : (test : Bool) (kind : Option G6Kind) {low high : Option G6Kind} → Agree low high
    → Agree (if test then kind else low) (if test then kind else high)
agree_behind true kind later = inr refl
agree_behind false kind later = later

agree_many : (low high n : ℕ) (later : Option G6Kind) → low ≤ high
    → Agree (if nat_lt low n then Some TooManyVertices else later) (if nat_lt high n then Some TooManyVertices else later)
agree_many low high n later more =
    elim (cases_lt low n) [
      | inl above ↦ inl (rw (lt-ltb low n above) refl)
      | inr below ↦ inr (rw (le-ltb low n below, le-ltb high n (omega (arith, below, more))) refl)
    ]

body_agree : (low high : ℕ) → low ≤ high → (line : List ℕ) (taken n : ℕ) → Agree (body_fault low line taken n) (body_fault high line taken n)
unfolding body_fault
body_agree low high more line taken n =
    agree_behind (is_too_long taken n) (Some BadSize) (agree_many low high n _ more)

size_agree : (low high : ℕ) → low ≤ high → (line : List ℕ) (size : Option (ℕ × ℕ)) → Agree (size_fault low line size) (size_fault high line size)
unfolding size_fault
size_agree low high more line None = inr refl
size_agree low high more line (Some size) = body_agree low high more line size.0 size.1

graph6_agree : (low high : ℕ) → low ≤ high → (line : List ℕ) → Agree (graph6_fault low line) (graph6_fault high line)
unfolding graph6_fault
graph6_agree low high more line =
    agree_behind (begins_other (get_or line 0 0)) (Some OtherFormat)
    (agree_behind (not (list_all is_group line)) (Some BadByte) (size_agree low high more line (size_of line)))

pairs_agree : (low high : ℕ) → low ≤ high → (rest : List ℕ) (taken n : ℕ) → Agree (pairs_fault low rest taken n) (pairs_fault high rest taken n)
unfolding pairs_fault
pairs_agree low high more rest taken n =
    agree_behind (is_too_long taken n) (Some BadSize) (agree_many low high n _ more)

sparse_size_agree : (low high : ℕ) → low ≤ high → (rest : List ℕ) (size : Option (ℕ × ℕ)) → Agree (sparse_size_fault low rest size) (sparse_size_fault high rest size)
unfolding sparse_size_fault
sparse_size_agree low high more rest None = inr refl
sparse_size_agree low high more rest (Some size) = pairs_agree low high more rest size.0 size.1

sparse_agree : (low high : ℕ) → low ≤ high → (rest : List ℕ) → Agree (sparse_fault low rest) (sparse_fault high rest)
unfolding sparse_fault
sparse_agree low high more [] = inr refl
sparse_agree low high more (byte ∷ rest) =
    agree_behind (not (list_all is_group (byte ∷ rest))) (Some BadByte) (sparse_size_agree low high more (byte ∷ rest) (size_of (byte ∷ rest)))

-- a test of the line, which no limit changes
agree_either : (test : Bool) {a b c d : Option G6Kind} → Agree a b → Agree c d → Agree (if test then a else c) (if test then b else d)
agree_either true first second = first
agree_either false first second = second

line_agree : (low high : ℕ) → low ≤ high → (line : List ℕ) → Agree (line_fault low line) (line_fault high line)
unfolding line_fault
line_agree low high more [] = inr refl
line_agree low high more (byte ∷ rest) =
    agree_either (byte == 58) (sparse_agree low high more rest) (graph6_agree low high more (byte ∷ rest))

-- some line has too many vertices, or the first fault stays
abbrev FaultsAgree : Option G6Fault → Option G6Fault → Type 0
FaultsAgree low high = ((number : ℕ) × (low ≡ Some (fault_at TooManyVertices number))) ⊎ (high ≡ low)

fault_or_agree : (low high : Option G6Kind) (number : ℕ) (later_low later_high : Option G6Fault) → Agree low high
    → FaultsAgree later_low later_high → FaultsAgree (fault_or fault_at low number later_low) (fault_or fault_at high number later_high)
fault_or_agree low high number later_low later_high (inl many) later = inl (number, rw many refl)
fault_or_agree None high number later_low later_high (inr same) later = rw same later
fault_or_agree (Some kind) high number later_low later_high (inr same) later = inr (rw same refl)

lines_agree : (low high : ℕ) → low ≤ high → (before : ℕ) (all : List (List ℕ)) → FaultsAgree (fault_after low before all) (fault_after high before all)
unfolding first_fault_behind
lines_agree low high more before [] = inr refl
lines_agree low high more before (line ∷ all) =
    fault_or_agree _ _ (before + 1) _ _ (line_agree low high more line) (lines_agree low high more (before + 1) all)

by_file : (low high : Option G6Fault) → FaultsAgree low high
    → (low ≡ None → high ≡ None) × ((fault : G6Fault) → low ≡ Some fault → fault.kind ≢ TooManyVertices → high ≡ Some fault)
by_file low high (inl many) = (λ none. cc (many.1), λ fault is other. absurd (other (kind_of (sym is ∙ many.1))))
  where
    kind_of : {fault : G6Fault} {number : ℕ} → ◌≡◌ {A = Option G6Fault} (Some fault) (Some (fault_at TooManyVertices number)) → fault.kind ≡ TooManyVertices
    kind_of e = cc
by_file low high (inr same) = (λ none. same ∙ none, λ fault is other. same ∙ is)

pub limits_agree : LimitsAgree
limits_agree bytes low high more = by_file _ _ (lines_agree low high more 0 (file_lines bytes))

-- a file without fault under a limit has none under the greatest
pub sound_under_most : (bytes : List ℕ) → (limit : ℕ) × (limit ≤ NAMES) × (first_fault limit bytes ≡ None) → HasNoFault (file_lines bytes)
sound_under_most bytes sound = (limits_agree bytes sound.0 NAMES sound.1).0 sound.2
