-- The words with which lines begin, and what stands behind them.
-- Source: this project's own format of reports.
use Rattle.std.specs.Prelude.{◌≡◌, ◌≢◌, ℕ, List, [], ◌∷◌, ◌++◌, codes, Option, Result, Ok, Err, ⊤}
use Rattle.std.specs.List.{All}
use Rattle.md_text.specs.Numbers.{decimal}
use Rattle.md_forcing.specs.declared.arc.Arc.{Arc}
use Rattle.md_modules.specs.declared.induced_paths.P4.{P4}
use Rattle.md_tree.specs.declared.Kind.{Kind}
use Rattle.md_tree.specs.declared.Pair.{Pair}
use Rattle.md_tree.specs.declared.TreeOf.{TreeOf}
use Rattle.md_tree.specs.Trees.{PlainTree}
use Rattle.md_tree.specs.Plain.{plain_option}
use Rattle.md_tree.specs.TreeTexts.{text_of}
use Rattle.md_tree.specs.WellFormed.{IsWellFormed}
use Rattle.md_script.specs.declared.edit.EditReason.{EditReason}
use Rattle.md_report.specs.declared.line.Mode.{Mode}
use Rattle.md_report.specs.declared.line.Line.{Line}
use Rattle.md_report.specs.declared.reader.LineFault.{LineFault}
use Rattle.md_report.specs.declared.reader.LineFault.TheVariants.{Syntax, Memory}
use Rattle.md_report.specs.declared.words.Word.{Word}
use Rattle.md_report.specs.declared.words.Word.TheVariants.{Head, Tree as TreeWord, Applied, Path, Yes, No, End}
use Rattle.md_report.specs.declared.words.Refusal.{Refusal}
use Rattle.md_report.specs.declared.words.Refusal.TheVariants as refusals
use Rattle.md_report.specs.Cuts.{Opens}
use Rattle.md_report.specs.Lines.{plain_line, mode_word, reason_words, names_text, p4_text, arcs_text, line_text}
use Rattle.md_report.specs.WellFormedLines.{IsVertexName, IsEditNumber, IsNamedArc, IsNamedChain, IsNamedP4, IsNamedReason, IsWellFormedLine}

-- the first word of a line
abbrev pub word_text : Word → List ℕ
word_text Head = codes "mdt"
word_text TreeWord = codes "t"
word_text Applied = codes "ok"
word_text Path = codes "p4"
word_text Yes = codes "yes"
word_text No = codes "no"
word_text End = codes "end"

-- the second word behind `no`, where it is no arc
abbrev pub refusal_text : Refusal → List ℕ
refusal_text refusals.Same = codes "same"
refusal_text refusals.Vertex = codes "vertex"
refusal_text refusals.Taken = codes "taken"
refusal_text refusals.There = codes "edge-there"
refusal_text refusals.Absent = codes "edge-absent"
refusal_text refusals.Path = codes "p4"
refusal_text refusals.Graph = codes "g"
refusal_text refusals.Complement = codes "c"
refusal_text refusals.Edit = codes "edit"
refusal_text refusals.Undo = codes "undo"

-- nothing that may stand behind the word of a reason is this text
abbrev pub NoReason : Refusal → List ℕ → Type 0
NoReason refusals.Same text = text ≢ []
NoReason refusals.Vertex text = (v : ℕ) → IsVertexName v → text ≢ 32 ∷ decimal v
NoReason refusals.Taken text = (v : ℕ) → IsVertexName v → text ≢ 32 ∷ decimal v
NoReason refusals.There text = text ≢ []
NoReason refusals.Absent text = text ≢ []
NoReason _ text = ⊤

-- no number of an edit of a group, and a reason or an induced P4, have this text
pub record NoGroup (text : List ℕ) : Type 0 where
  pub reasons : (number : ℕ) (reason : EditReason) → IsEditNumber number → IsNamedReason reason → text ≢ 32 ∷ (decimal number ++ (codes " " ++ reason_words reason))
  pub paths : (number : ℕ) (p : P4) → IsEditNumber number → IsNamedP4 p → text ≢ 32 ∷ (decimal number ++ (codes " p4" ++ p4_text p))

-- nothing that may stand behind `no` and a word is this text
abbrev pub NoRefusal : Refusal → List ℕ → Type 0
NoRefusal refusals.Same text = NoReason refusals.Same text
NoRefusal refusals.Vertex text = NoReason refusals.Vertex text
NoRefusal refusals.Taken text = NoReason refusals.Taken text
NoRefusal refusals.There text = NoReason refusals.There text
NoRefusal refusals.Absent text = NoReason refusals.Absent text
NoRefusal refusals.Path text = (p : P4) → IsNamedP4 p → text ≢ p4_text p
NoRefusal refusals.Graph text = (chain : List Arc) → IsNamedChain chain → text ≢ arcs_text chain
NoRefusal refusals.Complement text = (chain : List Arc) → IsNamedChain chain → text ≢ arcs_text chain
NoRefusal refusals.Edit text = NoGroup text
NoRefusal refusals.Undo text = text ≢ []

-- nothing that may stand behind `no` is this text
pub record NoNo (text : List ℕ) : Type 0 where
  pub chains : (chain : List Arc) → IsNamedChain chain → text ≢ arcs_text chain
  pub words : (w : Refusal) (rest : List ℕ) → Opens 32 rest → text ≡ 32 ∷ (refusal_text w ++ rest) → NoRefusal w rest

-- nothing that may stand behind `yes` is this text
pub record NoYes (text : List ℕ) : Type 0 where
  pub arcs : (arcs : List Arc) → All IsNamedArc arcs → text ≢ arcs_text arcs
  pub orders : (first second : List ℕ) → All IsVertexName first → All IsVertexName second → text ≢ names_text first ++ (codes " /" ++ names_text second)

-- nothing that may stand behind `ok` is this text
pub record NoOk (text : List ℕ) : Type 0 where
  pub some : text ≢ []
  pub trees : (o : Option PlainTree) → IsWellFormed o → text ≢ 32 ∷ text_of o

-- nothing that may stand behind a first word is this text
abbrev pub NoLine : Word → List ℕ → Type 0
NoLine Head text = (mode : Mode) → text ≢ 32 ∷ mode_word mode
NoLine TreeWord text = (o : Option PlainTree) → IsWellFormed o → text ≢ 32 ∷ text_of o
NoLine Applied text = NoOk text
NoLine Path text = (p : P4) → IsNamedP4 p → text ≢ p4_text p
NoLine Yes text = NoYes text
NoLine No text = NoNo text
NoLine End text = text ≢ []

-- what reading says of a text: the well-formed line of which it is the text, behind a front, or that none has it
abbrev pub Reads : List ℕ → Type 0 → Result Line LineFault → Type 0
Reads whole None (Ok line) = IsWellFormedLine (plain_line line) × (whole ≡ line_text (plain_line line))
Reads whole None (Err Syntax) = None
Reads whole None (Err Memory) = ⊤

-- of what stands behind a first word
abbrev pub ReadsBehind : Word → List ℕ → Result Line LineFault → Type 0
ReadsBehind w text result = Reads (word_text w ++ text) (NoLine w text) result

-- of what stands behind `no` and a word
abbrev pub ReadsRefusal : Refusal → List ℕ → Result Line LineFault → Type 0
ReadsRefusal w text result = Reads (codes "no " ++ (refusal_text w ++ text)) (NoRefusal w text) result

-- of what stands behind `no` and the word of a reason
abbrev pub ReadsReason : Refusal → List ℕ → Result Line LineFault → Type 0
ReadsReason w text result = Reads (codes "no " ++ (refusal_text w ++ text)) (NoReason w text) result

-- of two parts behind `yes`, between which a slash stands
abbrev pub ReadsOrders : List ℕ → List ℕ → Result Line LineFault → Type 0
ReadsOrders front back result = Reads (codes "yes" ++ (front ++ 47 ∷ back))
    ((first second : List ℕ) → All IsVertexName first → All IsVertexName second → front ≡ names_text first ++ 32 ∷ [] → back ≢ names_text second) result

-- of a tree behind its word
abbrev pub ReadsTree : List ℕ → Result (Option (TreeOf Kind Pair)) LineFault → Type 0
ReadsTree text (Ok o) = IsWellFormed (plain_option o) × (text ≡ 32 ∷ text_of (plain_option o))
ReadsTree text (Err Syntax) = (o : Option PlainTree) → IsWellFormed o → text ≢ 32 ∷ text_of o
ReadsTree text (Err Memory) = ⊤
