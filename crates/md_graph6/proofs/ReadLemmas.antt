-- How a reader goes through the lines of a file: `of_line` is the first fault of a line, `graph_of` its graph.
use Rattle.std.proofs.Common.{◌≡◌, ℕ, ◌+◌, ◌<◌, ◌≤◌, ◌==◌, Bool, true, false, not, Option, List, [], ◌∷◌, length, if◌then◌else◌, None, Some, inl, inr, refl, sym, ap, ◌∙◌, arith}
use mir.Val.{bool_byte}
use Rattle.std.proofs.lemmas.Bool.{eq-eqb}
use Rattle.std.proofs.lemmas.Bool.Decides.{eqb_tells}
use Rattle.md_graph.specs.declared.TheConstants.{NAMES}
use Rattle.md_text.specs.Lines.{lines, without_return}
use Rattle.md_text.proofs.LineLemmas.{no_lines}
use Rattle.md_text.specs.Spelling.{fault_or, first_fault_behind}
use Rattle.md_graph6.specs.declared.fault.G6Fault.{G6Fault}
use Rattle.md_graph6.specs.declared.fault.G6Kind.{G6Kind}
use Rattle.md_graph6.specs.FileLine.{line_fault}
use Rattle.md_graph6.specs.File.{stripped_lines, fault_behind, HasNoFault, graphs_of_lines, from_first, fault_at}

-- a text without bytes has no lines
stripped_lines-empty : (text : List ℕ) → length text ≡ 0 → stripped_lines text ≡ []
stripped_lines-empty text none = rw (no_lines text (eq-eqb (length text) 0 none)) refl

-- the first line and the others
pub stripped_lines-cut : (text line rest : List ℕ) → lines text ≡ line ∷ lines rest
    → stripped_lines text ≡ without_return line ∷ stripped_lines rest
stripped_lines-cut text line rest cut = rw cut refl

-- no lines have no fault
pub fault_behind-end : (of_line : List ℕ → Option G6Kind) (before : ℕ) (text : List ℕ) → length text ≡ 0
    → fault_behind of_line before (stripped_lines text) ≡ None
unfolding first_fault_behind
fault_behind-end of_line before text none = rw (stripped_lines-empty text none) refl

-- no lines give no graphs
pub graphs_of_lines-end : {G : Type 0} (graph_of : List ℕ → G) (text : List ℕ) → length text ≡ 0 → graphs_of_lines graph_of (stripped_lines text) ≡ []
unfolding graphs_of_lines
graphs_of_lines-end graph_of text none = rw (stripped_lines-empty text none) refl

-- the fault of the first line, or of a later one
fault_behind-cut : (of_line : List ℕ → Option G6Kind) (before : ℕ) (text line rest : List ℕ) → lines text ≡ line ∷ lines rest
    → fault_behind of_line before (stripped_lines text)
    ≡ fault_or fault_at (of_line (without_return line)) (before + 1) (fault_behind of_line (before + 1) (stripped_lines rest))
unfolding first_fault_behind
fault_behind-cut of_line before text line rest cut = rw (stripped_lines-cut text line rest cut) refl

-- the graphs behind an empty line
graphs_of_lines-skip : {G : Type 0} (graph_of : List ℕ → G) (line : List ℕ) (more : List (List ℕ)) → length line ≡ 0
    → graphs_of_lines graph_of (line ∷ more) ≡ graphs_of_lines graph_of more
unfolding graphs_of_lines
graphs_of_lines-skip graph_of [] more none = refl
graphs_of_lines-skip graph_of (byte ∷ line) more none = absurd (omega arith)

-- the graph of another line, and the others
graphs_of_lines-more : {G : Type 0} (graph_of : List ℕ → G) (line : List ℕ) (more : List (List ℕ)) → 0 < length line
    → graphs_of_lines graph_of (line ∷ more) ≡ graph_of line ∷ graphs_of_lines graph_of more
unfolding graphs_of_lines
graphs_of_lines-more graph_of [] more some = absurd (omega arith)
graphs_of_lines-more graph_of (byte ∷ line) more some = refl

pub graphs-cut_skip : {G : Type 0} (graph_of : List ℕ → G) (text line rest : List ℕ) → lines text ≡ line ∷ lines rest → length (without_return line) ≡ 0
    → graphs_of_lines graph_of (stripped_lines text) ≡ graphs_of_lines graph_of (stripped_lines rest)
graphs-cut_skip graph_of text line rest cut none =
    rw (stripped_lines-cut text line rest cut) (graphs_of_lines-skip graph_of _ _ none)

graphs-cut_more : {G : Type 0} (graph_of : List ℕ → G) (text line rest : List ℕ) → lines text ≡ line ∷ lines rest → 0 < length (without_return line)
    → graphs_of_lines graph_of (stripped_lines text)
    ≡ graph_of (without_return line) ∷ graphs_of_lines graph_of (stripped_lines rest)
graphs-cut_more graph_of text line rest cut some =
    rw (stripped_lines-cut text line rest cut) (graphs_of_lines-more graph_of _ _ some)

-- What a scan has found out where `number` lines are read, `count` of them graphs, and `rest` is left of `size` bytes
-- which have the lines `all`.
pub record IsRead {G : Type 0} (of_line : List ℕ → Option G6Kind) (graph_of : List ℕ → G) (all : List (List ℕ)) (size : ℕ) (rest : List ℕ) (number count : ℕ) : Type 0 where
  pub faults : fault_behind of_line number (stripped_lines rest) ≡ fault_behind of_line 0 all
  pub graphs : count + length (graphs_of_lines graph_of (stripped_lines rest)) ≡ length (graphs_of_lines graph_of all)
  pub few : count ≤ number
  pub read : number + length rest ≤ size

-- the number that a test is turned into
pub bool_byte-if : (b : Bool) → bool_byte b ≡ (if b then 1 else 0)
bool_byte-if true = refl
bool_byte-if false = refl

-- one line's graphs are counted
IsRead-graphs : {G : Type 0} {of_line : List ℕ → Option G6Kind} {graph_of : List ℕ → G} {all : List (List ℕ)} {size : ℕ} (rest line more : List ℕ) (number count one : ℕ)
    → IsRead of_line graph_of all size rest number count → lines rest ≡ line ∷ lines more
    → one ≡ (if not (length (without_return line) == 0) then 1 else 0)
    → count + one + length (graphs_of_lines graph_of (stripped_lines more)) ≡ length (graphs_of_lines graph_of all)
IsRead-graphs {graph_of = graph_of} rest line more number count one before cut counts =
    elim (eqb_tells (length (without_return line)) 0) [
      | inl (test, none) ↦
          let same : length (graphs_of_lines graph_of (stripped_lines rest)) ≡ length (graphs_of_lines graph_of (stripped_lines more)) =
          ap length (graphs-cut_skip graph_of rest line more cut none) in
          let zero_more : one ≡ 0 = counts ∙ rw test refl in
          omega (arith, before.graphs)
      | inr (test, some) ↦
          let same : length (graphs_of_lines graph_of (stripped_lines rest))
          ≡ length (graph_of (without_return line) ∷ graphs_of_lines graph_of (stripped_lines more)) =
          ap length (graphs-cut_more graph_of rest line more cut (omega arith)) in
          let one_more : one ≡ 1 = counts ∙ rw test refl in
          omega (arith, before.graphs)
    ]

-- a line without fault is read
pub IsRead-more : {G : Type 0} {of_line : List ℕ → Option G6Kind} {graph_of : List ℕ → G} {all : List (List ℕ)} {size : ℕ} (rest line more : List ℕ) (number count one : ℕ) (empty : Bool)
    → IsRead of_line graph_of all size rest number count → lines rest ≡ line ∷ lines more → length more < length rest
    → of_line (without_return line) ≡ None → empty ≡ (length (without_return line) == 0)
    → one ≡ (if not empty then 1 else 0) → IsRead of_line graph_of all size more (number + 1) (count + one)
IsRead-more {of_line = of_line} rest line more number count one empty before cut shorter sound is_empty counts = record {
  faults = sym (fault_behind-cut of_line number rest line more cut ∙ rw sound refl) ∙ before.faults;
  graphs = IsRead-graphs rest line more number count one before cut (counts ∙ rw is_empty refl);
  few = elim empty as (λ b. one ≡ (if not b then 1 else 0) → count + one ≤ number + 1) [
    | true ↦ λ e. omega (arith, before.few)
    | false ↦ λ e. omega (arith, before.few)
  ] counts;
  read = omega (arith, before.read);
}

-- a fault of the next line is the first
pub IsRead-fault : {G : Type 0} {of_line : List ℕ → Option G6Kind} {graph_of : List ℕ → G} {all : List (List ℕ)} {size : ℕ} (rest line more : List ℕ) (number count : ℕ) (kind : G6Kind)
    → IsRead of_line graph_of all size rest number count → lines rest ≡ line ∷ lines more
    → of_line (without_return line) ≡ Some kind → fault_behind of_line 0 all ≡ Some (record { kind = kind; line = number + 1 })
IsRead-fault {of_line = of_line} rest line more number count kind before cut faulty =
    sym before.faults ∙ fault_behind-cut of_line number rest line more cut ∙ rw faulty refl

-- nothing is left
pub IsRead-sound : {G : Type 0} {of_line : List ℕ → Option G6Kind} {graph_of : List ℕ → G} {all : List (List ℕ)} {size : ℕ} (rest : List ℕ) (number count : ℕ)
    → IsRead of_line graph_of all size rest number count → length rest ≡ 0 → fault_behind of_line 0 all ≡ None
IsRead-sound {of_line = of_line} rest number count before end = sym before.faults ∙ fault_behind-end of_line number rest end

pub IsRead-count : {G : Type 0} {of_line : List ℕ → Option G6Kind} {graph_of : List ℕ → G} {all : List (List ℕ)} {size : ℕ} (rest : List ℕ) (number count : ℕ)
    → IsRead of_line graph_of all size rest number count → length rest ≡ 0 → count ≡ length (graphs_of_lines graph_of all)
IsRead-count {graph_of = graph_of} {all = all} rest number count before end =
    let none : length (graphs_of_lines graph_of (stripped_lines rest)) ≡ 0 = ap length (graphs_of_lines-end graph_of rest end) in
    let sum : count + length (graphs_of_lines graph_of (stripped_lines rest)) ≡ length (graphs_of_lines graph_of all) = before.graphs in
    omega arith

-- no fault is found where the line has none and none comes later
pub fault_or-none : (kind : Option G6Kind) (number : ℕ) (later : Option G6Fault) → fault_or fault_at kind number later ≡ None
    → (kind ≡ None) × (later ≡ None)
fault_or-none None number later e = (refl, e)
fault_or-none (Some kind) number later e = cc

-- whether there is a fault doesn't depend on the numbers of the lines
fault_behind-renumbered : (of_line : List ℕ → Option G6Kind) (all : List (List ℕ)) (before other : ℕ) → fault_behind of_line before all ≡ None
    → fault_behind of_line other all ≡ None
unfolding first_fault_behind
fault_behind-renumbered of_line [] before other sound = refl
fault_behind-renumbered of_line (line ∷ more) before other sound =
    let parts = fault_or-none (of_line line) (before + 1) (fault_behind of_line (before + 1) more) sound in
    rw (parts.0) (fault_behind-renumbered of_line more (before + 1) (other + 1) parts.1)

-- lines without fault have a first line without fault, and others
sound-first : (of_line : List ℕ → Option G6Kind) (line : List ℕ) (more : List (List ℕ)) → fault_behind of_line 0 (line ∷ more) ≡ None
    → (of_line line ≡ None) × (fault_behind of_line 0 more ≡ None)
unfolding first_fault_behind
sound-first of_line line more sound =
    let parts = fault_or-none (of_line line) (0 + 1) (fault_behind of_line (0 + 1) more) sound in
    (parts.0, fault_behind-renumbered of_line more (0 + 1) 0 parts.1)

-- a text without fault has a first line without fault, and others
pub HasNoFault-cut : (text line rest : List ℕ) → lines text ≡ line ∷ lines rest → HasNoFault (stripped_lines text)
    → (line_fault NAMES (without_return line) ≡ None) × HasNoFault (stripped_lines rest)
HasNoFault-cut text line rest cut sound =
    sound-first (line_fault NAMES) (without_return line) (stripped_lines rest) (rw (stripped_lines-cut text line rest cut) at sound)

-- ---- the first line that isn't empty

-- it stays the first behind an empty line
from_first-skip : (line : List ℕ) (more : List (List ℕ)) → length line ≡ 0 → from_first (line ∷ more) ≡ from_first more
unfolding from_first
from_first-skip [] more none = refl
from_first-skip (byte ∷ line) more none = absurd (omega arith)

-- a line with bytes is the first
from_first-more : (line : List ℕ) (others : List (List ℕ)) → 0 < length line → from_first (line ∷ others) ≡ line ∷ others
unfolding from_first
from_first-more [] others some = absurd (omega arith)
from_first-more (byte ∷ line) others some = refl

pub from_first-cut_skip : (text line rest : List ℕ) → lines text ≡ line ∷ lines rest → length (without_return line) ≡ 0
    → from_first (stripped_lines text) ≡ from_first (stripped_lines rest)
from_first-cut_skip text line rest cut none = rw (stripped_lines-cut text line rest cut) (from_first-skip _ _ none)

pub from_first-cut_more : (text line rest : List ℕ) → lines text ≡ line ∷ lines rest → 0 < length (without_return line)
    → from_first (stripped_lines text) ≡ without_return line ∷ stripped_lines rest
from_first-cut_more text line rest cut some = rw (stripped_lines-cut text line rest cut) (from_first-more _ _ some)

-- a text without bytes has none
pub from_first-end : (text : List ℕ) → length text ≡ 0 → from_first (stripped_lines text) ≡ []
unfolding from_first
from_first-end text none = rw (stripped_lines-empty text none) refl

-- the lines before it give no graphs
graphs-from_first : {G : Type 0} (graph_of : List ℕ → G) (all : List (List ℕ)) → graphs_of_lines graph_of (from_first all) ≡ graphs_of_lines graph_of all
unfolding graphs_of_lines from_first
graphs-from_first graph_of [] = refl
graphs-from_first graph_of ([] ∷ more) = graphs-from_first graph_of more
graphs-from_first graph_of ((byte ∷ line) ∷ more) = refl

-- and have no fault
sound-from_first : (of_line : List ℕ → Option G6Kind) (all : List (List ℕ)) → fault_behind of_line 0 all ≡ None → fault_behind of_line 0 (from_first all) ≡ None
unfolding from_first
sound-from_first of_line [] sound = sound
sound-from_first of_line ([] ∷ more) sound = sound-from_first of_line more (sound-first of_line [] more sound).1
sound-from_first of_line ((byte ∷ line) ∷ more) sound = sound

-- of lines without fault a line is the first that isn't empty, and `more` stand behind it
pub record IsFirstLine {G : Type 0} (of_line : List ℕ → Option G6Kind) (graph_of : List ℕ → G) (all : List (List ℕ)) (line : List ℕ) (more : List (List ℕ)) : Type 0 where
  pub graphs : graphs_of_lines graph_of all ≡ graph_of line ∷ graphs_of_lines graph_of more
  pub sound : of_line line ≡ None
  pub more_sound : fault_behind of_line 0 more ≡ None

pub first_line : {G : Type 0} (of_line : List ℕ → Option G6Kind) (graph_of : List ℕ → G) (all : List (List ℕ)) (line : List ℕ) (more : List (List ℕ))
    → fault_behind of_line 0 all ≡ None → from_first all ≡ line ∷ more → 0 < length line → IsFirstLine of_line graph_of all line more
first_line of_line graph_of all line more sound first some =
    let parts = sound-first of_line line more (rw first at (sound-from_first of_line all sound)) in
    record {
      graphs = sym (graphs-from_first graph_of all) ∙ ap (graphs_of_lines graph_of) first ∙ graphs_of_lines-more graph_of line more some;
      sound = parts.0;
      more_sound = parts.1;
    }

-- without such a line there is no graph
pub no_first_line : {G : Type 0} (graph_of : List ℕ → G) (all : List (List ℕ)) → from_first all ≡ [] → graphs_of_lines graph_of all ≡ []
unfolding graphs_of_lines
no_first_line graph_of all none = sym (graphs-from_first graph_of all) ∙ ap (graphs_of_lines graph_of) none
