-- The steps of the reader.
use Rattle.std.specs.Prelude.{◌≡◌, ℕ, ◌+◌, ◌≤◌, true, false, ◌==◌, List, [], ◌∷◌, ◌++◌, length, Some, None, Result, Ok, Err, OnOk, OnErr, IfErr, refl}
use Rattle.std.specs.Result.{is_err}
use Rattle.std.proofs.Common.{subst, ap, sym, ◌∙◌, append_assoc, length-append}
use Rattle.std.proofs.lemmas.List.Elements.{All-push}
use Rattle.std.specs.FinSet as set
use Rattle.md_graph.specs.declared.TheConstants.{NAMES}
use Rattle.md_graph.specs.PlainGraph.{PlainGraph, empty_graph}
use Rattle.md_text.specs.Lines.{lines, without_return}
use Rattle.md_text.specs.Fields.{fields}
use Rattle.md_text.proofs.LineLemmas.{no_lines}
use Rattle.md_text.specs.Spelling.{words, first_fault_behind}
use Rattle.md_dimacs.specs.declared.fault.DimacsFault.{DimacsFault}
use Rattle.md_dimacs.specs.declared.fault.DimacsKind.{DimacsKind}
use Rattle.md_dimacs.specs.declared.fault.DimacsKind.TheVariants.{NoProblemLine}
use Rattle.md_dimacs.specs.declared.line.LineClass.TheVariants.{Passed}
use Rattle.md_dimacs.specs.Line.{class_of, ends_of, fault_of_words}
use Rattle.md_graph.specs.PlainGraph.{with_range}
use Rattle.md_graph.proofs.Ranges.{range_alone}
use Rattle.md_dimacs.specs.File.{IsPassed, Spells, first_fault, fault_behind}
use Rattle.md_dimacs.specs.Read.{IsBeforeProblem, IsBehindProblem, HasVertices, edgeless, with_ends, with_line, with_lines}
use Rattle.md_dimacs.proofs.FileLemmas.{fault_before, fault-behind_problem, contains-vertices, vertices-with_ends, lines_behind, spelled_by_parts}

-- ---- vertices and edges

-- what the vertices of the problem line make of the graph without vertices
pub edgeless_by_range : {g h : PlainGraph} (n : ℕ) → g ≡ empty_graph → h ≡ with_range g 1 n → h ≡ edgeless n
edgeless_by_range n none is = range_alone 1 n none is

-- ---- the lines before the problem line

pub one_passed : (all : List (List ℕ)) (count : ℕ) (rest : List (List ℕ)) (line stripped : List ℕ) (more : List (List ℕ)) → IsBeforeProblem all count rest
    → rest ≡ line ∷ more → stripped ≡ without_return line → class_of (fields stripped) ≡ Passed → IsBeforeProblem all (count + 1) more
one_passed all count rest line stripped more b cut e class = record {
  before = b.before ++ line ∷ [];
  cut = b.cut ∙ ap (λ ls. b.before ++ ls) cut ∙ sym (append_assoc b.before (line ∷ []) more);
  counted = length-append b.before (line ∷ []) ∙ ap (λ k. k + 1) b.counted;
  passed = All-push IsPassed b.before line b.passed (ap (λ s. class_of (fields s)) (sym e) ∙ class);
}

pub refused_before : (limit : ℕ) (all : List (List ℕ)) (count : ℕ) (rest : List (List ℕ)) (line stripped : List ℕ) (more : List (List ℕ)) (kind : DimacsKind) → IsBeforeProblem all count rest
    → rest ≡ line ∷ more → stripped ≡ without_return line → fault_of_words limit None (fields stripped) ≡ Some kind
    → fault_behind limit None 0 all ≡ Some (record { kind = kind; line = count + 1 })
unfolding first_fault_behind
refused_before limit all count rest line stripped more kind b cut e fault =
    let here : fault_of_words limit None (words line) ≡ Some kind = ap (λ s. fault_of_words limit None (fields s)) (sym e) ∙ fault in
    fault_before limit all count rest b ∙ ap (fault_behind limit None count) cut ∙ rw here refl

pub no_problem : (limit : ℕ) (all : List (List ℕ)) (count : ℕ) (rest : List ℕ) (number : ℕ) → IsBeforeProblem all count (lines rest) → (length rest == 0) ≡ true
    → number ≡ count + 1 → fault_behind limit None 0 all ≡ Some (record { kind = NoProblemLine; line = number })
unfolding first_fault_behind
no_problem limit all count rest number b empty e =
    fault_before limit all count (lines rest) b ∙ ap (fault_behind limit None count) (no_lines rest empty)
    ∙ ap (λ k. Some (record { kind = NoProblemLine; line = k })) (sym e)

-- ---- the lines behind it

pub refused_behind : (n start count : ℕ) (all rest : List (List ℕ)) (line stripped : List ℕ) (more : List (List ℕ)) (kind : DimacsKind)
    → fault_behind NAMES (Some n) start all ≡ fault_behind NAMES (Some n) count rest → rest ≡ line ∷ more → stripped ≡ without_return line
    → fault_of_words NAMES (Some n) (fields stripped) ≡ Some kind → fault_behind NAMES (Some n) start all ≡ Some (record { kind = kind; line = count + 1 })
unfolding first_fault_behind
refused_behind n start count all rest line stripped more kind same cut e fault =
    let here : fault_of_words NAMES (Some n) (words line) ≡ Some kind = ap (λ s. fault_of_words NAMES (Some n) (fields s)) (sym e) ∙ fault in
    same ∙ ap (fault_behind NAMES (Some n) count) cut ∙ rw here refl

pub vertices_kept : (n : ℕ) (g h : PlainGraph) (stripped : List ℕ) → HasVertices n g → h ≡ with_ends g (ends_of (fields stripped)) → HasVertices n h
vertices_kept n g h stripped has e v = ap (λ (k : PlainGraph). set.contains k.vertices v) e ∙ ap (λ s. set.contains s v) (vertices-with_ends g (ends_of (fields stripped))) ∙ has v

pub one_added : (g h start : PlainGraph) (all rest : List (List ℕ)) (line stripped : List ℕ) (more : List (List ℕ))
    → with_lines start all ≡ with_lines g rest → rest ≡ line ∷ more → stripped ≡ without_return line
    → h ≡ with_ends g (ends_of (fields stripped)) → with_lines start all ≡ with_lines h more
unfolding with_lines
one_added g h start all rest line stripped more same cut e added =
    let here : with_line g line ≡ h = ap (λ s. with_ends g (ends_of (fields s))) (sym e) ∙ sym added in
    same ∙ ap (with_lines g) cut ∙ ap (λ k. with_lines k more) here

pub one_faultless : (n start count : ℕ) (all rest : List (List ℕ)) (line stripped : List ℕ) (more : List (List ℕ))
    → fault_behind NAMES (Some n) start all ≡ fault_behind NAMES (Some n) count rest → rest ≡ line ∷ more → stripped ≡ without_return line
    → fault_of_words NAMES (Some n) (fields stripped) ≡ None → fault_behind NAMES (Some n) start all ≡ fault_behind NAMES (Some n) (count + 1) more
unfolding first_fault_behind
one_faultless n start count all rest line stripped more same cut e fault =
    let here : fault_of_words NAMES (Some n) (words line) ≡ None = ap (λ s. fault_of_words NAMES (Some n) (fields s)) (sym e) ∙ fault in
    same ∙ ap (fault_behind NAMES (Some n) count) cut ∙ rw here refl

pub all_added : (g start : PlainGraph) (all : List (List ℕ)) (rest : List ℕ) → with_lines start all ≡ with_lines g (lines rest) → (length rest == 0) ≡ true → g ≡ with_lines start all
unfolding with_lines
all_added g start all rest same empty = sym (same ∙ ap (with_lines g) (no_lines rest empty))

pub all_faultless : (n start count : ℕ) (all : List (List ℕ)) (rest : List ℕ) → fault_behind NAMES (Some n) start all ≡ fault_behind NAMES (Some n) count (lines rest)
    → (length rest == 0) ≡ true → fault_behind NAMES (Some n) start all ≡ None
unfolding first_fault_behind
all_faultless n start count all rest same empty = same ∙ ap (fault_behind NAMES (Some n) count) (no_lines rest empty)

-- ---- the whole file

pub fault_of_rest : (limit : ℕ) (bytes : List ℕ) (n count : ℕ) (rest : List (List ℕ)) → IsBehindProblem limit (lines bytes) n count rest → first_fault limit bytes ≡ fault_behind NAMES (Some n) count rest
fault_of_rest limit bytes n count rest b = fault-behind_problem limit (lines bytes) n count rest b

pub file_spells : (limit : ℕ) (bytes : List ℕ) (n count : ℕ) (rest : List (List ℕ)) (g : PlainGraph) → limit ≤ NAMES → IsBehindProblem limit (lines bytes) n count rest
    → fault_behind NAMES (Some n) count rest ≡ None → g ≡ with_lines (edgeless n) rest → Spells limit bytes g
file_spells limit bytes n count rest g most b fault e =
    let edges = lines_behind n count rest fault in
    let spelled = spelled_by_parts limit bytes n b.before b.problem rest most b.cut b.passed b.problem_line edges in
    subst (Spells limit bytes) (sym e) spelled

-- ---- the outcome of the lines behind the problem line, in what it says of the file

pub outcome_spells : {T : Type 0} (limit : ℕ) (r : Result T DimacsFault) (bytes : List ℕ) (n count : ℕ) (rest : List (List ℕ)) (start g : PlainGraph) → limit ≤ NAMES → IsBehindProblem limit (lines bytes) n count rest
    → start ≡ edgeless n → OnOk r (fault_behind NAMES (Some n) count rest ≡ None) → OnOk r (g ≡ with_lines start rest) → OnOk r (Spells limit bytes g)
outcome_spells limit (Ok x) bytes n count rest start g most b empty fault added = file_spells limit bytes n count rest g most b fault (added ∙ ap (λ h. with_lines h rest) empty)
outcome_spells limit (Err e) bytes n count rest start g most b empty fault added = tt

pub outcome_faultless : {T : Type 0} (limit : ℕ) (r : Result T DimacsFault) (bytes : List ℕ) (n count : ℕ) (rest : List (List ℕ)) → IsBehindProblem limit (lines bytes) n count rest
    → OnOk r (fault_behind NAMES (Some n) count rest ≡ None) → OnOk r (first_fault limit bytes ≡ None)
outcome_faultless limit (Ok x) bytes n count rest b fault = fault_of_rest limit bytes n count rest b ∙ fault
outcome_faultless limit (Err e) bytes n count rest b fault = tt

pub outcome_fault : {T : Type 0} (limit : ℕ) (r : Result T DimacsFault) (bytes : List ℕ) (n count : ℕ) (rest : List (List ℕ)) → IsBehindProblem limit (lines bytes) n count rest
    → IfErr r (λ f. fault_behind NAMES (Some n) count rest ≡ Some f) → IfErr r (λ f. first_fault limit bytes ≡ Some f)
outcome_fault limit (Ok x) bytes n count rest b fault = tt
outcome_fault limit (Err e) bytes n count rest b fault = fault_of_rest limit bytes n count rest b ∙ fault

pub nothing_on_ok : {T : Type 0} (r : Result T DimacsFault) (P : Type 0) → is_err r ≡ true → OnOk r P
nothing_on_ok (Ok x) P h = absurd (cc)
nothing_on_ok (Err e) P h = tt

pub nothing_on_err : {T : Type 0} (r : Result T DimacsFault) (P : Type 0) → is_err r ≡ false → OnErr r P
nothing_on_err (Ok x) P h = tt
nothing_on_err (Err e) P h = absurd (cc)

pub always_on_err : {T : Type 0} (r : Result T DimacsFault) (P : Type 0) → P → OnErr r P
always_on_err (Ok x) P h = tt
always_on_err (Err e) P h = h

pub vertices-edgeless : (g : PlainGraph) (n : ℕ) → g ≡ edgeless n → HasVertices n g
vertices-edgeless g n e v = ap (λ (h : PlainGraph). set.contains h.vertices v) e ∙ contains-vertices n v
