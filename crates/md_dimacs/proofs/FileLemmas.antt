-- The first fault of a file, and the graph that it spells.
use Rattle.std.specs.Prelude.{◌≡◌, ℕ, ◌+◌, ◌<◌, ◌≤◌, ◌≢◌, ◌⊎◌, Bool, true, false, cond, not, ◌&&◌, ◌||◌, ◌==◌, nat_lt, nat_le, List, [], ◌∷◌, ◌++◌, length, Option, Some, None, MatchOption, refl}
use Rattle.std.specs.List.{All, list_any}
use Rattle.std.proofs.Common.{subst, ap, sym, ◌∙◌, arith, inl, inr}
use Rattle.std.proofs.lemmas.Bool.{and_parts, cases_lt, eqb-false, ne_eqb, leb-true, leb-false, lt-leb, le-leb}
use Rattle.std.proofs.lemmas.Bool.Decides.{nat_tests}
use Rattle.std.proofs.lemmas.List.Elements.{All-nil, All-cons, All-head, All-tail}
use Rattle.std.specs.FinSet as set
use Rattle.md_graph.specs.declared.TheConstants.{NAMES}
use Rattle.md_graph.specs.Sets.{Has}
use Rattle.md_graph.specs.PlainGraph.{PlainGraph, IsGraph, adjacent, with_edge}
use Rattle.md_graph.proofs.SetLaws.{same_set}
use Rattle.md_graph.proofs.PairLaws.{pairs-empty}
use Rattle.md_graph.proofs.GraphLemmas.{same_graph, IsGraph-with_edge, IsGraph-without_edges, adjacent-with_edge}
use Rattle.md_text.specs.Lines.{lines}
use Rattle.md_text.specs.Numbers.{number_of}
use Rattle.md_text.specs.Spelling.{SpellsOnly, SpellsOne, SpellsNone, fault_or, words, first_fault_behind}
use Rattle.md_dimacs.specs.declared.fault.DimacsFault.{DimacsFault}
use Rattle.md_dimacs.specs.declared.fault.DimacsKind.{DimacsKind}
use Rattle.md_dimacs.specs.declared.fault.DimacsKind.TheVariants.{VertexOutOfRange, Loop, UnknownLine, TooManyVertices}
use Rattle.md_dimacs.specs.declared.line.LineClass.{LineClass}
use Rattle.md_dimacs.specs.declared.line.LineClass.TheVariants.{Passed, Problem, Edge, Unknown}
use Rattle.md_dimacs.specs.Line.{class_of_field, class_of, is_form, both, sizes_in, ends_in, sizes_by, ends_by, sizes_of, ends_of, sizes_fault, problem_fault, is_vertex, ends_fault, edge_fault, fault_by, fault_of_words, fault_of_line}
use Rattle.md_dimacs.specs.File.{IsPassed, AreSizes, AreEdgeEnds, IsProblemLine, IsPassedOrEdge, are_ends, is_edge_line, Spells, seen_after, first_number, fault_behind, first_fault, fault_at}
use Rattle.md_dimacs.specs.Laws.{FilesAreSpelledOrFaulty, SpelledAreFaultless, LimitsAgree, SpelledUnderGreater}
use Rattle.md_graph.specs.NameSet.{range}
use Rattle.md_graph.proofs.Ranges.{contains-range}
use Rattle.md_dimacs.specs.Read.{IsBeforeProblem, IsBehindProblem, HasVertices, edgeless, with_ends, with_line, with_lines}

-- ---- one line behind the problem line

ends_by_tests : (n u v : ℕ) (inside same : Bool) → (is_vertex n u && is_vertex n v) ≡ inside → (u == v) ≡ same
    → cond (not inside) (Some VertexOutOfRange) (cond same (Some Loop) None) ≡ None → AreEdgeEnds n (Some (u, v))
ends_by_tests n u v false same i s h = absurd (cc)
ends_by_tests n u v true true i s h = absurd (cc)
ends_by_tests n u v true false i s h =
    let parts = and_parts _ _ i in
    record {
      first = u;
      second = v;
      numbers = refl;
      first_vertex = parts.0;
      second_vertex = parts.1;
      differ = eqb-false u v s;
    }

ends_without_fault : (n : ℕ) (first second : Option ℕ) → ends_fault n first second ≡ None → AreEdgeEnds n (both first second)
ends_without_fault n None second h = absurd (cc)
ends_without_fault n (Some u) None h = absurd (cc)
ends_without_fault n (Some u) (Some v) h = ends_by_tests n u v _ _ refl refl h

edge_without_fault : (n : ℕ) (rest : List (List ℕ)) → edge_fault (Some n) rest ≡ None → AreEdgeEnds n (ends_in rest)
unfolding edge_fault ends_in
edge_without_fault n [] h = absurd (cc)
edge_without_fault n (a ∷ []) h = absurd (cc)
edge_without_fault n (a ∷ b ∷ []) h = ends_without_fault n (number_of a) (number_of b) h
edge_without_fault n (a ∷ b ∷ c ∷ more) h = absurd (cc)

behind_by_class : (k : LineClass) (n : ℕ) (rest : List (List ℕ)) → fault_by NAMES k (Some n) rest ≡ None → (k ≡ Passed) ⊎ AreEdgeEnds n (ends_by k rest)
unfolding problem_fault
behind_by_class Passed n rest h = inl refl
behind_by_class Problem n rest h = absurd (cc)
behind_by_class Edge n rest h = inr (edge_without_fault n rest h)
behind_by_class Unknown n rest h = absurd (cc)

words_behind : (n : ℕ) (ws : List (List ℕ)) → fault_of_words NAMES (Some n) ws ≡ None → (class_of ws ≡ Passed) ⊎ AreEdgeEnds n (ends_of ws)
words_behind n [] h = inl refl
words_behind n (first ∷ rest) h = behind_by_class (class_of_field first) n rest h

-- a line without fault behind the problem line
line_behind : (n : ℕ) (line : List ℕ) → fault_of_line NAMES (Some n) line ≡ None → IsPassedOrEdge n line
line_behind n line h = words_behind n (words line) h

ends_have_no_fault : (n : ℕ) (first second : Option ℕ) → AreEdgeEnds n (both first second) → ends_fault n first second ≡ None
ends_have_no_fault n None second e = let h = e.numbers in absurd (cc)
ends_have_no_fault n (Some u) None e = let h = e.numbers in absurd (cc)
ends_have_no_fault n (Some u) (Some v) e = ends_pass n u v e.first e.second e.numbers e.first_vertex e.second_vertex e.differ where
  ends_pass : (n u v a b : ℕ) → ◌≡◌ {A = Option (ℕ × ℕ)} (Some (u, v)) (Some (a, b)) → is_vertex n a ≡ true → is_vertex n b ≡ true → a ≢ b → ends_fault n (Some u) (Some v) ≡ None
  ends_pass n u v a b same va vb differ =
      let pairs : ◌≡◌ {A = ℕ × ℕ} (u, v) (a, b) = cc in
      let first = ap (λ (p : ℕ × ℕ). p.0) pairs in
      let second = ap (λ (p : ℕ × ℕ). p.1) pairs in
      let other : (u == v) ≡ false = ne_eqb u v (λ e. differ (sym first ∙ e ∙ second)) in
      let inside_u : is_vertex n u ≡ true = rw first va in
      let inside_v : is_vertex n v ≡ true = rw second vb in
      rw (inside_u, inside_v, other) refl

edge_has_no_fault : (n : ℕ) (rest : List (List ℕ)) → AreEdgeEnds n (ends_in rest) → edge_fault (Some n) rest ≡ None
unfolding edge_fault ends_in
edge_has_no_fault n [] e = let h = e.numbers in absurd (cc)
edge_has_no_fault n (a ∷ []) e = let h = e.numbers in absurd (cc)
edge_has_no_fault n (a ∷ b ∷ []) e = ends_have_no_fault n (number_of a) (number_of b) e
edge_has_no_fault n (a ∷ b ∷ c ∷ more) e = let h = e.numbers in absurd (cc)

passed_has_no_fault : (limit : ℕ) (seen : Option ℕ) (ws : List (List ℕ)) → class_of ws ≡ Passed → fault_of_words limit seen ws ≡ None
passed_has_no_fault limit seen [] h = refl
passed_has_no_fault limit seen (first ∷ rest) h = ap (λ k. fault_by limit k seen rest) h

ends_by_class : (n : ℕ) (k : LineClass) (rest : List (List ℕ)) → AreEdgeEnds n (ends_by k rest) → fault_by NAMES k (Some n) rest ≡ None
ends_by_class n Passed rest e = let h = e.numbers in absurd (cc)
ends_by_class n Problem rest e = let h = e.numbers in absurd (cc)
ends_by_class n Edge rest e = edge_has_no_fault n rest e
ends_by_class n Unknown rest e = let h = e.numbers in absurd (cc)

edge_words : (n : ℕ) (ws : List (List ℕ)) → AreEdgeEnds n (ends_of ws) → fault_of_words NAMES (Some n) ws ≡ None
edge_words n [] e = let h = e.numbers in absurd (cc)
edge_words n (first ∷ rest) e = ends_by_class n (class_of_field first) rest e

line_has_no_fault : (n : ℕ) (line : List ℕ) → IsPassedOrEdge n line → fault_of_line NAMES (Some n) line ≡ None
line_has_no_fault n line (inl passed) = passed_has_no_fault NAMES (Some n) (words line) passed
line_has_no_fault n line (inr edge) = edge_words n (words line) edge

-- ---- the lines behind the problem line

pub no_fault : (kind : Option DimacsKind) (number : ℕ) (later : Option DimacsFault) → fault_or fault_at kind number later ≡ None → (kind ≡ None) × (later ≡ None)
no_fault None number later h = (refl, h)
no_fault (Some kind) number later h = absurd (cc)

pub lines_behind : (n count : ℕ) (more : List (List ℕ)) → fault_behind NAMES (Some n) count more ≡ None → All (IsPassedOrEdge n) more
unfolding first_fault_behind
lines_behind n count [] h = All-nil _
lines_behind n count (line ∷ more) h =
    let parts = no_fault _ _ _ h in
    All-cons (IsPassedOrEdge n) line more (line_behind n line parts.0) (lines_behind n (count + 1) more parts.1)

pub behind_has_no_fault : (n count : ℕ) (more : List (List ℕ)) → All (IsPassedOrEdge n) more → fault_behind NAMES (Some n) count more ≡ None
unfolding first_fault_behind
behind_has_no_fault n count [] all = refl
behind_has_no_fault n count (line ∷ more) all =
    ap (λ kind. fault_or fault_at kind (count + 1) (fault_behind NAMES (Some n) (count + 1) more)) (line_has_no_fault n line (All-head (IsPassedOrEdge n) line more all))
    ∙ behind_has_no_fault n (count + 1) more (All-tail (IsPassedOrEdge n) line more all)

-- ---- one line before the problem line

-- what a faultless line there is
data First (limit : ℕ) (sizes : Option (ℕ × ℕ)) (class : LineClass) : Type 0 where
  read_past : class ≡ Passed → sizes ≡ None → First limit sizes class
  names_size : (n : ℕ) → AreSizes limit n sizes → First limit sizes class

sizes_without_fault : (limit : ℕ) (k : LineClass) (vertices edges : Option ℕ) → sizes_fault limit vertices edges ≡ None → First limit (both vertices edges) k
sizes_without_fault limit k None edges h = absurd (cc)
sizes_without_fault limit k (Some n) None h = absurd (cc)
sizes_without_fault limit k (Some n) (Some m) h = by_test (nat_le limit n) refl h where
  by_test : (large : Bool) → nat_le limit n ≡ large → cond large (Some TooManyVertices) None ≡ None → First limit (Some (n, m)) k
  by_test true e h = absurd (cc)
  by_test false e h = names_size n (record { edge_count = m; numbers = refl; named = leb-false limit n e })

form_without_fault : (limit : ℕ) (k : LineClass) (right : Bool) (vertices edges : Option ℕ) → cond right (sizes_fault limit vertices edges) (Some UnknownLine) ≡ None
    → First limit (cond right (both vertices edges) None) k
form_without_fault limit k true vertices edges h = sizes_without_fault limit k vertices edges h
form_without_fault limit k false vertices edges h = absurd (cc)

problem_without_fault : (limit : ℕ) (k : LineClass) (rest : List (List ℕ)) → problem_fault limit None rest ≡ None → First limit (sizes_in rest) k
unfolding problem_fault sizes_in
problem_without_fault limit k [] h = absurd (cc)
problem_without_fault limit k (a ∷ []) h = absurd (cc)
problem_without_fault limit k (a ∷ b ∷ []) h = absurd (cc)
problem_without_fault limit k (a ∷ b ∷ c ∷ []) h = form_without_fault limit k (is_form a) (number_of b) (number_of c) h
problem_without_fault limit k (a ∷ b ∷ c ∷ d ∷ more) h = absurd (cc)

first_by_class : (limit : ℕ) (k : LineClass) (rest : List (List ℕ)) → fault_by limit k None rest ≡ None → First limit (sizes_by k rest) k
unfolding edge_fault
first_by_class limit Passed rest h = read_past refl refl
first_by_class limit Problem rest h = problem_without_fault limit Problem rest h
first_by_class limit Edge rest h = absurd (cc)
first_by_class limit Unknown rest h = absurd (cc)

first_words : (limit : ℕ) (ws : List (List ℕ)) → fault_of_words limit None ws ≡ None → First limit (sizes_of ws) (class_of ws)
first_words limit [] h = read_past refl refl
first_words limit (first ∷ rest) h = first_by_class limit (class_of_field first) rest h

-- a line that is read past names no numbers
passed_by_class : (k : LineClass) (rest : List (List ℕ)) → k ≡ Passed → (sizes_by k rest ≡ None) × (ends_by k rest ≡ None)
passed_by_class Passed rest h = (refl, refl)
passed_by_class Problem rest h = absurd (cc)
passed_by_class Edge rest h = absurd (cc)
passed_by_class Unknown rest h = absurd (cc)

passed_names_none : (ws : List (List ℕ)) → class_of ws ≡ Passed → (sizes_of ws ≡ None) × (ends_of ws ≡ None)
passed_names_none [] h = (refl, refl)
passed_names_none (first ∷ rest) h = passed_by_class (class_of_field first) rest h

sizes_have_no_fault : (limit : ℕ) (n : ℕ) (vertices edges : Option ℕ) → AreSizes limit n (both vertices edges) → sizes_fault limit vertices edges ≡ None
sizes_have_no_fault limit n None edges a = let h = a.numbers in absurd (cc)
sizes_have_no_fault limit n (Some k) None a = let h = a.numbers in absurd (cc)
sizes_have_no_fault limit n (Some k) (Some m) a = by_number a.edge_count a.numbers where
  by_number : (count : ℕ) → ◌≡◌ {A = Option (ℕ × ℕ)} (Some (k, m)) (Some (n, count)) → sizes_fault limit (Some k) (Some m) ≡ None
  by_number count same =
      let pairs : ◌≡◌ {A = ℕ × ℕ} (k, m) (n, count) = cc in
      let first = ap (λ (p : ℕ × ℕ). p.0) pairs in
      let small : nat_le limit k ≡ false = lt-leb limit k (omega (arith, first, a.named)) in
      rw small refl

form_has_no_fault : (limit : ℕ) (n : ℕ) (right : Bool) (vertices edges : Option ℕ) → AreSizes limit n (cond right (both vertices edges) None)
    → cond right (sizes_fault limit vertices edges) (Some UnknownLine) ≡ None
form_has_no_fault limit n true vertices edges a = sizes_have_no_fault limit n vertices edges a
form_has_no_fault limit n false vertices edges a = let h = a.numbers in absurd (cc)

problem_has_no_fault : (limit : ℕ) (n : ℕ) (rest : List (List ℕ)) → AreSizes limit n (sizes_in rest) → problem_fault limit None rest ≡ None
unfolding problem_fault sizes_in
problem_has_no_fault limit n [] a = let h = a.numbers in absurd (cc)
problem_has_no_fault limit n (x ∷ []) a = let h = a.numbers in absurd (cc)
problem_has_no_fault limit n (x ∷ y ∷ []) a = let h = a.numbers in absurd (cc)
problem_has_no_fault limit n (x ∷ y ∷ z ∷ []) a = form_has_no_fault limit n (is_form x) (number_of y) (number_of z) a
problem_has_no_fault limit n (x ∷ y ∷ z ∷ w ∷ more) a = let h = a.numbers in absurd (cc)

sizes_by_class : (limit : ℕ) (n : ℕ) (k : LineClass) (rest : List (List ℕ)) → AreSizes limit n (sizes_by k rest) → (fault_by limit k None rest ≡ None) × (k ≡ Problem)
sizes_by_class limit n Passed rest a = let h = a.numbers in absurd (cc)
sizes_by_class limit n Problem rest a = (problem_has_no_fault limit n rest a, refl)
sizes_by_class limit n Edge rest a = let h = a.numbers in absurd (cc)
sizes_by_class limit n Unknown rest a = let h = a.numbers in absurd (cc)

problem_words : (limit : ℕ) (n : ℕ) (ws : List (List ℕ)) → AreSizes limit n (sizes_of ws) → (fault_of_words limit None ws ≡ None) × (class_of ws ≡ Problem)
problem_words limit n [] a = let h = a.numbers in absurd (cc)
problem_words limit n (first ∷ rest) a = sizes_by_class limit n (class_of_field first) rest a

-- ---- the lines up to the problem line

passed_first : (limit : ℕ) (count : ℕ) (line : List ℕ) (more : List (List ℕ)) → IsPassed line
    → fault_behind limit None count (line ∷ more) ≡ fault_behind limit None (count + 1) more
unfolding first_fault_behind
passed_first limit count line more h =
    let fault = passed_has_no_fault limit None (words line) h in
    let sizes = (passed_names_none (words line) h).0 in
    rw (fault, sizes) refl

-- behind the problem line no limit matters
words_limit : (limit n : ℕ) (ws : List (List ℕ)) → fault_of_words limit (Some n) ws ≡ fault_of_words NAMES (Some n) ws
unfolding problem_fault
words_limit limit n [] = refl
words_limit limit n (first ∷ rest) = by_class (class_of_field first) where
  by_class : (k : LineClass) → fault_by limit k (Some n) rest ≡ fault_by NAMES k (Some n) rest
  by_class Passed = refl
  by_class Problem = refl
  by_class Edge = refl
  by_class Unknown = refl

lines_limit : (limit n count : ℕ) (more : List (List ℕ)) → fault_behind limit (Some n) count more ≡ fault_behind NAMES (Some n) count more
unfolding first_fault_behind
lines_limit limit n count [] = refl
lines_limit limit n count (line ∷ more) = λ i. fault_or fault_at (words_limit limit n (words line) i) (count + 1) (lines_limit limit n (count + 1) more i)

problem_first : (limit : ℕ) (n count : ℕ) (line : List ℕ) (more : List (List ℕ)) → IsProblemLine limit n line
    → fault_behind limit None count (line ∷ more) ≡ fault_behind NAMES (Some n) (count + 1) more
unfolding first_fault_behind
problem_first limit n count line more p =
    let fault = (problem_words limit n (words line) p).0 in
    let sizes = p.numbers in
    rw (fault, sizes) (lines_limit limit n (count + 1) more)

fault-passed : (limit : ℕ) (count : ℕ) (before rest : List (List ℕ)) → All IsPassed before
    → fault_behind limit None count (before ++ rest) ≡ fault_behind limit None (count + length before) rest
fault-passed limit count [] rest all = ap (λ k. fault_behind limit None k rest) (omega arith)
fault-passed limit count (line ∷ before) rest all =
    passed_first limit count line (before ++ rest) (All-head IsPassed line before all)
    ∙ fault-passed limit (count + 1) before rest (All-tail IsPassed line before all)
    ∙ ap (λ k. fault_behind limit None k rest) (omega arith)

pub fault_before : (limit : ℕ) (all : List (List ℕ)) (count : ℕ) (rest : List (List ℕ)) → IsBeforeProblem all count rest
    → fault_behind limit None 0 all ≡ fault_behind limit None count rest
fault_before limit all count rest b =
    ap (fault_behind limit None 0) b.cut ∙ fault-passed limit 0 b.before rest b.passed
    ∙ let same = b.counted in ap (λ k. fault_behind limit None k rest) (omega arith)

pub fault-behind_problem : (limit : ℕ) (all : List (List ℕ)) (n count : ℕ) (rest : List (List ℕ)) → IsBehindProblem limit all n count rest
    → fault_behind limit None 0 all ≡ fault_behind NAMES (Some n) count rest
fault-behind_problem limit all n count rest b =
    ap (fault_behind limit None 0) b.cut ∙ fault-passed limit 0 b.before (b.problem ∷ rest) b.passed
    ∙ problem_first limit n (0 + length b.before) b.problem rest b.problem_line
    ∙ let same = b.counted in ap (λ k. fault_behind NAMES (Some n) k rest) (omega arith)

pub spelled_has_no_fault : SpelledAreFaultless
spelled_has_no_fault = λ limit bytes g s.
    ap (fault_behind limit None 0) s.whole ∙ fault-passed limit 0 s.before (s.problem ∷ s.behind) s.passed
    ∙ problem_first limit s.n (0 + length s.before) s.problem s.behind s.problem_line
    ∙ behind_has_no_fault s.n _ s.behind s.edge_lines

-- ---- the graph that lines name

adjacent-with_ends : (g : PlainGraph) (ends : Option (ℕ × ℕ)) (u v : ℕ) → adjacent (with_ends g ends) u v ≡ (are_ends u v ends || adjacent g u v)
adjacent-with_ends g None u v = refl
adjacent-with_ends g (Some p) u v = adjacent-with_edge g p.0 p.1 u v

or_turned : (a b c : Bool) → (b || (a || c)) ≡ ((a || b) || c)
or_turned a b c = grind arith

adjacent-with_lines : (g : PlainGraph) (more : List (List ℕ)) (u v : ℕ) → adjacent (with_lines g more) u v ≡ (list_any (is_edge_line u v) more || adjacent g u v)
unfolding with_lines
adjacent-with_lines g [] u v = refl
adjacent-with_lines g (line ∷ more) u v =
    adjacent-with_lines (with_line g line) more u v
    ∙ ap (λ b. list_any (is_edge_line u v) more || b) (adjacent-with_ends g (ends_of (words line)) u v)
    ∙ or_turned (is_edge_line u v line) (list_any (is_edge_line u v) more) (adjacent g u v)

pub vertices-with_ends : (g : PlainGraph) (ends : Option (ℕ × ℕ)) → (with_ends g ends).vertices ≡ g.vertices
vertices-with_ends g None = refl
vertices-with_ends g (Some p) = refl

vertices-with_lines : (g : PlainGraph) (more : List (List ℕ)) → (with_lines g more).vertices ≡ g.vertices
unfolding with_lines
vertices-with_lines g [] = refl
vertices-with_lines g (line ∷ more) = vertices-with_lines (with_line g line) more ∙ vertices-with_ends g (ends_of (words line))

IsGraph-with_ends : {g : PlainGraph} (n : ℕ) (ends : Option (ℕ × ℕ)) → IsGraph g → HasVertices n g → AreEdgeEnds n ends → IsGraph (with_ends g ends)
IsGraph-with_ends n None is has e = is
IsGraph-with_ends {g} n (Some p) is has e = by_ends e.first e.second e.numbers (has e.first ∙ e.first_vertex) (has e.second ∙ e.second_vertex) e.differ where
  by_ends : (u v : ℕ) → ◌≡◌ {A = Option (ℕ × ℕ)} (Some p) (Some (u, v)) → Has g.vertices u → Has g.vertices v → u ≢ v → IsGraph (with_ends g (Some p))
  by_ends u v same mu mv differ =
      let pairs : ◌≡◌ {A = ℕ × ℕ} p (u, v) = cc in
      subst (λ (q : ℕ × ℕ). IsGraph (with_edge g q.0 q.1)) (sym pairs) (IsGraph-with_edge is u v mu mv differ)

IsGraph-with_line : {g : PlainGraph} (n : ℕ) (line : List ℕ) → IsGraph g → HasVertices n g → IsPassedOrEdge n line → IsGraph (with_line g line)
IsGraph-with_line {g} n line is has (inl passed) = subst (λ ends. IsGraph (with_ends g ends)) (sym (passed_names_none (words line) passed).1) is
IsGraph-with_line {g} n line is has (inr edge) = IsGraph-with_ends n (ends_of (words line)) is has edge

IsGraph-with_lines : {g : PlainGraph} (n : ℕ) (more : List (List ℕ)) → IsGraph g → HasVertices n g → All (IsPassedOrEdge n) more → IsGraph (with_lines g more)
unfolding with_lines
IsGraph-with_lines n [] is has all = is
IsGraph-with_lines {g} n (line ∷ more) is has all =
    IsGraph-with_lines {g = with_line g line} n more (IsGraph-with_line n line is has (All-head (IsPassedOrEdge n) line more all))
    (λ v. ap (λ s. set.contains s v) (vertices-with_ends g (ends_of (words line))) ∙ has v)
    (All-tail (IsPassedOrEdge n) line more all)

pub contains-vertices : (n v : ℕ) → set.contains (range 1 n) v ≡ is_vertex n v
contains-vertices n v = contains-range 1 n v ∙ grind (arith, nat_tests)

-- the graph without edges is one
IsGraph-edgeless : (n : ℕ) → n < NAMES → IsGraph (edgeless n)
IsGraph-edgeless n named = IsGraph-without_edges (range 1 n) (λ v member.
    let inside = and_parts (nat_lt 0 v) (nat_le v n) (sym (contains-vertices n v) ∙ member) in
    let below : v ≤ n = leb-true v n inside.1 in
    omega arith)

or_nothing : (a b c : Bool) → c ≡ false → a ≡ (b || c) → a ≡ b
or_nothing a b c h e = grind arith

adjacent-edgeless : (n u v : ℕ) → adjacent (edgeless n) u v ≡ false
unfolding adjacent
adjacent-edgeless n u v = pairs-empty _ _

-- the graph that the lines behind the problem line name
pub vertices_read : (n : ℕ) (behind : List (List ℕ)) (v : ℕ) → set.contains (with_lines (edgeless n) behind).vertices v ≡ is_vertex n v
vertices_read n behind v = ap (λ s. set.contains s v) (vertices-with_lines (edgeless n) behind) ∙ contains-vertices n v

pub edges_read : (n : ℕ) (behind : List (List ℕ)) (u v : ℕ) → adjacent (with_lines (edgeless n) behind) u v ≡ list_any (is_edge_line u v) behind
edges_read n behind u v = or_nothing _ _ _ (adjacent-edgeless n u v) (adjacent-with_lines (edgeless n) behind u v)

-- ---- a file without fault

-- what a file without fault is made of
record Parts (limit : ℕ) (all : List (List ℕ)) : Type 0 where
  n : ℕ
  before : List (List ℕ)
  problem_of : List ℕ
  behind : List (List ℕ)
  whole : all ≡ before ++ problem_of ∷ behind
  are_passed : All IsPassed before
  is_problem : IsProblemLine limit n problem_of
  are_edges : All (IsPassedOrEdge n) behind

parts_by_first : (limit count : ℕ) (line : List ℕ) (more : List (List ℕ)) → First limit (sizes_of (words line)) (class_of (words line))
    → fault_behind limit (seen_after None line) (count + 1) more ≡ None → (fault_behind limit None (count + 1) more ≡ None → Parts limit more)
    → Parts limit (line ∷ more)
parts_by_first limit count line more (read_past class sizes) h later =
    let rest = later (ap (λ s. fault_behind limit (first_number s) (count + 1) more) (sym sizes) ∙ h) in
    record {
      n = rest.n;
      before = line ∷ rest.before;
      problem_of = rest.problem_of;
      behind = rest.behind;
      whole = ap (λ (ls : List (List ℕ)). line ∷ ls) rest.whole;
      are_passed = All-cons IsPassed line rest.before class rest.are_passed;
      is_problem = rest.is_problem;
      are_edges = rest.are_edges;
    }
parts_by_first limit count line more (names_size n sizes) h later =
    record {
      n = n;
      before = [];
      problem_of = line;
      behind = more;
      whole = refl;
      are_passed = All-nil IsPassed;
      is_problem = sizes;
      are_edges = lines_behind n (count + 1) more (sym (lines_limit limit n (count + 1) more) ∙ (ap (λ s. fault_behind limit (first_number s) (count + 1) more) (sym sizes.numbers) ∙ h));
    }

parts_without_fault : (limit count : ℕ) (all : List (List ℕ)) → fault_behind limit None count all ≡ None → Parts limit all
unfolding first_fault_behind
parts_without_fault limit count [] h = absurd (cc)
parts_without_fault limit count (line ∷ more) h =
    let parts = no_fault _ _ _ h in
    parts_by_first limit count line more (first_words limit (words line) parts.0) parts.1 (parts_without_fault limit (count + 1) more)

pub spelled_by_parts : (limit : ℕ) (bytes : List ℕ) (n : ℕ) (before : List (List ℕ)) (problem_of : List ℕ) (behind : List (List ℕ))
    → limit ≤ NAMES → lines bytes ≡ before ++ problem_of ∷ behind → All IsPassed before → IsProblemLine limit n problem_of → All (IsPassedOrEdge n) behind
    → Spells limit bytes (with_lines (edgeless n) behind)
spelled_by_parts limit bytes n before problem_of behind most whole are_passed is_problem are_edges = record {
  n = n;
  before = before;
  problem = problem_of;
  behind = behind;
  whole = whole;
  passed = are_passed;
  problem_line = is_problem;
  edge_lines = are_edges;
  vertices = vertices_read n behind;
  edges = edges_read n behind;
  graph = IsGraph-with_lines n behind (IsGraph-edgeless n (omega (arith, most, is_problem.named))) (contains-vertices n) are_edges;
}

-- ---- no other graph

head_of : (x y : List ℕ) (xs ys : List (List ℕ)) → (x ∷ xs) ≡ (y ∷ ys) → (x ≡ y) × (xs ≡ ys)
head_of x y xs ys h = (cc, cc)

problem_not_passed : (x y : List ℕ) → x ≡ y → class_of (words x) ≡ Problem → IsPassed y → ⊥
problem_not_passed x y same p q = let e = ap (λ line. class_of (words line)) same in cc

one_split : (before other : List (List ℕ)) (p q : List ℕ) (behind rest : List (List ℕ)) → (before ++ p ∷ behind) ≡ (other ++ q ∷ rest)
    → All IsPassed before → All IsPassed other → class_of (words p) ≡ Problem → class_of (words q) ≡ Problem → (p ≡ q) × (behind ≡ rest)
one_split [] [] p q behind rest same a b cp cq = head_of p q behind rest same
one_split [] (y ∷ other) p q behind rest same a b cp cq =
    absurd (problem_not_passed p y (head_of p y behind (other ++ q ∷ rest) same).0 cp (All-head IsPassed y other b))
one_split (x ∷ before) [] p q behind rest same a b cp cq =
    absurd (problem_not_passed q x (sym (head_of x q (before ++ p ∷ behind) rest same).0) cq (All-head IsPassed x before a))
one_split (x ∷ before) (y ∷ other) p q behind rest same a b cp cq =
    one_split before other p q behind rest (head_of x y (before ++ p ∷ behind) (other ++ q ∷ rest) same).1
    (All-tail IsPassed x before a) (All-tail IsPassed y other b) cp cq

one_size : (n m c d : ℕ) (o : Option (ℕ × ℕ)) → o ≡ Some (n, c) → o ≡ Some (m, d) → n ≡ m
one_size n m c d o a b =
    let pairs : ◌≡◌ {A = ℕ × ℕ} (n, c) (m, d) = cc in
    ap (λ (p : ℕ × ℕ). p.0) pairs

pub one_graph : (limit : ℕ) (bytes : List ℕ) (g h : PlainGraph) → Spells limit bytes g → Spells limit bytes h → g ≡ h
one_graph limit bytes g h s t =
    let split = one_split s.before t.before s.problem t.problem s.behind t.behind (sym s.whole ∙ t.whole) s.passed t.passed
    (problem_words limit s.n (words s.problem) s.problem_line).1 (problem_words limit t.n (words t.problem) t.problem_line).1 in
    let same_n : s.n ≡ t.n = one_size s.n t.n s.problem_line.edge_count t.problem_line.edge_count (sizes_of (words s.problem)) s.problem_line.numbers
    (ap (λ line. sizes_of (words line)) split.0 ∙ t.problem_line.numbers) in
    same_graph s.graph t.graph
    (same_set g.vertices h.vertices (λ v. s.vertices v ∙ ap (λ n. is_vertex n v) same_n ∙ sym (t.vertices v)))
    (λ u v. s.edges u v ∙ ap (list_any (is_edge_line u v)) split.1 ∙ sym (t.edges u v))

pub spelled_only : (limit : ℕ) (bytes : List ℕ) (g : PlainGraph) → Spells limit bytes g → SpellsOnly (Spells limit) bytes g
spelled_only limit bytes g s = record { spells = s; only = λ other t. one_graph limit bytes other g t s }

by_fault : (limit : ℕ) (bytes : List ℕ) (fault : Option DimacsFault) → limit ≤ NAMES → first_fault limit bytes ≡ fault
    → MatchOption fault (SpellsOne (Spells limit) bytes) (λ _. SpellsNone (Spells limit) bytes)
by_fault limit bytes None most h =
    let parts = parts_without_fault limit 0 (lines bytes) h in
    let g = with_lines (edgeless parts.n) parts.behind in
    (g, spelled_only limit bytes g (spelled_by_parts limit bytes parts.n parts.before parts.problem_of parts.behind most parts.whole parts.are_passed parts.is_problem parts.are_edges))
by_fault limit bytes (Some fault) most h = λ g s. let none = spelled_has_no_fault limit bytes g s in cc

pub spelled_or_faulty : FilesAreSpelledOrFaulty
spelled_or_faulty = λ limit most bytes. by_fault limit bytes (first_fault limit bytes) most refl

-- ---- another limit

-- where the limit isn't at fault, a greater one changes nothing
abbrev Agree : {F : Type 0} → (ℕ → Option F) → Option F → ℕ → ℕ → Type 0
Agree fault many low high = (fault low ≡ many) ⊎ (fault high ≡ fault low)

sizes_agree : (low high : ℕ) → low ≤ high → (vertices edges : Option ℕ) → Agree (λ limit. sizes_fault limit vertices edges) (Some TooManyVertices) low high
sizes_agree low high more None edges = inr refl
sizes_agree low high more (Some n) None = inr refl
sizes_agree low high more (Some n) (Some m) =
    elim (cases_lt n low) [
      | inl below ↦ inr (rw (lt-leb low n below, lt-leb high n (omega (arith, below, more))) refl)
      | inr above ↦ inl (rw (le-leb low n above) refl)
    ]

form_agree : (low high : ℕ) → low ≤ high → (right : Bool) (vertices edges : Option ℕ)
    → Agree (λ limit. cond right (sizes_fault limit vertices edges) (Some UnknownLine)) (Some TooManyVertices) low high
form_agree low high more true vertices edges = sizes_agree low high more vertices edges
form_agree low high more false vertices edges = inr refl

problem_agree : (low high : ℕ) → low ≤ high → (seen : Option ℕ) (rest : List (List ℕ)) → Agree (λ limit. problem_fault limit seen rest) (Some TooManyVertices) low high
unfolding problem_fault
problem_agree low high more (Some n) rest = inr refl
problem_agree low high more None [] = inr refl
problem_agree low high more None (a ∷ []) = inr refl
problem_agree low high more None (a ∷ b ∷ []) = inr refl
problem_agree low high more None (a ∷ b ∷ c ∷ []) = form_agree low high more (is_form a) (number_of b) (number_of c)
problem_agree low high more None (a ∷ b ∷ c ∷ d ∷ rest) = inr refl

class_agree : (low high : ℕ) → low ≤ high → (k : LineClass) (seen : Option ℕ) (rest : List (List ℕ)) → Agree (λ limit. fault_by limit k seen rest) (Some TooManyVertices) low high
class_agree low high more Passed seen rest = inr refl
class_agree low high more Problem seen rest = problem_agree low high more seen rest
class_agree low high more Edge seen rest = inr refl
class_agree low high more Unknown seen rest = inr refl

words_agree : (low high : ℕ) → low ≤ high → (seen : Option ℕ) (ws : List (List ℕ)) → Agree (λ limit. fault_of_words limit seen ws) (Some TooManyVertices) low high
words_agree low high more seen [] = inr refl
words_agree low high more seen (first ∷ rest) = class_agree low high more (class_of_field first) seen rest

-- some line has too many vertices, or the first fault stays
abbrev FaultsAgree : Option DimacsFault → Option DimacsFault → Type 0
FaultsAgree low high = ((number : ℕ) × (low ≡ Some (fault_at TooManyVertices number))) ⊎ (high ≡ low)

fault_or_agree : (low high : Option DimacsKind) (number : ℕ) (later_low later_high : Option DimacsFault)
    → (low ≡ Some TooManyVertices) ⊎ (high ≡ low) → FaultsAgree later_low later_high
    → FaultsAgree (fault_or fault_at low number later_low) (fault_or fault_at high number later_high)
fault_or_agree low high number later_low later_high (inl many) later = inl (number, rw many refl)
fault_or_agree None high number later_low later_high (inr same) later = rw same later
fault_or_agree (Some kind) high number later_low later_high (inr same) later = inr (rw same refl)

lines_agree : (low high : ℕ) → low ≤ high → (seen : Option ℕ) (count : ℕ) (all : List (List ℕ)) → FaultsAgree (fault_behind low seen count all) (fault_behind high seen count all)
unfolding first_fault_behind
lines_agree low high more seen count [] = inr refl
lines_agree low high more seen count (line ∷ all) =
    fault_or_agree _ _ (count + 1) _ _ (words_agree low high more seen (words line)) (lines_agree low high more (seen_after seen line) (count + 1) all)

limits_by_file : (low high : Option DimacsFault) → FaultsAgree low high
    → (low ≡ None → high ≡ None) × ((fault : DimacsFault) → low ≡ Some fault → fault.kind ≢ TooManyVertices → high ≡ Some fault)
limits_by_file low high (inl many) = (λ none. cc (many.1), λ fault is other. absurd (other (kind_of (sym is ∙ many.1))))
  where
    kind_of : {fault : DimacsFault} {number : ℕ} → ◌≡◌ {A = Option DimacsFault} (Some fault) (Some (fault_at TooManyVertices number)) → fault.kind ≡ TooManyVertices
    kind_of e = cc
limits_by_file low high (inr same) = (λ none. same ∙ none, λ fault is other. same ∙ is)

pub limits_agree : LimitsAgree
limits_agree bytes low high more = limits_by_file _ _ (lines_agree low high more None 0 (lines bytes))

pub spelled_under_greater : SpelledUnderGreater
spelled_under_greater = λ bytes g low high more s. record {
  n = s.n;
  before = s.before;
  problem = s.problem;
  behind = s.behind;
  whole = s.whole;
  passed = s.passed;
  problem_line = record {
    edge_count = s.problem_line.edge_count;
    numbers = s.problem_line.numbers;
    named = omega (arith, more, s.problem_line.named);
  };
  edge_lines = s.edge_lines;
  vertices = s.vertices;
  edges = s.edges;
  graph = s.graph;
}
