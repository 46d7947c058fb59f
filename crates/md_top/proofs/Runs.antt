-- Runs of sessions on cographs, one behind the other.
use Rattle.std.proofs.Common.{◌≡◌, ◌≢◌, ◌<◌, ◌≤◌, ◌&&◌, ℕ, suc, true, false, nat_le, nat_lt, if◌then◌else◌, ◌+◌, ◌-◌, ◌%◌, Bool, not, length, List, [], ◌∷◌, ◌++◌, map, Option, Some, None, refl, sym, ◌∙◌, ap, subst, inl, inr, arith, length-append}
use Rattle.std.proofs.lemmas.List.{map-append}
use Rattle.std.proofs.lemmas.List.Elements.{filter-append, All-weaker}
use Rattle.std.proofs.lemmas.Bool.{and_parts, ltb-true, le-leb, ne_eqb}
use Rattle.std.proofs.lemmas.Bool.Decides.{nat_tests}
use Rattle.std.specs.List.{All, filter}
use Rattle.std.specs.FinSet.{empty, insert}
use Rattle.md_graph.specs.PlainGraph.{PlainGraph, empty_graph}
use Rattle.md_graph.specs.declared.TheConstants.{NAMES}
use Rattle.md_graph.specs.NameSet.{AllBelow, ascending, ascending_between, range}
use Rattle.md_graph.specs.Sets.{NameSet, Has}
use Rattle.md_graph.proofs.MemberLists.{ascending_limit}
use Rattle.md_graph.proofs.NameLemmas.{IsItem, ascending_items}
use Rattle.md_graph.proofs.Ranges.{contains-range}
use Rattle.md_graph.proofs.SetLemmas.{clash, empty_lacks}
use Rattle.md_modules.specs.declared.induced_paths.P4.{P4}
use Rattle.md_script.specs.declared.edit.Edit.{Edit}
use Rattle.md_script.specs.declared.edit.Edit.TheVariants.{DelEdge, DelVertex}
use Rattle.md_script.specs.declared.edit.EditReason.{EditReason}
use Rattle.md_script.specs.declared.item.Item.{Item}
use Rattle.md_script.specs.declared.item.Item.TheVariants.{One}
use Rattle.md_script.specs.Edit.{reason_of}
use Rattle.md_report.specs.Lines.{PlainLine, applied_quiet, refused, refused_p4}
use Rattle.md_report.specs.declared.line.SessionMode.TheVariants.{Quiet}
use Rattle.md_report.specs.Sessions.{State, state_behind, last_state, is_applied}
use Rattle.md_report.specs.Cographs.{IsP4Of, IsQuietLineBy}
use Rattle.md_report.specs.ItemLines.{Run}
use Rattle.md_session.specs.declared.cograph.Answer as answers
use Rattle.md_session.specs.declared.cograph.Answer.TheVariants.{Applied, Refused, RefusedP4}
use Rattle.md_session.specs.Answers.{IsOpened, IsAnswered, IsAnsweredBy}
use Rattle.md_session.specs.declared.cograph.OpenedOf as opened
use Rattle.md_session.specs.declared.cograph.OpenedOf.TheVariants.{NotCograph}
use Rattle.md_top.specs.Big.{edits_below, is_odd, neighbours_before, cuts_at, deletions_at, Runs, RunsTo}

-- no edit
pub runs_none : (g : PlainGraph) → RunsTo g [] 0 0 g
runs_none g earlier = (earlier, record { lines = []; run = refl; done_is = refl; undone_is = refl; last = refl })

-- the line of an answer in mode quiet
abbrev line_of_answer : answers.Answer → PlainLine
line_of_answer Applied = applied_quiet
line_of_answer (Refused reason) = refused reason
line_of_answer (RefusedP4 p) = refused_p4 p

-- the state behind an answer to an edit, and its line
record IsLed (g h : PlainGraph) (earlier : List PlainGraph) (r : Option EditReason) (edit : Edit) (line : PlainLine) : Type 0 where
  told : IsQuietLineBy r g edit line
  later : List PlainGraph
  leads : ◌≡◌ {A = State} (record { graph = h; earlier = later }) (state_behind (record { graph = g; earlier = earlier }) (One edit) line)

answered_line : (r : Option EditReason) (g h : PlainGraph) (earlier : List PlainGraph) (edit : Edit) (answer : answers.Answer) → IsAnsweredBy r g edit answer h → IsLed g h earlier r edit (line_of_answer answer)
answered_line (Some reason) g h earlier edit answer a =
    subst (λ (x : answers.Answer). IsLed g h earlier (Some reason) edit (line_of_answer x)) (sym a.0)
    (record { told = refl; later = earlier; leads = ap (λ (x : PlainGraph). record { graph = x; earlier = earlier }) a.1 })
answered_line None g h earlier edit answer (inl a) =
    subst (λ (x : answers.Answer). IsLed g h earlier None edit (line_of_answer x)) (sym a.2)
    (record { told = inl (a.0, a.1, refl); later = earlier; leads = ap (λ (x : PlainGraph). record { graph = x; earlier = earlier }) a.3 })
answered_line None g h earlier edit answer (inr a) =
    subst (λ (x : answers.Answer). IsLed g h earlier None edit (line_of_answer x)) (sym a.1)
    (record { told = inr (a.0, refl); later = g ∷ earlier; leads = ap (λ (x : PlainGraph). record { graph = x; earlier = g ∷ earlier }) a.2 })

-- how many edits an answer says to be applied: one, or none
abbrev pub done_by : answers.Answer → ℕ
done_by Applied = 1
done_by (Refused reason) = 0
done_by (RefusedP4 p) = 0

-- one edit
runs_one : (g h : PlainGraph) (edit : Edit) (answer : answers.Answer) → IsAnswered g edit answer h → RunsTo g (edit ∷ []) (done_by answer) (1 - done_by answer) h
runs_one g h edit answer a earlier = by_answer answer (answered_line (reason_of g edit) g h earlier edit answer a) where
  by_answer : (answer : answers.Answer) → IsLed g h earlier (reason_of g edit) edit (line_of_answer answer) →
      (later : List PlainGraph) × Runs (record { graph = g; earlier = earlier }) (edit ∷ []) (done_by answer) (1 - done_by answer) (record { graph = h; earlier = later })
  by_answer Applied b = (b.later, record { lines = applied_quiet ∷ []; run = (b.told, refl); done_is = refl; undone_is = refl; last = b.leads })
  by_answer (Refused reason) b = (b.later, record { lines = refused reason ∷ []; run = (b.told, refl); done_is = refl; undone_is = refl; last = b.leads })
  by_answer (RefusedP4 p) b = (b.later, record { lines = refused_p4 p ∷ []; run = (b.told, refl); done_is = refl; undone_is = refl; last = b.leads })

-- the same by what the answer is
pub runs_named : (g h : PlainGraph) (edit : Edit) (answer named : answers.Answer) → answer ≡ named → IsAnswered g edit answer h → RunsTo g (edit ∷ []) (done_by named) (1 - done_by named) h
runs_named g h edit answer named is a = runs_one g h edit named (subst (λ (x : answers.Answer). IsAnswered g edit x h) is a)

run_append : (s : State) (xs ys : List Item) (ls ms : List PlainLine) → Run Quiet s xs ls → Run Quiet (last_state s xs ls) ys ms → Run Quiet s (xs ++ ys) (ls ++ ms)
run_append s [] ys [] ms a b = b
run_append s [] ys (l ∷ ls) ms a b = absurd (cc)
run_append s (x ∷ xs) ys [] ms a b = absurd a
run_append s (x ∷ xs) ys (l ∷ ls) ms a b = (a.0, run_append (state_behind s x l) xs ys ls ms a.1 b)

last_append : (s : State) (xs ys : List Item) (ls ms : List PlainLine) → Run Quiet s xs ls → last_state s (xs ++ ys) (ls ++ ms) ≡ last_state (last_state s xs ls) ys ms
last_append s [] ys [] ms a = refl
last_append s [] ys (l ∷ ls) ms a = absurd (cc)
last_append s (x ∷ xs) ys [] ms a = absurd a
last_append s (x ∷ xs) ys (l ∷ ls) ms a = last_append (state_behind s x l) xs ys ls ms a.1

count_append : (p : PlainLine → Bool) (ls ms : List PlainLine) → length (filter p (ls ++ ms)) ≡ length (filter p ls) + length (filter p ms)
count_append p ls ms = ap length (filter-append p ls ms) ∙ length-append (filter p ls) (filter p ms)

-- a run behind a run
runs_behind : (s t u : State) (xs ys : List Edit) (a b c d : ℕ) → Runs s xs a b t → Runs t ys c d u → Runs s (xs ++ ys) (a + c) (b + d) u
runs_behind s t u xs ys a b c d r q =
    let items : map One (xs ++ ys) ≡ map One xs ++ map One ys = map-append One xs ys in
    let behind : Run Quiet (last_state s (map One xs) r.lines) (map One ys) q.lines = subst (λ (x : State). Run Quiet x (map One ys) q.lines) r.last q.run in
    record {
      lines = r.lines ++ q.lines;
      run = subst (λ (l : List Item). Run Quiet s l (r.lines ++ q.lines)) (sym items) (run_append s (map One xs) (map One ys) r.lines q.lines r.run behind);
      done_is = let one = r.done_is in let two = q.done_is in let sum = count_append is_applied r.lines q.lines in omega arith;
      undone_is =
          let one = r.undone_is in let two = q.undone_is in let sum = count_append (λ line. not (is_applied line)) r.lines q.lines in omega arith;
      last =
          q.last ∙ ap (λ (x : State). last_state x (map One ys) q.lines) r.last ∙ sym (last_append s (map One xs) (map One ys) r.lines q.lines r.run)
          ∙ ap (λ (l : List Item). last_state s l (r.lines ++ q.lines)) (sym items);
    }

runs_append : (g h k : PlainGraph) (xs ys : List Edit) (a b c d : ℕ) → RunsTo g xs a b h → RunsTo h ys c d k → RunsTo g (xs ++ ys) (a + c) (b + d) k
runs_append g h k xs ys a b c d r q earlier =
    let first = r earlier in
    let second = q first.0 in
    (second.0, runs_behind (record { graph = g; earlier = earlier }) (record { graph = h; earlier = first.0 }) (record { graph = k; earlier = second.0 }) xs ys a b c d first.1 second.1)

-- the edits at one name more
pub runs_next : (edits_at : ℕ → List Edit) (v : ℕ) (g h k : PlainGraph) (a b c d : ℕ) → RunsTo g (edits_below edits_at v) a b h → RunsTo h (edits_at v) c d k → RunsTo g (edits_below edits_at (v + 1)) (a + c) (b + d) k
runs_next edits_at v g h k a b c d r s =
    let same : suc v ≡ v + 1 = omega arith in
    subst (λ (n : ℕ). RunsTo g (edits_below edits_at n) (a + c) (b + d) k) same
    (runs_append g h k (edits_below edits_at v) (edits_at v) a b c d r s)

-- the graph without vertices has no induced P4
pub no_p4 : {w : ℕ} (g : PlainGraph) (o : opened.OpenedOf w) (p : P4) → o ≡ NotCograph p → g ≡ empty_graph → IsOpened g o → ⊥
no_p4 g o p is none told =
    let path : IsP4Of g p = subst (IsOpened g) is told in
    clash (subst (λ (x : PlainGraph). Has x.vertices p.a) none path.inside.0) (empty_lacks p.a)

-- the names before an odd name are its neighbours
pub odd_before : (v : ℕ) (s : NameSet) → v % 2 ≡ 1 → s ≡ range 0 v → s ≡ neighbours_before v
odd_before v s odd is =
    let one : neighbours_before v ≡ range 0 v = rw odd refl in
    is ∙ sym one

-- no name stands before the first one
pub none_before : (s : NameSet) → s ≡ empty → s ≡ range 0 0
unfolding range
none_before s none = none

-- with a name itself the names before it are those before the next one
pub one_more_before : (v : ℕ) (s : NameSet) → s ≡ range 0 v → insert s v ≡ range 0 (v + 1)
unfolding range
one_more_before v s is =
    let next : v + 1 ≡ suc v = omega arith in
    let here : v ≡ 0 + v = omega arith in
    ap (λ (x : NameSet). insert x v) is ∙ ap (insert (range 0 v)) here ∙ ap (range 0) (sym next)

-- an even name is left out
pub even_left_out : (v : ℕ) (g h : PlainGraph) (a b : ℕ) → v % 2 ≡ 0 → RunsTo g (DelVertex v ∷ []) a b h → RunsTo g (deletions_at v) a b h
even_left_out v g h a b even runs = rw even runs

-- an odd name is not left out
pub odd_kept : (v : ℕ) (g : PlainGraph) → v % 2 ≢ 0 → RunsTo g (deletions_at v) 0 0 g
odd_kept v g odd = rw (ne_eqb (v % 2) 0 odd) (runs_none g)

-- the edge between 1 and an odd name, from 3 on, is one to leave out
pub odd_cut : (v : ℕ) → 3 ≤ v → v % 2 ≡ 1 → cuts_at v ≡ DelEdge 1 v ∷ []
odd_cut v large odd = rw (le-leb 3 v large, odd) refl

-- no other edge is
not_cut : (v : ℕ) (g : PlainGraph) (b : Bool) → b ≡ false → RunsTo g (if b then DelEdge 1 v ∷ [] else []) 0 0 g
not_cut v g true is = absurd (clash refl is)
not_cut v g false is = runs_none g

pub low_kept : (v : ℕ) (g : PlainGraph) → v < 3 → RunsTo g (cuts_at v) 0 0 g
low_kept v g low = not_cut v g (nat_le 3 v && is_odd v) (let less : nat_le 3 v ≡ false = grind (arith, nat_tests) in rw less refl)

pub even_kept : (v : ℕ) (g : PlainGraph) → v % 2 ≢ 1 → RunsTo g (cuts_at v) 0 0 g
even_kept v g even = not_cut v g (nat_le 3 v && is_odd v) (rw (ne_eqb (v % 2) 1 even) (by_test (nat_le 3 v))) where
  by_test : (b : Bool) → (b && false) ≡ false
  by_test true = refl
  by_test false = refl

-- the neighbours of a new name come before it
before_below : (v w : ℕ) → Has (neighbours_before v) w → w < v
before_below v w = by_odd (is_odd v) where
  by_odd : (b : Bool) → Has (if b then range 0 v else empty) w → w < v
  by_odd true new = let less = ltb-true w (0 + v) (and_parts (nat_le 0 w) (nat_lt w (0 + v)) (sym (contains-range 0 v w) ∙ new)).1 in omega arith
  by_odd false none = clash none (empty_lacks w)

pub all_before : (v limit : ℕ) (s : NameSet) (names : List ℕ) → v < limit → limit ≤ NAMES → s ≡ neighbours_before v → names ≡ ascending s → All (λ w. w < limit) names
all_before v limit s names below most is same =
    let within : AllBelow s limit = λ w has. (let less = before_below v w (subst (λ (x : NameSet). Has x w) is has) in omega arith) in
    subst (All (λ w. w < limit)) (ascending_limit s 0 limit within most ∙ sym same)
    (All-weaker (IsItem s 0 limit) (λ w. w < limit) (λ w item. item.below) (ascending_between s 0 limit) (ascending_items s 0 limit))
