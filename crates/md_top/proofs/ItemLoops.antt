-- A session's loop over the items of a script: what it puts, and what its history keeps for the undos that are left.
use Rattle.std.proofs.Common.{◌≡◌, ◌≤◌, ◌<◌, ℕ, ◌+◌, ◌-◌, Bool, true, false, cond, List, [], ◌∷◌, drop, length, Option, Result, Err, IsErrAnd, Some, refl, sym, ◌∙◌, ap, subst, if◌then◌else◌, arith}
use Rattle.std.specs.Prelude.{slice_get, ◌==◌}
use Rattle.std.specs.List.{count_by}
use Rattle.std.proofs.lemmas.List.{drop_all}
use Rattle.std.proofs.lemmas.List.Sums.{sum_by-cons}
use Rattle.md_graph.specs.PlainGraph.{PlainGraph}
use Rattle.md_script.specs.declared.edit.Edit.{Edit}
use Rattle.md_script.specs.declared.item.Item.{Item}
use Rattle.md_script.specs.Histories.{HistoryFits}
use Rattle.md_script.specs.Items.{is_undo}
use Rattle.md_report.specs.declared.line.SessionMode.{SessionMode}
use Rattle.md_report.specs.Lines.{PlainLine}
use Rattle.md_report.specs.Places.{Place, at_items, MayCome, next_place}
use Rattle.md_report.specs.ItemLines.{AnswersItem}
use Rattle.md_report.specs.Sessions.{State, first_state, state_behind}
use Rattle.md_report.specs.Steps.{state_of}
use Rattle.md_report.proofs.Groups.{drop_read}
use Rattle.md_top.specs.declared.stop.PutStop.{PutStop}
use Rattle.md_top.specs.Sinks.{sink, AppendsLines, PutsLines}
use Rattle.md_top.proofs.Keeping.{IsKept, left_behind, kept_forgotten, kept_answers, kept_behind}
use Rattle.md_top.proofs.Lines.{no_lines, stopped_behind, lines_behind}

-- lines have led to a state at these items, of which so much is kept in t that n undos can reach
pub record HaveLed (mode : SessionMode) (p : Place) (items : List Item) (n : ℕ) (t : State) (old now : Option (List ℕ)) : Type 0 where
  pub state : State
  pub progress : AppendsLines p (at_items mode state items) old now
  pub kept : IsKept n state t

-- no item is answered yet
pub none_led : (mode : SessionMode) (g : PlainGraph) (items : List Item) (n : ℕ) (kept : List (List Edit)) (old : Option (List ℕ)) → kept ≡ [] → HaveLed mode (at_items mode (first_state g) items) items n (state_of g kept) old old
none_led mode g items n kept old none =
    subst (λ (l : List (List Edit)). HaveLed mode (at_items mode (first_state g) items) items n (state_of g l) old old) (sym none)
    (record { state = first_state g; progress = no_lines (at_items mode (first_state g) items) old; kept = record { graph = refl; earlier = refl } })

-- what no undo can reach is forgotten
pub led_forgotten : (mode : SessionMode) (p : Place) (items : List Item) (n : ℕ) (g : PlainGraph) (kept left : List (List Edit)) (old now : Option (List ℕ)) → left ≡ (if n == 0 then [] else kept)
    → HaveLed mode p items n (state_of g kept) old now → HaveLed mode p items n (state_of g left) old now
led_forgotten mode p items n g kept left old now is led =
    subst (λ (l : List (List Edit)). HaveLed mode p items n (state_of g l) old now) (sym is)
    (record { state = led.state; progress = led.progress; kept = kept_forgotten n led.state g kept led.kept })

-- what is left of a history fits
pub fits_forgotten : (limit : ℕ) (Kept : PlainGraph → Type 0) (g : PlainGraph) (n : ℕ) (kept left : List (List Edit)) → left ≡ (if n == 0 then [] else kept) → HistoryFits limit Kept g kept → HistoryFits limit Kept g left
fits_forgotten limit Kept g n kept left is fits = subst (HistoryFits limit Kept g) (sym is) (by_test (n == 0)) where
  by_test : (b : Bool) → HistoryFits limit Kept g (if b then [] else kept)
  by_test true = tt
  by_test false = fits

-- the undos that are left at an item are it, if it is one, and those behind it
counted_here : (items : List Item) (i : ℕ) (item : Item) (n : ℕ) → slice_get items i ≡ Some item → n ≡ count_by is_undo (drop i items) → n ≡ cond (is_undo item) 1 0 + count_by is_undo (drop (i + 1) items)
counted_here items i item n is counted =
    counted ∙ ap (λ (l : List Item). count_by is_undo l) (drop_read items i item is) ∙ sum_by-cons (λ (x : Item). cond (is_undo x) 1 0) item (drop (i + 1) items)

-- an item that is an undo is one of those that are left
pub undo_counted : (items : List Item) (i : ℕ) (item : Item) (n : ℕ) → slice_get items i ≡ Some item → n ≡ count_by is_undo (drop i items) → is_undo item ≡ true → 0 < n
undo_counted items i item n is counted undo = by_test (is_undo item) undo (counted_here items i item n is counted) where
  by_test : (b : Bool) → b ≡ true → n ≡ cond b 1 0 + count_by is_undo (drop (i + 1) items) → 0 < n
  by_test true undo one = omega (arith, one)
  by_test false undo one = absurd (cc)

-- the undos behind an item
pub undos_left : (items : List Item) (i : ℕ) (item : Item) (n : ℕ) → slice_get items i ≡ Some item → n ≡ count_by is_undo (drop i items) → left_behind n item ≡ count_by is_undo (drop (i + 1) items)
undos_left items i item n is counted = by_test (is_undo item) (counted_here items i item n is counted) where
  by_test : (b : Bool) → n ≡ cond b 1 0 + count_by is_undo (drop (i + 1) items) → (if b then n - 1 else n) ≡ count_by is_undo (drop (i + 1) items)
  by_test true one = omega (arith, one)
  by_test false one = omega (arith, one)

module _ (mode : SessionMode) (p : Place) (items : List Item) (i n : ℕ) (item : Item) (line : PlainLine) (t : State) (old now : Option (List ℕ)) (is : slice_get items i ≡ Some item) (counted : n ≡ count_by is_undo (drop i items))
    (led : HaveLed mode p (drop i items) n t old now) (answers : AnswersItem mode t item line) where
  here : AppendsLines p (at_items mode led.state (item ∷ drop (i + 1) items)) old now
  here = subst (λ (l : List Item). AppendsLines p (at_items mode led.state l) old now) (drop_read items i item is) led.progress

  may : AnswersItem mode led.state item line
  may = kept_answers mode n led.state t item line (undo_counted items i item n is counted) led.kept answers

  pub item_put : (u : State) (new : Option (List ℕ)) (left : ℕ) → left ≡ left_behind n item → u ≡ state_behind t item line → ((q : Place) → MayCome q line → AppendsLines q (next_place q line) now new) → HaveLed mode p (drop (i + 1) items) left u old new
  item_put u new left less same puts = record {
    state = state_behind led.state item line;
    progress =
        lines_behind p (at_items mode led.state (item ∷ drop (i + 1) items)) (at_items mode (state_behind led.state item line) (drop (i + 1) items)) old now new here
        (puts (at_items mode led.state (item ∷ drop (i + 1) items)) may);
    kept =
        subst (λ (k : ℕ). IsKept k (state_behind led.state item line) u) (sym less)
        (subst (IsKept (left_behind n item) (state_behind led.state item line)) (sym same)
        (kept_behind n led.state t item line (undo_counted items i item n is counted) led.kept));
  }

  pub item_stopped : (result : Result (Unit {0}) PutStop) (stop : PutStop) (r : Place) (new : Option (List ℕ)) (faults_old faults_now faults_new : ℕ) → IsErrAnd result (λ named. named ≡ stop) → faults_old ≤ faults_now
      → ((q : Place) → MayCome q line → PutsLines q (next_place q line) (Err stop) (sink now new faults_now faults_new)) → PutsLines p r result (sink old new faults_old faults_new)
  item_stopped result stop r new faults_old faults_now faults_new errs rise puts =
      stopped_behind p (at_items mode led.state (item ∷ drop (i + 1) items)) r result stop old now new faults_old faults_now faults_new errs here rise (puts (at_items mode led.state (item ∷ drop (i + 1) items)) may)

-- all items are answered
pub items_done : (mode : SessionMode) (p : Place) (items : List Item) (i n : ℕ) (t : State) (old now : Option (List ℕ)) → length items ≤ i → HaveLed mode p (drop i items) n t old now → HaveLed mode p [] n t old now
items_done mode p items i n t old now all led = subst (λ (l : List Item). HaveLed mode p l n t old now) (drop_all i items all) led
