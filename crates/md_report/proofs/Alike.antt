-- Runs of sessions on cographs apply the same items, whether or not their lines tell trees.
use Rattle.std.proofs.Common.{◌≡◌, suc, Bool, true, false, cond, not, List, [], ◌∷◌, length, map, refl, sym, ◌∙◌, ap, ap₂, subst}
use Rattle.std.specs.List.{filter}
use Rattle.md_script.specs.declared.item.Item.{Item}
use Rattle.md_report.specs.Lines.{PlainLine}
use Rattle.md_report.specs.Sessions.{State, applied_state, state_behind, last_state, states_behind, is_applied, count_applied, count_refused}
use Rattle.md_report.specs.ItemLines.{Run}
use Rattle.md_report.specs.Laws.{ApplyAlike, CographRunsApplyAlike}
use Rattle.md_report.proofs.ItemLines.{item_alike}

-- as many lines pass a test
count_more : (p : PlainLine → Bool) (l m : PlainLine) (ls ms : List PlainLine) (b : Bool) → p l ≡ b → p m ≡ b → length (filter p ls) ≡ length (filter p ms) →
    length (filter p (l ∷ ls)) ≡ length (filter p (m ∷ ms))
count_more p l m ls ms true pl pm rest = rw (pl, pm) (ap suc rest)
count_more p l m ls ms false pl pm rest = rw (pl, pm) rest

-- lines that tell alike lead to one state
state_alike : (s : State) (item : Item) (line other : PlainLine) → is_applied line ≡ is_applied other → state_behind s item line ≡ state_behind s item other
state_alike s item line other told = ap (λ (b : Bool). cond b (applied_state s item) s) told

more_alike : (s : State) (item : Item) (items : List Item) (line other : PlainLine) (lines others : List PlainLine) → is_applied line ≡ is_applied other →
    ApplyAlike (state_behind s item line) items lines others → ApplyAlike s (item ∷ items) (line ∷ lines) (other ∷ others)
more_alike s item items line other lines others told alike =
    let state = state_alike s item line other told in
    record {
      each = ap₂ (λ (b : Bool) (bs : List Bool). b ∷ bs) told alike.each;
      done = count_more is_applied line other lines others (is_applied line) refl (sym told) alike.done;
      undone = count_more (λ l. not (is_applied l)) line other lines others (not (is_applied line)) refl (sym (ap not told)) alike.undone;
      states = ap (λ (states : List State). state_behind s item line ∷ states) alike.states ∙ ap (λ (t : State). t ∷ states_behind t items others) state;
      last = alike.last ∙ ap (λ (t : State). last_state t items others) state;
    }

pub cograph_runs_proof : CographRunsApplyAlike
cograph_runs_proof mode other kept also s [] lines others run next =
    let same : lines ≡ others = run ∙ sym next in
    record { each = ap (map is_applied) same; done = ap count_applied same; undone = ap count_refused same; states = refl; last = refl }
cograph_runs_proof mode other kept also s (item ∷ items) [] others run next = absurd run
cograph_runs_proof mode other kept also s (item ∷ items) (line ∷ lines) [] run next = absurd next
cograph_runs_proof mode other kept also s (item ∷ items) (line ∷ lines) (second ∷ others) run next =
    let told = item_alike mode other kept also line second s item run.0 next.0 in
    more_alike s item items line second lines others told
    (cograph_runs_proof mode other kept also (state_behind s item line) items lines others run.1
    (subst (λ (t : State). Run other t items others) (sym (state_alike s item line second told)) next.1))
