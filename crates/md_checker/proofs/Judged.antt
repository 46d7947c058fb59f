-- Lines that are judged for items: each builder makes of what a test told what comes of the line.
use Rattle.std.proofs.Common.{◌≡◌, ◌↔◌, ℕ, ◌+◌, Bool, true, false, IsTrue, List, [], ◌∷◌, length, slice_get, Option, None, Some, Result, Ok, Err, IfOk, refl, sym, ◌∙◌, ap, subst, inl, inr}
use Rattle.std.specs.Prelude.{IfSome, is_some}
use Rattle.md_graph.specs.PlainGraph.{PlainGraph}
use Rattle.md_graph.proofs.SetLemmas.{clash}
use Rattle.md_modules.specs.declared.induced_paths.P4.{P4}
use Rattle.md_bar_tree.specs.declared.Bar.{Bar}
use Rattle.md_script.specs.declared.edit.Edit as script
use Rattle.md_script.specs.declared.edit.EditReason.{EditReason}
use Rattle.md_script.specs.declared.item.Item.{Item}
use Rattle.md_script.specs.declared.item.Item.TheVariants.{One, Undo, Group}
use Rattle.md_script.specs.Edit.{reason_of, after}
use Rattle.md_script.specs.Pasts.{taken_back, MayBack, AnyGraph, HasApplied, TakesBack}
use Rattle.md_script.specs.Histories.{HistoryFits}
use Rattle.md_script.proofs.GroupLemmas.{GoesBack, one_goes_back, back_weaker, back_kept}
use Rattle.md_report.specs.declared.line.SessionMode.{SessionMode}
use Rattle.md_report.specs.Cographs.{IsCograph, IsP4Of}
use Rattle.md_report.specs.Lines.{PlainLine, refused, refused_bar, group_refused, group_refused_bar}
use Rattle.md_report.specs.Sessions.{is_applied, led_to}
use Rattle.md_report.specs.ItemLines.{IsAllowed, IsBarred, IsDoneLine, AnswersItem}
use Rattle.md_report.specs.Steps.{state_of}
use Rattle.md_report.proofs.Groups.{whole_line, stopped_line, barred_line}
use Rattle.md_report.proofs.ItemLines.{IsEditLine, edit_line, done_tells}
use Rattle.md_report.proofs.Stepping.{refused_step, led_step, undone_step, all_graph}
use Rattle.md_checker.specs.Judged.{IsJudged}

-- an answer by its test
pub if_true : {X : Type 0} (r : Result Bool X) (b : Bool) (P : Bool → Type 0) → (IsTrue b ↔ r ≡ Ok true) → b ≡ true → P true → IfOk r P
if_true r b P told so p = subst (λ x. IfOk x P) (sym (told.0 so)) p

pub if_false : {X : Type 0} (r : Result Bool X) (b : Bool) (P : Bool → Type 0) → (IsTrue b ↔ r ≡ Ok true) → b ≡ false → (r ≡ Ok false → P false) → IfOk r P
if_false (Ok true) b P told lacks p = absurd (clash (told.1 refl) lacks)
if_false (Ok false) b P told lacks p = p refl
if_false (Err e) b P told lacks p = tt

-- edits that can be taken back in some way can be taken back in any
pub any_back : (limit : ℕ) (Kept : PlainGraph → Type 0) (g : PlainGraph) (edits : List script.Edit) → MayBack limit Kept g edits → MayBack limit AnyGraph g edits
any_back limit Kept = back_weaker limit Kept AnyGraph (λ k kept. tt)

module _ (limit : ℕ) (mode : SessionMode) (g : PlainGraph) (items : List (List script.Edit)) (line : PlainLine) (h : PlainGraph) (left : List (List script.Edit)) (fits : HistoryFits limit (IsAllowed mode) g items) (allowed : IsAllowed mode g) where
  -- a line that refuses the item, exactly where it has this form
  pub judged_refusal : (item : Item) (Told : Type 0) (b : Bool) → (IsTrue b ↔ Told) → (AnswersItem mode (state_of g items) item line ↔ Told) → (Told → is_applied line ≡ false) → h ≡ g → left ≡ items
      → IsJudged b limit mode g items item line h left
  judged_refusal item Told true is answers refuses same kept =
      (refused_step limit mode g items item line h left (answers.1 (is.0 refl)) (refuses (is.0 refl)) same kept fits, subst (IsAllowed mode) (sym same) allowed)
  judged_refusal item Told false is answers refuses same kept = ((λ told. clash (is.1 (answers.0 told)) refl), (same, kept))

  -- ---- edits alone

  module _ (edit : script.Edit) where
    -- a reason speaks against the edit
    pub reason_answers : (reason : EditReason) → reason_of g edit ≡ Some reason → AnswersItem mode (state_of g items) (One edit) line ↔ (line ≡ refused reason)
    reason_answers reason is =
        let law = edit_line mode g edit line in
        ((λ told. subst (λ o. IsEditLine o mode (after g edit) line) is (law.0 told)), (λ told. law.1 (subst (λ o. IsEditLine o mode (after g edit) line) (sym is) told)))

    module _ (none : reason_of g edit ≡ None) where
      free_answers : AnswersItem mode (state_of g items) (One edit) line ↔ IsEditLine None mode (after g edit) line
      free_answers =
          let law = edit_line mode g edit line in
          ((λ told. subst (λ o. IsEditLine o mode (after g edit) line) none (law.0 told)), (λ told. law.1 (subst (λ o. IsEditLine o mode (after g edit) line) (sym none) told)))

      -- the line tells that the edit was applied
      pub judged_edit : (k : PlainGraph) (back : script.Edit) → k ≡ after g edit → TakesBack limit g edit back → IsAllowed mode k → IsDoneLine mode k line → h ≡ k → left ≡ (back ∷ []) ∷ items → IsJudged true limit mode g items (One edit) line h left
      judged_edit k back next takes kept done same is =
          let here : h ≡ after g edit = same ∙ next in
          let there : IsAllowed mode h = subst (IsAllowed mode) (sym same) kept in
          let told : IsDoneLine mode h line = subst (λ (x : PlainGraph). IsDoneLine mode x line) (sym same) done in (
            led_step limit mode g items (One edit) line h left (back ∷ [])
                (free_answers.1 (inr (subst (IsAllowed mode) here there, subst (λ (x : PlainGraph). IsDoneLine mode x line) here told)))
                (done_tells mode h line told).0 (ap (led_to (state_of g items)) (sym here)) (one_goes_back limit (IsAllowed mode) g h edit back allowed takes here) is fits,
            there,
          )

      pub unjudged_edit : (k : PlainGraph) → k ≡ after g edit → ((bar : Bar) → line ≡ refused_bar bar → ⊥) → (IsTrue false ↔ (IsAllowed mode k × IsDoneLine mode k line)) → h ≡ g → left ≡ items → IsJudged false limit mode g items (One edit) line h left
      unjudged_edit k next other is same kept = (
        (λ told. elim (free_answers.0 told) [
          | inl path ↦ other path.0 path.2
          | inr done ↦ clash (is.1 (subst (IsAllowed mode) (sym next) done.0, subst (λ (x : PlainGraph). IsDoneLine mode x line) (sym next) done.1)) refl
        ]),
        (same, kept),
      )

      -- the line refuses the edit with this bar
      pub judged_barred : (b : Bool) (bar : Bar) → line ≡ refused_bar bar → (IsTrue b ↔ IsBarred mode (after g edit) bar) → h ≡ g → left ≡ items → IsJudged b limit mode g items (One edit) line h left
      judged_barred b bar is told same kept =
          judged_refusal (One edit) (IsBarred mode (after g edit) bar) b told (has_bar, λ has. free_answers.1 (inl (bar, has, is))) (λ has. ap is_applied is) same kept
        where
          has_bar : AnswersItem mode (state_of g items) (One edit) line → IsBarred mode (after g edit) bar
          has_bar answers =
              elim (free_answers.0 answers) [
                | inl other ↦
                    let e : refused_bar other.0 ≡ refused_bar bar = sym other.2 ∙ is in
                    let found : other.0 ≡ bar = cc in
                    subst (IsBarred mode (after g edit)) found other.1
                | inr done ↦ absurd (clash (done_tells mode (after g edit) line done.1).0 (ap is_applied is))
              ]

  -- ---- groups

  module _ (edits : List script.Edit) where
    pub judged_group : (k : PlainGraph) (back : List script.Edit) → HasApplied (IsAllowed mode) g edits k back (length edits) → GoesBack limit (IsAllowed mode) g k back → IsAllowed mode k → IsDoneLine mode k line → h ≡ k → left ≡ back ∷ items
        → IsJudged true limit mode g items (Group edits) line h left
    judged_group k back so goes kept done same is =
        let step =
        led_step limit mode g items (Group edits) line k left back ((whole_line mode g k edits back (length edits) line so refl).1 done) (done_tells mode k line done).0
        (ap (led_to (state_of g items)) (sym (all_graph (IsAllowed mode) g k edits back so))) goes is fits in
        subst (λ (x : PlainGraph). IsJudged true limit mode g items (Group edits) line x left) (sym same) (step, kept)

    pub unjudged_group : (k : PlainGraph) (back : List script.Edit) → HasApplied (IsAllowed mode) g edits k back (length edits) → (IsTrue false ↔ IsDoneLine mode k line) → h ≡ g → left ≡ items → IsJudged false limit mode g items (Group edits) line h left
    unjudged_group k back so is same kept = ((λ told. clash (is.1 ((whole_line mode g k edits back (length edits) line so refl).0 told)) refl), (same, kept))

    pub judged_stop : (b : Bool) (k : PlainGraph) (back : List script.Edit) (n : ℕ) (edit : script.Edit) (reason : EditReason) → HasApplied (IsAllowed mode) g edits k back n → slice_get edits n ≡ Some edit → reason_of k edit ≡ Some reason
        → (IsTrue b ↔ line ≡ group_refused (n + 1) reason) → h ≡ g → left ≡ items → IsJudged b limit mode g items (Group edits) line h left
    judged_stop b k back n edit reason so at is told same kept =
        judged_refusal (Group edits) (line ≡ group_refused (n + 1) reason) b told (stopped_line mode g k edits back n line so edit at reason is) (λ e. ap is_applied e) same kept

    pub judged_bar : (b : Bool) (k : PlainGraph) (back : List script.Edit) (n : ℕ) (edit : script.Edit) → HasApplied (IsAllowed mode) g edits k back n → slice_get edits n ≡ Some edit → reason_of k edit ≡ None → (IsAllowed mode (after k edit) → ⊥)
        → (IsTrue b ↔ ((bar : Bar) × IsBarred mode (after k edit) bar × (line ≡ group_refused_bar (n + 1) bar))) → h ≡ g → left ≡ items → IsJudged b limit mode g items (Group edits) line h left
    judged_bar b k back n edit so at none barred told same kept =
        judged_refusal (Group edits) ((bar : Bar) × IsBarred mode (after k edit) bar × (line ≡ group_refused_bar (n + 1) bar)) b told (barred_line mode g k edits back n line so edit at none barred) (λ e. ap is_applied e.2) same kept

  -- ---- undo

  module _ (last : List script.Edit) (others : List (List script.Edit)) (is : items ≡ last ∷ others) where
    may_last : MayBack limit (IsAllowed mode) g last
    may_last = (subst (HistoryFits limit (IsAllowed mode) g) is fits).0

    pub judged_undo : (k : PlainGraph) → k ≡ taken_back g last → IsDoneLine mode k line → h ≡ k → left ≡ others → IsJudged true limit mode g items Undo line h left
    judged_undo k next done same kept =
        let here : h ≡ taken_back g last = same ∙ next in (
          undone_step limit mode g items last others line h left is (subst (λ (x : PlainGraph). IsDoneLine mode x line) next done) (done_tells mode k line done).0 here kept fits,
          subst (IsAllowed mode) (sym here) (back_kept limit (IsAllowed mode) g last allowed may_last),
        )

    pub unjudged_undo : (k : PlainGraph) → k ≡ taken_back g last → (IsTrue false ↔ IsDoneLine mode k line) → h ≡ g → left ≡ items → IsJudged false limit mode g items Undo line h left
    unjudged_undo k next told same kept = (
      (λ answers. clash (told.1 (subst (λ (x : PlainGraph). IsDoneLine mode x line) (sym next) (subst (λ l. AnswersItem mode (state_of g l) Undo line) is answers))) refl),
      (same, kept),
    )

-- ---- the tests

-- a graph with an induced P4 may be no state, and one without may
pub some_bars : (o : Option P4) (g : PlainGraph) (Q : P4 → Type 0) → IfSome o (λ p. IsP4Of g p × Q p) → is_some o ≡ true → IsCograph g → ⊥
some_bars None g Q found so free = absurd (cc)
some_bars (Some p) g Q found so free = free (p.a, p.b, p.c, p.d, found.0)

-- what a test told that answered yes
pub told_yes : {X : Type 0} (r : Result Bool X) (Told : Type 0) → IfOk r (λ fit. IsTrue fit ↔ Told) → r ≡ Ok true → Told
told_yes r Told told so = (subst (λ x. IfOk x (λ fit. IsTrue fit ↔ Told)) so told).0 refl

-- or no
pub told_no : {X : Type 0} (r : Result Bool X) (Told : Type 0) → IfOk r (λ fit. IsTrue fit ↔ Told) → r ≡ Ok false → IsTrue false ↔ Told
told_no r Told told so = subst (λ x. IfOk x (λ fit. IsTrue fit ↔ Told)) so told
