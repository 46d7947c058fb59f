-- Steps of a session on cographs over an item, by the answers to edits.
use Rattle.std.proofs.Common.{◌≡◌, ℕ, ◌+◌, ◌*◌, ◌≤◌, false, List, take, slice_get, Option, Some, None, refl, sym, ◌∙◌, ap, subst, inl, inr, arith}
use Rattle.std.specs.List.{All}
use Rattle.std.proofs.lemmas.List.Elements.{All-take}
use Rattle.md_graph.specs.declared.TheConstants.{NAMES}
use Rattle.md_graph.specs.NameSet.{AllBelow}
use Rattle.md_graph.specs.PlainGraph.{PlainGraph, IsGraph}
use Rattle.md_modules.specs.declared.induced_paths.P4.{P4}
use Rattle.md_script.specs.declared.edit.Edit as script
use Rattle.md_script.specs.declared.edit.EditReason.{EditReason}
use Rattle.md_script.specs.Edit.{HasNamesBelow, reason_of, after}
use Rattle.md_script.specs.Pasts.{all_after, HasApplied}
use Rattle.md_script.proofs.GroupLemmas.{take_read}
use Rattle.md_report.specs.declared.line.SessionMode.TheVariants.{Quiet}
use Rattle.md_report.specs.Cographs.{IsP4Of, IsCograph}
use Rattle.md_report.specs.Lines.{path_bar, group_refused, group_refused_p4}
use Rattle.md_report.specs.Sessions.{is_applied}
use Rattle.md_report.specs.ItemLines.{IsGroupLine}
use Rattle.md_report.proofs.Groups.{stopped_line, barred_line}
use Rattle.md_session.specs.declared.cograph.Answer.TheVariants.{Applied, Refused, RefusedP4}
use Rattle.md_session.specs.declared.cograph_items.ItemAnswer.{ItemAnswer}
use Rattle.md_session.specs.declared.cograph_items.ItemAnswer.TheVariants as items
use Rattle.md_session.specs.Answers.{IsAnsweredBy, IsAnswered, answer_line, IsGroupRefusal}
use Rattle.md_cograph.specs.EditCosts.{edit_cost, back_cost}
use Rattle.md_session.specs.Costs.{edits_cost, tried_cost, group_cost}
use Rattle.md_session.proofs.BackCosts.{edits_cost-push, back_few}

-- ---- what the answer to an edit says

pub record WasApplied (g : PlainGraph) (edit : script.Edit) (next : PlainGraph) : Type 0 where
  pub no_reason : reason_of g edit ≡ None
  pub cograph : IsCograph (after g edit)
  pub next_is : next ≡ after g edit

pub was_applied : (g : PlainGraph) (edit : script.Edit) (next : PlainGraph) → IsAnswered g edit Applied next → WasApplied g edit next
was_applied g edit next told = by (reason_of g edit) refl told where
  by : (o : Option EditReason) → reason_of g edit ≡ o → IsAnsweredBy o g edit Applied next → WasApplied g edit next
  by (Some reason) is told = let e : Applied ≡ Refused reason = told.0 in absurd (cc)
  by None is (inl path) = let e : Applied ≡ RefusedP4 path.0 = path.2 in absurd (cc)
  by None is (inr done) = record { no_reason = is; cograph = done.0; next_is = done.2 }

pub was_refused : (g : PlainGraph) (edit : script.Edit) (reason : EditReason) (next : PlainGraph) → IsAnswered g edit (Refused reason) next → (reason_of g edit ≡ Some reason) × (next ≡ g)
was_refused g edit reason next told = by (reason_of g edit) refl told where
  by : (o : Option EditReason) → reason_of g edit ≡ o → IsAnsweredBy o g edit (Refused reason) next → (reason_of g edit ≡ Some reason) × (next ≡ g)
  by (Some other) is told = let e : Refused reason ≡ Refused other = told.0 in let same : reason ≡ other = cc in (is ∙ ap (λ (r : EditReason). Some r) (sym same), told.1)
  by None is (inl path) = let e : Refused reason ≡ RefusedP4 path.0 = path.2 in absurd (cc)
  by None is (inr done) = let e : Refused reason ≡ Applied = done.1 in absurd (cc)

pub record WasBarred (g : PlainGraph) (edit : script.Edit) (p : P4) (next : PlainGraph) : Type 0 where
  pub no_reason : reason_of g edit ≡ None
  pub path : IsP4Of (after g edit) p
  pub next_is : next ≡ g

pub was_barred : (g : PlainGraph) (edit : script.Edit) (p : P4) (next : PlainGraph) → IsAnswered g edit (RefusedP4 p) next → WasBarred g edit p next
was_barred g edit p next told = by (reason_of g edit) refl told where
  by : (o : Option EditReason) → reason_of g edit ≡ o → IsAnsweredBy o g edit (RefusedP4 p) next → WasBarred g edit p next
  by (Some reason) is told = let e : RefusedP4 p ≡ Refused reason = told.0 in absurd (cc)
  by None is (inl path) =
      let e : RefusedP4 p ≡ RefusedP4 path.0 = path.2 in
      let same : p ≡ path.0 = cc in
      record { no_reason = is; path = subst (λ (q : P4). IsP4Of (after g edit) q) (sym same) path.1; next_is = path.3 }
  by None is (inr done) = let e : RefusedP4 p ≡ Applied = done.1 in absurd (cc)

-- ---- the answer to a group that is refused

module _ (g h : PlainGraph) (edits back : List script.Edit) (n : ℕ) (so : HasApplied IsCograph g edits h back n) (edit : script.Edit) (is : slice_get edits n ≡ Some edit) where
  pub stopped_answer : (answer : ItemAnswer) → IsGroupRefusal h n edit answer → IsGroupLine Quiet 0 g edits (answer_line answer)
  stopped_answer (items.GroupRefused number reason) told = (stopped_line Quiet g h edits back n (group_refused number reason) so edit is reason told.1).1 (ap (λ j. group_refused j reason) told.0)
  stopped_answer (items.GroupRefusedP4 number p) told =
      (barred_line Quiet g h edits back n (group_refused_p4 number p) so edit is told.1 (λ free. free (p.a, p.b, p.c, p.d, told.2))).1
      (path_bar p, (refl, told.2), ap (λ j. group_refused_p4 j p) told.0)
  stopped_answer items.Applied told = absurd told
  stopped_answer (items.Refused reason) told = absurd told
  stopped_answer (items.RefusedP4 p) told = absurd told
  stopped_answer items.NothingToUndo told = absurd told

pub not_applied : (h : PlainGraph) (n : ℕ) (edit : script.Edit) (answer : ItemAnswer) → IsGroupRefusal h n edit answer → is_applied (answer_line answer) ≡ false
not_applied h n edit (items.GroupRefused number reason) told = refl
not_applied h n edit (items.GroupRefusedP4 number p) told = refl
not_applied h n edit items.Applied told = absurd told
not_applied h n edit (items.Refused reason) told = absurd told
not_applied h n edit (items.RefusedP4 p) told = absurd told
not_applied h n edit items.NothingToUndo told = absurd told

module _ (limit : ℕ) (few : limit ≤ NAMES) (g h : PlainGraph) (edits back : List script.Edit) (n : ℕ) (is : IsGraph g) (below : AllBelow g.vertices limit) (free : IsCograph g) (names : All (HasNamesBelow limit) edits) (so : HasApplied IsCograph g edits h back n) (edit : script.Edit) (at : slice_get edits n ≡ Some edit) where
  back_within : back_cost h back ≤ edits_cost g (take n edits)
  back_within =
      let told = back_few limit few g (take n edits) is below free (All-take (HasNamesBelow limit) n edits names) so.applies in
      subst (λ (k : PlainGraph). back_cost k back ≤ edits_cost g (take n edits)) (sym so.graph_is) (subst (λ l. back_cost (all_after g (take n edits)) l ≤ edits_cost g (take n edits)) (sym so.back_is) told)

  twice : (first tried last number : ℕ) → number ≡ n + 1 → tried ≤ first + edits_cost g (take number edits) → last ≤ tried + back_cost h back → last ≤ first + 2 * edits_cost g (take number edits)
  twice first tried last number same up down =
      let whole : edits_cost g (take number edits) ≡ edits_cost g (take n edits) + edit_cost (all_after g (take n edits)) edit =
      ap (λ j. edits_cost g (take j edits)) same ∙ ap (edits_cost g) (take_read edits n edit at) ∙ edits_cost-push g (take n edits) edit in
      let small = back_within in
      omega arith

  pub refused_bound : (answer : ItemAnswer) (first tried last : ℕ) → IsGroupRefusal h n edit answer → tried ≤ first + tried_cost g edits answer → last ≤ tried + back_cost h back → last ≤ first + group_cost g edits answer
  refused_bound (items.GroupRefused number reason) first tried last told up down = twice first tried last number told.0 up down
  refused_bound (items.GroupRefusedP4 number p) first tried last told up down = twice first tried last number told.0 up down
  refused_bound items.Applied first tried last told up down = absurd told
  refused_bound (items.Refused reason) first tried last told up down = absurd told
  refused_bound (items.RefusedP4 p) first tried last told up down = absurd told
  refused_bound items.NothingToUndo first tried last told up down = absurd told

-- one edit more of a group
pub cost_more : (g h : PlainGraph) (edits back : List script.Edit) (n : ℕ) (edit : script.Edit) (first before now : ℕ) → HasApplied IsCograph g edits h back n → slice_get edits n ≡ Some edit → before ≤ first + edits_cost g (take n edits) → now ≤ before + edit_cost h edit
    → now ≤ first + edits_cost g (take (n + 1) edits)
cost_more g h edits back n edit first before now so at up here =
    let whole : edits_cost g (take (n + 1) edits) ≡ edits_cost g (take n edits) + edit_cost (all_after g (take n edits)) edit = ap (edits_cost g) (take_read edits n edit at) ∙ edits_cost-push g (take n edits) edit in
    let same = ap (λ (k : PlainGraph). edit_cost k edit) so.graph_is in
    omega arith
