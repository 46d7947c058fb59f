-- Steps of a session on a class of graphs over an edit, or over a group.
use Rattle.std.proofs.Common.{◌≡◌, ℕ, ◌+◌, ◌≤◌, false, List, [], ◌∷◌, length, drop, slice_get, Bool, Option, Some, None, Ok, refl, sym, ◌∙◌, ap, subst, inl, inr}
use Rattle.std.specs.List.{All}
use Rattle.md_graph.specs.declared.TheConstants.{NAMES}
use Rattle.md_graph.specs.NameSet.{AllBelow}
use Rattle.md_graph.specs.PlainGraph.{PlainGraph, IsGraph, adjacent}
use Rattle.md_tree.specs.Trees.{PlainTree}
use Rattle.md_tree.specs.StrongTrees.{IsTree}
use Rattle.md_bar_tree.specs.declared.Bar.{Bar}
use Rattle.md_bar_tree.specs.declared.Class.{Class}
use Rattle.md_script.specs.declared.edit.Edit.{Edit}
use Rattle.md_script.specs.declared.edit.EditReason.{EditReason}
use Rattle.md_script.specs.declared.item.Item.TheVariants.{One, Group}
use Rattle.md_script.specs.Edit.{HasNamesBelow, reason_of, after}
use Rattle.md_script.specs.Pasts.{inverse_of, MayBack, HasApplied}
use Rattle.md_script.specs.Histories.{HistoryFits}
use Rattle.md_script.proofs.BackLemmas.{inverse_back}
use Rattle.md_script.proofs.GroupLemmas.{GoesBack, back_weaker, kept_goes_back, one_goes_back}
use Rattle.md_report.specs.Cographs.{IsCograph}
use Rattle.md_report.specs.Lines.{PlainLine, applied, refused, refused_bar, group_refused_bar}
use Rattle.md_report.specs.Sessions.{led_to, is_applied}
use Rattle.md_report.specs.Steps.{state_of}
use Rattle.md_report.proofs.AllowedGraphs.{allowed_cograph}
use Rattle.md_report.proofs.Groups.{drop_read, past_applied, whole_line}
use Rattle.md_report.proofs.Stepping.{refused_step, led_step, all_graph}
use Rattle.md_report.specs.Classes.{IsAllowedIn, IsBarOf, IsClassLineBy}
use Rattle.md_report.specs.Steps.{ItemStep}
use Rattle.md_report.specs.ItemLines.{IsLineAt, IsGroupLine}
use Rattle.md_report.specs.declared.line.SessionMode.TheVariants.{Of}
use Rattle.md_class.specs.declared.items.Answer.TheVariants.{Applied, Refused, Barred}
use Rattle.md_class.specs.ClassAnswers.{AreKept, IsClassAnswered}
use Rattle.md_class.specs.declared.answers.ItemAnswer.TheVariants as answers
use Rattle.md_class.specs.declared.answers.Told.{Told}
use Rattle.md_class.specs.ItemAnswers.{IsItemRefusal, IsItemAnswer}
use Rattle.md_cograph.proofs.GoingBack.{same_rest}

-- a line at which a group ends is its line, whatever stands behind, and refuses it
end_line : (class : Class) (o : Option EditReason) (n : ℕ) (h : PlainGraph) (Behind : Type 0) (line : PlainLine) → IsLineAt o (Of class) n h ⊥ line → IsLineAt o (Of class) n h Behind line × (is_applied line ≡ false)
end_line class (Some reason) n h Behind line is = (is, ap is_applied is)
end_line class None n h Behind line (inl told) = (inl told, ap is_applied told.2)
end_line class None n h Behind line (inr rest) = absurd rest.1

module _ (limit : ℕ) (class : Class) (g : PlainGraph) (items : List (List Edit)) (fits : HistoryFits limit (IsAllowedIn class) g items) where
  -- ---- an edit alone

  module _ (whole : Bool) (edit : Edit) (next : PlainGraph) where
    -- it is refused with this line
    refused_one : (line : PlainLine) (opened left dropped : List (List Edit)) → is_applied line ≡ false → IsClassLineBy (reason_of g edit) class (after g edit) line → AreKept g opened next left → opened ≡ [] ∷ items → left ≡ [] ∷ dropped
        → IsItemRefusal limit class g items (One edit) line next dropped
    refused_one line opened left dropped refuses told kept made last = (
      refuses,
      refused_step limit (Of class) g items (One edit) line next dropped told refuses kept.0
          (same_rest _ items (sym last ∙ (kept.1 ∙ made))) fits,
    )

    pub reason_one : (reason : EditReason) (opened left dropped : List (List Edit)) → IsClassAnswered class whole g edit opened (Ok (Refused reason)) next left → opened ≡ [] ∷ items → left ≡ [] ∷ dropped
        → IsItemRefusal limit class g items (One edit) (refused reason) next dropped
    reason_one reason opened left dropped told =
        refused_one (refused reason) opened left dropped refl (subst (λ o. IsClassLineBy o class (after g edit) (refused reason)) (sym told.0) refl) told.1

    pub barred_one : (bar : Bar) (opened left dropped : List (List Edit)) → IsClassAnswered class whole g edit opened (Ok (Barred bar)) next left → opened ≡ [] ∷ items → left ≡ [] ∷ dropped
        → IsItemRefusal limit class g items (One edit) (refused_bar bar) next dropped
    barred_one bar opened left dropped told =
        refused_one (refused_bar bar) opened left dropped refl (subst (λ o. IsClassLineBy o class (after g edit) (refused_bar bar)) (sym told.0) (inl (bar, told.1, refl))) told.2

  -- ---- what is applied

  module _ (few : limit ≤ NAMES) (is : IsGraph g) (below : AllBelow g.vertices limit) (allowed : IsAllowedIn class g) where
    pub applied_one : (whole : Bool) (edit : Edit) (next : PlainGraph) (told : Told) (opened left : List (List Edit)) → HasNamesBelow limit edit → IsClassAnswered class whole g edit opened (Ok (Applied told)) next left → opened ≡ [] ∷ items
        → IsItemAnswer limit class whole g items (One edit) (answers.Applied told) next left
    applied_one whole edit next told opened left names so made =
        let t : Option PlainTree = so.2.1.0 in (
          t,
          so.2.1.1,
          so.2.1.2,
          led_step limit (Of class) g items (One edit) (applied t) next left (inverse_of g edit ∷ [])
              (subst (λ o. IsClassLineBy o class (after g edit) (applied t)) (sym so.0) (inr (
                subst (IsAllowedIn class) so.1 so.2.0,
                (t, subst (λ (k : PlainGraph). IsTree (adjacent k) k.vertices t) so.1 so.2.1.1, refl),
              )))
              refl (ap (led_to (state_of g items)) (sym so.1))
              (one_goes_back limit (IsAllowedIn class) g next edit (inverse_of g edit) allowed (inverse_back limit g few is below edit names so.0) so.1)
              (so.3 [] items made) fits,
        )

    module _ (edits : List Edit) (names : All (HasNamesBelow limit) edits) (h : PlainGraph) (back : List Edit) (n : ℕ) (so : HasApplied (IsAllowedIn class) g edits h back n) where
      -- what was applied of a group goes back
      pub goes : GoesBack limit (IsAllowedIn class) g h back
      goes = kept_goes_back limit (IsAllowedIn class) g h edits back n few is below allowed names so

      -- over cographs too
      pub may_back : MayBack limit IsCograph h back
      may_back = back_weaker limit (IsAllowedIn class) IsCograph (allowed_cograph class) h back goes.may

      pub whole_group : n ≡ length edits → (t : Option PlainTree) → IsTree (adjacent h) h.vertices t → (left : List (List Edit)) → left ≡ back ∷ items → ItemStep limit (Of class) g items (Group edits) (applied t) h left
      whole_group all t tree left is_left =
          led_step limit (Of class) g items (Group edits) (applied t) h left back
          ((whole_line (Of class) g h edits back n (applied t) so all).1 (t, tree, refl))
          refl (ap (led_to (state_of g items)) (sym (all_graph (IsAllowedIn class) g h edits back (subst (HasApplied (IsAllowedIn class) g edits h back) all so))))
          goes is_left fits

      pub ended_group : (edit : Edit) (line : PlainLine) → slice_get edits n ≡ Some edit → IsLineAt (reason_of h edit) (Of class) (n + 1) (after h edit) ⊥ line → (next : PlainGraph) (left : List (List Edit)) → next ≡ g → left ≡ items
          → IsItemRefusal limit class g items (Group edits) line next left
      ended_group edit line at told next left same kept =
          let ends = end_line class (reason_of h edit) (n + 1) (after h edit) (IsGroupLine (Of class) (n + 1) (after h edit) (drop (n + 1) edits) line) line told in
          let whole = (past_applied (Of class) g h edits back n line so).1
          (subst (λ l. IsGroupLine (Of class) n h l line) (sym (drop_read edits n edit at)) ends.0) in
          (ends.1, refused_step limit (Of class) g items (Group edits) line next left whole ends.1 same kept fits)

-- ---- the line at which a group ends

module _ (class : Class) (h next : PlainGraph) (edit : Edit) (n : ℕ) (same : next ≡ h) where
  pub bar_ends : (bar : Bar) → reason_of h edit ≡ None → IsBarOf class (after h edit) bar → IsLineAt (reason_of next edit) (Of class) (n + 1) (after next edit) ⊥ (group_refused_bar (n + 1) bar)
  bar_ends bar none is =
      subst (λ o. IsLineAt o (Of class) (n + 1) (after next edit) ⊥ (group_refused_bar (n + 1) bar)) (sym (ap (λ (k : PlainGraph). reason_of k edit) same ∙ none))
      (inl (bar, subst (λ (k : PlainGraph). IsBarOf class (after k edit) bar) (sym same) is, refl))
