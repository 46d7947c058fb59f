-- The line of a group, past those of its edits that are applied.
use Rattle.std.proofs.Common.{◌≡◌, ℕ, ◌+◌, List, [], ◌∷◌, ◌++◌, length, take, drop, slice_get, Option, Some, None, ◌↔◌, sym, ◌∙◌, ap, subst, inl, inr, arith}
use Rattle.std.proofs.lemmas.List.{take-append-drop, length-take-le, drop_all, drop_more}
use Rattle.std.proofs.lemmas.Option.{slice_get_within, get_or_from_slice_get}
use Rattle.md_graph.specs.PlainGraph.{PlainGraph}
use Rattle.md_bar_tree.specs.declared.Bar.{Bar}
use Rattle.md_script.specs.declared.edit.Edit as script
use Rattle.md_script.specs.declared.edit.EditReason.{EditReason}
use Rattle.md_script.specs.Edit.{reason_of, after}
use Rattle.md_script.specs.Pasts.{all_after, Applies, HasApplied}
use Rattle.md_report.specs.declared.line.SessionMode.{SessionMode}
use Rattle.md_report.specs.declared.line.SessionMode.TheVariants.{Edit, Cograph, Quiet, Of}
use Rattle.md_report.specs.Lines.{PlainLine, group_refused, group_refused_bar}
use Rattle.md_report.specs.ItemLines.{IsAllowed, IsBarred, IsDoneLine, IsLineAt, IsGroupLine}

-- no graph is both
pub not_both : (mode : SessionMode) (g : PlainGraph) (bar : Bar) → IsBarred mode g bar → IsAllowed mode g → ⊥
not_both Edit g bar barred allowed = barred
not_both Cograph g bar barred allowed = allowed (bar.a, bar.b, bar.c, bar.d, barred.1)
not_both Quiet g bar barred allowed = allowed (bar.a, bar.b, bar.c, bar.d, barred.1)
not_both (Of class) g bar barred allowed = allowed (bar, barred)

-- an edit that is applied says nothing
at_applied : (o : Option EditReason) (mode : SessionMode) (n : ℕ) (h : PlainGraph) (Behind : Type 0) (line : PlainLine) → o ≡ None → IsAllowed mode h → IsLineAt o mode n h Behind line ↔ Behind
at_applied (Some reason) mode n h Behind line none allowed = absurd (cc)
at_applied None mode n h Behind line none allowed =
    (λ told. elim told [ inl bar ↦ absurd (not_both mode h bar.0 bar.1 allowed) | inr rest ↦ rest.1 ], λ behind. inr (allowed, behind))

past_front : (mode : SessionMode) (n m : ℕ) (g : PlainGraph) (front rest : List script.Edit) (line : PlainLine) → Applies (IsAllowed mode) g front → m ≡ n + length front
    → IsGroupLine mode n g (front ++ rest) line ↔ IsGroupLine mode m (all_after g front) rest line
past_front mode n m g [] rest line applies is =
    let same : m ≡ n = omega arith in
    (subst (λ k. IsGroupLine mode k g rest line) (sym same), subst (λ k. IsGroupLine mode k g rest line) same)
past_front mode n m g (edit ∷ front) rest line applies is =
    let here = at_applied (reason_of g edit) mode (n + 1) (after g edit) (IsGroupLine mode (n + 1) (after g edit) (front ++ rest) line) line applies.0 applies.1.0 in
    let more = past_front mode (n + 1) m (after g edit) front rest line applies.1.1 (omega arith) in
    (λ told. more.0 (here.0 told), λ told. here.1 (more.1 told))

module _ (mode : SessionMode) (g h : PlainGraph) (edits back : List script.Edit) (n : ℕ) (line : PlainLine) (so : HasApplied (IsAllowed mode) g edits h back n) where
  -- the line of a group is that of what is left of it
  pub past_applied : IsGroupLine mode 0 g edits line ↔ IsGroupLine mode n h (drop n edits) line
  past_applied =
      let split : take n edits ++ drop n edits ≡ edits = take-append-drop n edits in
      let l = length-take-le n edits so.within in
      let told = past_front mode 0 n g (take n edits) (drop n edits) line so.applies (omega arith) in (
        λ is. subst (λ (k : PlainGraph). IsGroupLine mode n k (drop n edits) line) (sym so.graph_is) (told.0 (subst (λ l. IsGroupLine mode 0 g l line) (sym split) is)),
        λ is. subst (λ l. IsGroupLine mode 0 g l line) split (told.1 (subst (λ (k : PlainGraph). IsGroupLine mode n k (drop n edits) line) so.graph_is is)),
      )

  -- all edits are applied
  pub whole_line : n ≡ length edits → IsGroupLine mode 0 g edits line ↔ IsDoneLine mode h line
  whole_line all =
      let none : drop n edits ≡ [] = drop_all n edits (omega arith) in (
        λ is. subst (λ l. IsGroupLine mode n h l line) none (past_applied.0 is),
        λ is. past_applied.1 (subst (λ l. IsGroupLine mode n h l line) (sym none) is),
      )

-- a list from a place on begins with what stands there
pub drop_read : {X : Type 0} (xs : List X) (i : ℕ) (x : X) → slice_get xs i ≡ Some x → drop i xs ≡ x ∷ drop (i + 1) xs
drop_read xs i x is = drop_more xs i x (slice_get_within xs i x is) ∙ ap (λ y. y ∷ drop (i + 1) xs) (get_or_from_slice_get xs i x x is)

-- a reason speaks against an edit; or the graph after it may be no state
reason_line : (o : Option EditReason) (mode : SessionMode) (n : ℕ) (h : PlainGraph) (Behind : Type 0) (line : PlainLine) (reason : EditReason) → o ≡ Some reason → IsLineAt o mode n h Behind line ↔ (line ≡ group_refused n reason)
reason_line None mode n h Behind line reason is = absurd (cc)
reason_line (Some other) mode n h Behind line reason is =
    let same : other ≡ reason = cc in (λ told. told ∙ ap (group_refused n) same, λ told. told ∙ ap (group_refused n) (sym same))

bar_line : (o : Option EditReason) (mode : SessionMode) (n : ℕ) (h : PlainGraph) (Behind : Type 0) (line : PlainLine) → o ≡ None → (IsAllowed mode h → ⊥) → IsLineAt o mode n h Behind line ↔ ((bar : Bar) × IsBarred mode h bar × (line ≡ group_refused_bar n bar))
bar_line (Some reason) mode n h Behind line none barred = absurd (cc)
bar_line None mode n h Behind line none barred = (λ told. elim told [ inl bar ↦ bar | inr rest ↦ absurd (barred rest.0) ], λ bar. inl bar)

module _ (mode : SessionMode) (g h : PlainGraph) (edits back : List script.Edit) (n : ℕ) (line : PlainLine) (so : HasApplied (IsAllowed mode) g edits h back n) (edit : script.Edit) (is : slice_get edits n ≡ Some edit) where
  pub stopped_line : (reason : EditReason) → reason_of h edit ≡ Some reason → IsGroupLine mode 0 g edits line ↔ (line ≡ group_refused (n + 1) reason)
  stopped_line reason against =
      let past = past_applied mode g h edits back n line so in
      let at = drop_read edits n edit is in
      let told = reason_line (reason_of h edit) mode (n + 1) (after h edit) (IsGroupLine mode (n + 1) (after h edit) (drop (n + 1) edits) line) line reason against in
      (λ w. told.0 (subst (λ l. IsGroupLine mode n h l line) at (past.0 w)), λ w. past.1 (subst (λ l. IsGroupLine mode n h l line) (sym at) (told.1 w)))

  pub barred_line : reason_of h edit ≡ None → (IsAllowed mode (after h edit) → ⊥) → IsGroupLine mode 0 g edits line ↔ ((bar : Bar) × IsBarred mode (after h edit) bar × (line ≡ group_refused_bar (n + 1) bar))
  barred_line none barred =
      let past = past_applied mode g h edits back n line so in
      let at = drop_read edits n edit is in
      let told = bar_line (reason_of h edit) mode (n + 1) (after h edit) (IsGroupLine mode (n + 1) (after h edit) (drop (n + 1) edits) line) line none barred in
      (λ w. told.0 (subst (λ l. IsGroupLine mode n h l line) at (past.0 w)), λ w. past.1 (subst (λ l. IsGroupLine mode n h l line) (sym at) (told.1 w)))
