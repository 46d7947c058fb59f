use Rattle.std.proofs.Common.{◌≡◌, ◌++◌, ◌∷◌, [], None, refl, sym, ◌∙◌, ap, subst, rules}
use Rattle.md_graph.proofs.Limits.{words_few}
use Rattle.md_graph.specs.PlainGraph.{PlainGraph}
use Rattle.md_cotree.specs.Cotrees.{Denotes}
use Rattle.md_script.specs.declared.edit.Edit.{Edit}
use Rattle.md_script.specs.Edit.{reason_of, after}
use Rattle.md_script.specs.Pasts.{as_edit}
use Rattle.md_script.proofs.ChangeLemmas.{names_within}
use Rattle.md_report.specs.Cographs.{IsCograph}
use Rattle.md_class.specs.declared.items.Fit.TheVariants as fits
use Rattle.md_class.specs.ClassAnswers.{IsFitOf}
use Rattle.md_report.proofs.AllowedGraphs.{allowed_cograph}
use Rattle.md_class.proofs.items.step.Goals as goal

pub change-requires-clause-denotes : goal.change-requires-clause-denotes
change-requires-clause-denotes g c = (c.args.graph.now, c.requires.denotes, sym c.reason.ensures ∙ c.in_default.is)

pub p4_behind-requires : goal.p4_behind-requires
p4_behind-requires g c =
    let none = sym c.reason.ensures ∙ c.in_default.is in (
      search rules,
      (
        allowed_cograph c.args.class c.args.graph.now c.requires.allowed,
        (none, (c.requires.names, c.change.ensures.refused c.args.graph.now c.requires.denotes none c.if-not-change.true)),
      ),
    )

pub fit_of-requires : goal.fit_of-requires
fit_of-requires g c =
    let none = sym c.reason.ensures ∙ c.in_default.is in
    (after c.args.graph.now c.args.edit.now, c.change.ensures.done c.args.graph.now c.requires.denotes none c.if-not-change.false)

pub change_back-requires : goal.change_back-requires
change_back-requires g c =
    let s = c.args.graph.now in
    let none = sym c.reason.ensures ∙ c.in_default.is in
    let back = c.inverse-past.ensures.back in (
      search rules,
      (
        (
          after s c.args.edit.now,
          c.change.ensures.done s c.requires.denotes none c.if-not-change.false,
          back.no_reason,
          subst IsCograph (sym back.gives) (allowed_cograph c.args.class s c.requires.allowed),
        ),
        (names_within (words_few g.row.W c.vertices-vertices.ensures.limit) (as_edit c.inverse-past.result) back.names, c.requires.near),
      ),
    )

pub change_back-requires-in-Err : goal.change_back-requires-in-Err
change_back-requires-in-Err g c =
    let s = c.args.graph.now in
    let none = sym c.reason.ensures ∙ c.in_default.is in
    let back = c.inverse-past.ensures.back in (
      search rules,
      (
        (
          after s c.args.edit.now,
          c.change.ensures.done s c.requires.denotes none c.if-not-change.false,
          back.no_reason,
          subst IsCograph (sym back.gives) (allowed_cograph c.args.class s c.requires.allowed),
        ),
        (names_within (words_few g.row.W c.vertices-vertices.ensures.limit) (as_edit c.inverse-past.result) back.names, c.requires.near),
      ),
    )

pub returns-in-Ok-Told-clause-answer : goal.returns-in-Ok-Told-clause-answer
returns-in-Ok-Told-clause-answer g c =
    let s = c.args.graph.now in
    let none : reason_of s c.args.edit.now ≡ None = sym c.reason.ensures ∙ c.in_default.is in
    let fit = subst (IsFitOf c.args.class c.args.whole (after s c.args.edit.now)) c.in-Ok-Told.field-0-is (c.in-Ok-Told.ensures (after s c.args.edit.now) (c.change.ensures.done s c.requires.denotes none c.if-not-change.false)) in (
      none,
      c.apply.ensures,
      subst (λ (k : PlainGraph). IsFitOf c.args.class c.args.whole k (fits.Told c.in-Ok-Told.told)) (sym c.apply.ensures) fit,
      λ last others is. c.push.ensures.items last others is ∙ ap (λ (e : Edit). (last ++ e ∷ []) ∷ others) c.inverse-past.ensures.inverse,
    )

pub returns-in-Ok-Bar-clause-answer : goal.returns-in-Ok-Bar-clause-answer
returns-in-Ok-Bar-clause-answer g c =
    let s = c.args.graph.now in
    let none : reason_of s c.args.edit.now ≡ None = sym c.reason.ensures ∙ c.in_default.is in
    (none, subst (IsFitOf c.args.class c.args.whole (after s c.args.edit.now)) c.in-Ok-Bar.field-0-is (c.in-Ok-Bar.ensures (after s c.args.edit.now) (c.change.ensures.done s c.requires.denotes none c.if-not-change.false)), (refl, refl))

pub returns-in-Ok-Bar-clause-denotes : goal.returns-in-Ok-Bar-clause-denotes
returns-in-Ok-Bar-clause-denotes g c =
    let s = c.args.graph.now in
    let none : reason_of s c.args.edit.now ≡ None = sym c.reason.ensures ∙ c.in_default.is in
    let back = c.inverse-past.ensures.back in
    subst (Denotes c.change_back.new.tree) back.gives
    (c.change_back.ensures.done (after s c.args.edit.now) (c.change.ensures.done s c.requires.denotes none c.if-not-change.false) back.no_reason
    (subst IsCograph (sym back.gives) (allowed_cograph c.args.class s c.requires.allowed)))

pub returns-in-Err-clause-denotes : goal.returns-in-Err-clause-denotes
returns-in-Err-clause-denotes g c =
    let s = c.args.graph.now in
    let none : reason_of s c.args.edit.now ≡ None = sym c.reason.ensures ∙ c.in_default.is in
    let back = c.inverse-past.ensures.back in
    subst (Denotes c.change_back-in-Err.new.tree) back.gives
    (c.change_back-in-Err.ensures.done (after s c.args.edit.now) (c.change.ensures.done s c.requires.denotes none c.if-not-change.false) back.no_reason
    (subst IsCograph (sym back.gives) (allowed_cograph c.args.class s c.requires.allowed)))
