use Rattle.std.proofs.Common.{◌≡◌, None, sym, ◌∙◌, subst, refl, rules}
use Rattle.md_graph.proofs.Limits.{words_few}
use Rattle.md_script.specs.Edit.{reason_of}
use Rattle.md_script.proofs.ChangeLemmas.{names_within}
use Rattle.md_cotree.specs.Cotrees.{Denotes}
use Rattle.md_cotree.proofs.NoPaths.{cotree_no_path}
use Rattle.md_session.specs.Answers.{IsAnswered}
use Rattle.md_session.specs.declared.cograph.Answer.TheVariants.{Applied, RefusedP4}
use Rattle.md_session.proofs.MadePaths.{refused_with, applied_to}
use Rattle.md_session.proofs.cograph.CographSessionOf.apply.Goals as goal

pub change-requires-clause-denotes : goal.change-requires-clause-denotes
change-requires-clause-denotes g c = (c.self.inside.graph, c.self.invariant.1, sym c.reason.ensures ∙ c.in_default.is)

pub change-requires-clause-names : goal.change-requires-clause-names
change-requires-clause-names g c = names_within (words_few g.row.W c.vertices-vertices.ensures.limit) c.args.edit.now c.requires

pub invariant_of-self : goal.invariant_of-self
invariant_of-self g c =
    let den : Denotes c.change.new.tree c.apply.new.graph =
    subst (Denotes c.change.new.tree) (sym c.apply.ensures)
    (c.change.ensures.done c.self.inside.graph c.self.invariant.1 (sym c.reason.ensures ∙ c.in_default.is) c.if-change.true) in
    (cotree_no_path c.change.new.tree c.apply.new.graph den, den, c.self.invariant.2)

pub returns-then-change-clause-answer : goal.returns-then-change-clause-answer
returns-then-change-clause-answer g c =
    let s = c.self.inside.graph in
    let edit = c.args.edit.now in
    let none : reason_of s edit ≡ None = sym c.reason.ensures ∙ c.in_default.is in
    let den : Denotes c.change.new.tree c.apply.new.graph =
    subst (Denotes c.change.new.tree) (sym c.apply.ensures) (c.change.ensures.done s c.self.invariant.1 none c.if-change.true) in
    subst (λ h. IsAnswered h edit Applied c.apply.new.graph) c.self.view_is
    (applied_to s edit none c.apply.new.graph c.apply.ensures (cotree_no_path c.change.new.tree c.apply.new.graph den))

pub p4_behind-requires : goal.p4_behind-requires
p4_behind-requires g c = (
  search rules,
  (
    c.self.invariant.0,
    (
      sym c.reason.ensures ∙ c.in_default.is,
      (
        c.requires,
        c.change.ensures.refused c.self.inside.graph c.self.invariant.1 (sym c.reason.ensures ∙ c.in_default.is) c.if-change.false,
      ),
    ),
  ),
)

pub returns-clause-answer : goal.returns-clause-answer
returns-clause-answer g c =
    let s = c.self.inside.graph in
    let edit = c.args.edit.now in
    let none : reason_of s edit ≡ None = sym c.reason.ensures ∙ c.in_default.is in
    subst (λ h. IsAnswered h edit (RefusedP4 c.p4_behind.result) c.p4_behind.new.graph) c.self.view_is
    (refused_with s edit none c.p4_behind.result _ c.p4_behind.new.graph refl c.p4_behind.ensures.path c.p4_behind.ensures.same)
