use Rattle.std.proofs.Common.{◌∙◌, sym, ap, subst, refl}
use Rattle.std.specs.FinSet.{remove}
use Rattle.md_graph.proofs.SetLemmas.{clash}
use Rattle.md_graph.specs.PlainGraph.{adjacent}
use Rattle.md_modules.specs.Modules.{IsLeastModule}
use Rattle.md_checker.specs.FitTests.{AreSingle}
use Rattle.md_checker.proofs.Trivial.{later_differs, not_trivial, AreWhole, back_alone, trivial_if, single_if}
use Rattle.md_checker.proofs.lone_modules.has_trivial_modules_alone.Goals as goal

pub returns-then-not-is_same : goal.returns-then-not-is_same
returns-then-not-is_same g c = (
  λ f. clash f refl,
  λ trivial. absurd (not_trivial c.args.names.now c.closure_in.new.into c.in-Some.v c.in-Some-first_from.j c.closure_in.ensures.least
      (later_differs c.in-Some.v c.in-Some-first_from.j c.in-Some-first_from.ensures.found.above) (λ same. clash (c.is_same.ensures.exactly.1 same) c.if-not-is_same.true) trivial),
)

pub returns-then-not-is_same-2 : goal.returns-then-not-is_same-2
returns-then-not-is_same-2 g c = (
  λ f. clash f refl,
  λ trivial.
      let whole = subst (λ k. IsLeastModule (adjacent c.args.graph.now) c.args.names.now c.in-Some.v c.in-Some-first_from.j k) (c.is_same.ensures.exactly.0 c.if-not-is_same.false) c.closure_in.ensures.least in
      let alone = back_alone c.args.names.now c.back.new.into c.in-Some.v c.in-Some-first_from.j whole (later_differs c.in-Some.v c.in-Some-first_from.j c.in-Some-first_from.ensures.found.above) c.back.ensures.names c.back.ensures.rest c.back.ensures.fixed trivial in
      clash (c.is_same-2.ensures.exactly.1 (alone ∙ sym (c.remove.ensures.changed ∙ ap (λ s. remove s c.in-Some.v) c.copy-others.ensures.value))) c.if-not-is_same-2.true,
)

pub returns : goal.returns
returns g c =
    let others = c.remove.ensures.changed ∙ ap (λ s. remove s c.in-Some.v) c.copy-others.ensures.value in
    let names = subst (λ b. AreWhole (adjacent c.args.graph.now) c.args.names.now b c.in-Some.v) (c.is_same-2.ensures.exactly.0 c.if-not-is_same-2.false) c.back.ensures.names in (
      λ t. trivial_if c.args.names.now c.remove.new.self c.in-Some.v others c.in_ok-classes.classes.items c.in_ok-classes.ensures.maximal names (subst AreSingle c.deref.ensures.value (c.are_alone.ensures.single.0 t)),
      λ trivial. c.are_alone.ensures.single.1 (subst AreSingle (sym c.deref.ensures.value) (single_if c.args.names.now c.remove.new.self c.in-Some.v others c.in_ok-classes.classes.items c.in_ok-classes.ensures.maximal c.in-Some.ensures.found.member trivial)),
    )
