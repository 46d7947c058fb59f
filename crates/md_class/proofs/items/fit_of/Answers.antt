use Rattle.std.proofs.Common.{Bool, true, sym, ◌∙◌, subst}
use Rattle.md_class.specs.declared.answers.Told.TheVariants.{Outline}
use Rattle.md_class.specs.ClassAnswers.{IsFitOf}
use Rattle.md_class.specs.ItemAnswers.{Tells}
use Rattle.md_class.proofs.ClassGraphs.{few_allowed}
use Rattle.md_class.proofs.items.fit_of.Goals as goal

pub outline-requires : goal.outline-requires
outline-requires c = let den = c.requires.1 in record { sound = (den.0, den.1) }

pub returns-then-branch : goal.returns-then-branch
returns-then-branch c = λ h den.
    let told = c.in_ok-parts.ensures.outline h den in
    let few = (c.in_ok-has_few_inner.ensures.exactly told.0 (c.deref.ensures.value ∙ told.2)).0 c.if-branch.true in (
      few_allowed c.args.class c.args.tree.now h told.0 den told.1 few,
      (told.0, told.1, subst (λ (b : Bool). Tells b told.0 (Outline c.in_ok-parts.parts)) (sym c.if-whole.false) told.2),
    )

pub returns-in-Told : goal.returns-in-Told
returns-in-Told c = λ h den.
    let told = c.in_ok-parts.ensures.outline h den in
    let so = subst (IsFitOf c.args.class true h) c.in-Told.is (c.in_ok-tree_or_bar.ensures h den) in
    (so.0, (told.0, told.1, subst (λ (b : Bool). Tells b told.0 (Outline c.in_ok-parts.parts)) (sym c.if-whole.false) told.2))

pub returns-in-Bar : goal.returns-in-Bar
returns-in-Bar c = λ h den. subst (IsFitOf c.args.class true h) c.in-Bar.is (c.in_ok-tree_or_bar.ensures h den)
