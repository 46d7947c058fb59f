use Rattle.std.proofs.Common.{Bool, refl, sym, subst}
use Rattle.md_tree.specs.Plain.{plain_option}
use Rattle.md_class.specs.declared.answers.Told.TheVariants.{Tree, Outline}
use Rattle.md_class.specs.ItemAnswers.{Tells}
use Rattle.md_class.proofs.answers.told_of.Goals as goal

pub to_tree-requires : goal.to_tree-requires
to_tree-requires c = let den = c.requires.1 in record { sound = (den.0, den.1) }

pub outline-requires : goal.outline-requires
outline-requires c = let den = c.requires.1 in record { sound = (den.0, den.1) }

pub returns-then-whole : goal.returns-then-whole
returns-then-whole c = λ h den.
    let tree = c.in_ok-to_tree.field-0 in
    (plain_option tree, c.in_ok-to_tree.ensures.tree h den, subst (λ (b : Bool). Tells b (plain_option tree) (Tree tree)) (sym c.if-whole.true) refl)

pub returns : goal.returns
returns c = λ h den.
    let told = c.in_ok-outline.ensures.outline h den in
    (told.0, told.1, subst (λ (b : Bool). Tells b told.0 (Outline c.in_ok-outline.field-0)) (sym c.if-whole.false) told.2)
