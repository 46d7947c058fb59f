use Rattle.std.proofs.Common.{Bool, refl, sym, subst}
use Rattle.md_report.specs.ItemLines.{IsDoneLine}
use Rattle.md_report.specs.Lines.{applied}
use Rattle.md_top.specs.CographModes.{cograph_mode}
use Rattle.md_top.proofs.cographs.applied_text.Goals as goal

pub returns-then-told : goal.returns-then-told
returns-then-told g c =
    let told = c.in_ok-applied_tree_text.ensures in
    (applied told.0, told.2, subst (λ (b : Bool). IsDoneLine (cograph_mode b) c.args.session.now (applied told.0)) (sym c.if-told.true) (told.0, told.1, refl), refl)
