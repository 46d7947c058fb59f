-- The line of each mode is the one that the mode reports.
use Rattle.std.proofs.Common.{sym, subst}
use Rattle.md_tree.proofs.Stacking.{if_ok}
use Rattle.md_report.specs.declared.line.GraphMode.{GraphMode}
use Rattle.md_report.specs.Places.{Reports}
use Rattle.md_top.proofs.report.spell.Goals as goal

pub returns-in-Compare : goal.returns-in-Compare
returns-in-Compare g c =
    if_ok c.spell_orientation.result
    (λ _ told. (told.0, subst (λ (m : GraphMode). Reports m c.args.graph.now told.0) (sym c.in-Compare.is) told.1.is, told.2))
    c.spell_orientation.ensures
