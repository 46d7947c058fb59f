use Rattle.std.proofs.Common.{subst, sym, rules}
use Rattle.md_report.specs.Made.{HasChange}
use Rattle.md_report.specs.Cographs.{IsCograph}
use Rattle.md_report.proofs.MadePaths.{shown}
use Rattle.md_script.proofs.BackLemmas.{led, back_applies, back_gives, back_names}
use Rattle.md_cograph.proofs.changes.p4_behind.Goals as goal

pub made_p4-found-requires : goal.made_p4-found-requires
made_p4-found-requires g c = (search rules, subst (λ h. HasChange h c.args.edit.now) (sym c.apply.ensures) (shown c.args.graph.now c.args.edit.now c.requires.applies))

pub take_back-requires : goal.take_back-requires
take_back-requires g c =
    (search rules, (search rules, (back_applies c.args.graph.now c.apply.new.graph c.args.edit.now _ c.inverse-past.ensures.back c.apply.ensures, back_names c.inverse-past.ensures.back)))

pub returns-clause-same : goal.returns-clause-same
returns-clause-same g c = back_gives c.args.graph.now c.apply.new.graph c.take_back.new.graph c.args.edit.now _ c.inverse-past.ensures.back c.apply.ensures c.take_back.ensures

pub unreachable-requires : goal.unreachable-requires
unreachable-requires g c =
    subst IsCograph c.apply.ensures
    (c.in-None.ensures.cograph c.args.graph.now
    (led c.args.graph.now _ _ c.inverse-past.ensures.graph c.requires.names c.requires.applies c.apply.ensures)
    c.requires.cograph) c.requires.made
