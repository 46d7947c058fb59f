use Rattle.std.proofs.Common.{◌*◌, refl, rules}
use Rattle.md_report.specs.declared.line.SessionMode.TheVariants.{Quiet}
use Rattle.md_report.specs.Lines.{applied_quiet}
use Rattle.md_report.specs.Cographs.{IsCograph}
use Rattle.md_report.proofs.Stepping.{undone_step, last_item}
use Rattle.md_session.proofs.cograph_items.answer_undo.Goals as goal

pub take_back_item-requires : goal.take_back_item-requires
take_back_item-requires g c =
    let last = last_item (64 * g.row.W) IsCograph c.args.graph.now c.args.history.now.items c.items.result c.items.ensures c.if-items-eq0.false c.requires.fits in
    (search rules, (search rules, (c.requires.denotes, (c.requires.near, last))))

pub returns-clause-step : goal.returns-clause-step
returns-clause-step g c =
    let before = c.args.graph.now in
    let items = c.args.history.now.items in
    let last = last_item (64 * g.row.W) IsCograph before items c.items.result c.items.ensures c.if-items-eq0.false c.requires.fits in
    undone_step (64 * g.row.W) Quiet before items last.0 last.1 applied_quiet c.take_back_item.new.graph _ last.2 refl refl
    (c.take_back_item.ensures.graph last.0 last.1 last.2) (c.take_back_item.ensures.items last.0 last.1 last.2) c.requires.fits
