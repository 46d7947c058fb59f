use Rattle.std.proofs.Common.{◌∷◌, ◌∙◌}
use Rattle.md_report.specs.Places.{at_graphs}
use Rattle.md_top.proofs.report.put_line.Goals as goal

pub returns-clause-puts : goal.returns-clause-puts
returns-clause-puts g c graphs =
    let told = c.in_ok-spell_room.ensures in
    c.put_text.ensures.puts (at_graphs c.args.mode (c.args.room.now ∷ graphs)) told.0 (c.deref.ensures.value ∙ told.2) told.1
