use Rattle.std.proofs.Common.{◌≡◌, ◌≤◌, ◌*◌, drop}
use Rattle.std.specs.List.{count_by}
use Rattle.md_script.specs.Histories.{HistoryFits}
use Rattle.md_script.specs.Items.{is_undo}
use Rattle.md_report.specs.Cographs.{IsCograph}
use Rattle.md_report.specs.Places.{at_items}
use Rattle.md_report.specs.Sessions.{first_state}
use Rattle.md_report.specs.Steps.{state_of}
use Rattle.md_top.specs.CographModes.{cograph_mode}
use Rattle.md_top.proofs.ItemLoops.{HaveLed}
use Rattle.md_top.proofs.cographs.put_answers.Given as goal

abbrev pub invariant-loop-i : goal.invariant-loop-i
invariant-loop-i g l = record {
  led : HaveLed (cograph_mode l.told) (at_items (cograph_mode l.told) (first_state l.fn.session) l.script) (drop l.i l.script) l.undos (state_of l.session l.history.items) (g.O.Sink.holds l.fn.out) (g.O.Sink.holds l.out);
  counted : l.undos ≡ count_by is_undo (drop l.i l.script);
  fits : HistoryFits (64 * g.row.W) IsCograph l.session l.history.items;
  faults : g.O.Sink.faults l.fn.out ≤ g.O.Sink.faults l.out;
}
