use Rattle.std.proofs.Common.{◌≡◌, ◌≤◌, ◌*◌, drop}
use Rattle.std.specs.List.{count_by}
use Rattle.md_script.specs.Histories.{HistoryFits}
use Rattle.md_script.specs.Items.{is_undo}
use Rattle.md_report.specs.declared.line.SessionMode.TheVariants.{Of}
use Rattle.md_report.specs.Classes.{IsAllowedIn}
use Rattle.md_report.specs.Places.{at_items}
use Rattle.md_report.specs.Sessions.{first_state}
use Rattle.md_report.specs.Steps.{state_of}
use Rattle.md_top.proofs.ItemLoops.{HaveLed}
use Rattle.md_top.proofs.classes.put_items.Given as goal

abbrev pub invariant-loop-i : goal.invariant-loop-i
invariant-loop-i g l = record {
  led : HaveLed (Of l.fn.session.class) (at_items (Of l.fn.session.class) (first_state l.fn.session.graph) l.script) (drop l.i l.script) l.undos (state_of l.session.graph l.history.items) (g.O.Sink.holds l.fn.out) (g.O.Sink.holds l.out);
  counted : l.undos ≡ count_by is_undo (drop l.i l.script);
  fits : HistoryFits (64 * g.row.W) (IsAllowedIn l.fn.session.class) l.session.graph l.history.items;
  class : l.session.class ≡ l.fn.session.class;
  faults : g.O.Sink.faults l.fn.out ≤ g.O.Sink.faults l.out;
}
