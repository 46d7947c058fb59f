use Rattle.std.proofs.Common.{◌*◌}
use Rattle.md_graph.specs.declared.TheConstants.{WORDS}
use Rattle.md_script.specs.Histories.{HistoryFits}
use Rattle.md_report.specs.Classes.{IsAllowedIn}
use Rattle.md_session_tests.proofs.class_sessions.check.Given as goal

abbrev pub invariant-loop-i : goal.invariant-loop-i
invariant-loop-i g l = HistoryFits (64 * WORDS) (IsAllowedIn l.session.class) l.session.graph l.history.items
