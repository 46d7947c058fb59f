use Rattle.std.proofs.Common.{◌*◌, sym, subst}
use Rattle.std.specs.Prelude.{Result, Ok, Err, OnOk}
use Rattle.md_graph.specs.declared.TheConstants.{WORDS}
use Rattle.md_bar_tree.specs.declared.Class.{Class}
use Rattle.md_script.specs.Histories.{HistoryFits}
use Rattle.md_report.specs.Classes.{IsAllowedIn}
use Rattle.md_session_tests.proofs.class_sessions.check_item.Goals as goal

held : {T E P : Type 0} (r : Result T E) → P → OnOk r P
held (Ok x) p = p
held (Err e) p = tt

pub returns : goal.returns
returns g c =
    held c.check_line.result (subst (λ (k : Class). HistoryFits (64 * WORDS) (IsAllowedIn k) c.apply_item.new.self.graph c.apply_item.new.history.items)
    (sym c.in_ok-line.ensures.class) c.in_ok-line.ensures.step.fits)
