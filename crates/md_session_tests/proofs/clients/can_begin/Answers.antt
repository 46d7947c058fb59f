use Rattle.std.specs.Prelude.{IfOk, IsTrue, ◌↔◌}
use Rattle.std.proofs.Common.{◌≡◌, true, false, refl, subst, sym}
use Rattle.md_report.specs.Cographs.{IsCograph}
use Rattle.md_session.specs.Answers.{IsOpened}
use Rattle.md_session_tests.proofs.clients.can_begin.Goals.{in-Session, in-NotCograph}
use Rattle.md_session_tests.proofs.clients.can_begin.Goals as goal

pub returns : goal.returns
returns g c =
    let graph = c.args.graph in
    record {
      cograph = elim c.match-branch-2.branch [
        | in-Session w ↦ subst (λ r. IfOk r (λ can. IsTrue can ↔ IsCograph graph)) (sym w.result-is) ((λ is. (subst (IsOpened graph) w.in-Session.is c.in_ok-new.ensures).1), λ is. refl)
        | in-NotCograph w ↦ subst (λ r. IfOk r (λ can. IsTrue can ↔ IsCograph graph)) (sym w.result-is) ((λ f. absurd (let no : false ≡ true = f in cc)), λ is. absurd (is (_, _, _, _, subst (IsOpened graph) w.in-NotCograph.is c.in_ok-new.ensures)))
      ];
    }
