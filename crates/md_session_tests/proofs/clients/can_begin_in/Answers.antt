use Rattle.std.specs.Prelude.{IfOk, IsTrue, ◌↔◌}
use Rattle.std.proofs.Common.{◌≡◌, true, false, refl, subst, sym}
use Rattle.md_report.specs.Classes.{IsAllowedIn}
use Rattle.md_class.specs.ClassOpenings.{IsClassOpened}
use Rattle.md_session_tests.proofs.clients.can_begin_in.Goals.{in-Session, in-Barred}
use Rattle.md_session_tests.proofs.clients.can_begin_in.Goals as goal

pub returns : goal.returns
returns g c =
    let graph = c.args.graph in
    let class = c.args.class in
    record {
      allowed = elim c.match-branch-2.branch [
        | in-Session w ↦ subst (λ r. IfOk r (λ can. IsTrue can ↔ IsAllowedIn class graph)) (sym w.result-is)
            ((λ is. (subst (IsClassOpened graph class) w.in-Session.is c.in_ok-new.ensures.opened).1), λ is. refl)
        | in-Barred w ↦ subst (λ r. IfOk r (λ can. IsTrue can ↔ IsAllowedIn class graph)) (sym w.result-is)
            ((λ f. absurd (let no : false ≡ true = f in cc)), λ is. absurd (is (_, subst (IsClassOpened graph class) w.in-Barred.is c.in_ok-new.ensures.opened)))
      ];
    }
