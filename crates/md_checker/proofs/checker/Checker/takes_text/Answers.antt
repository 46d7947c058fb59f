use Rattle.md_checker.specs.Checkers.{report_place}
use Rattle.md_checker.proofs.Moves.{taken_sound}
use Rattle.md_checker.proofs.checker.Checker.takes_text.Goals as goal

pub invariant_of-self : goal.invariant_of-self
invariant_of-self c =
    taken_sound c.takes_text.result (report_place c.self.inside.inner) (report_place c.takes_text.new.self) c.args.text.now c.self.invariant c.takes_text.ensures.takes c.takes_text.ensures.refused c.takes_text.ensures.stays
