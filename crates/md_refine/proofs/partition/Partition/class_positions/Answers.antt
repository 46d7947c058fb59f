use Rattle.std.proofs.Common.{◌≡◌, ℕ, Option, None, Some, refl, sym, ◌∙◌}
use Rattle.md_refine.specs.Partitions.{class_position}
use Rattle.md_refine.specs.Slots.{home, position_of_mark}
use Rattle.md_refine.specs.Kept.{marks_kept}
use Rattle.md_refine.proofs.Showing.{no_class, its_class}
use Rattle.md_refine.proofs.partition.Partition.class_positions.Goals as goal

pub returns-clause-positions : goal.returns-clause-positions
returns-clause-positions c = λ v. c.in_ok-numbers.ensures.numbers v ∙ go v (home (marks_kept c.self.inside) v) refl
  where
    go : (v : ℕ) (o : Option ℕ) → home (marks_kept c.self.inside) v ≡ o → position_of_mark c.self.inside.owners.items c.in_ok-positions.positions.items o ≡ class_position c.args.self.now.classes v
    go v None e = no_class c.self.inside c.args.self.now c.self.invariant c.self.view_is v e
    go v (Some i) e =
        let kept = c.self.invariant in
        sym (c.in_ok-positions.ensures.positions kept.0 kept.1.is_order _ (kept.1.homes v i e).place)
        ∙ its_class c.self.inside c.args.self.now kept c.self.view_is v i e
