use Rattle.std.proofs.Common.{ℕ, ◌≡◌, ◌==◌, Option, Some, None, is_some, sym, ◌∙◌, ap, arith}
use Rattle.std.specs.List.{position_from}
use Rattle.std.proofs.lemmas.List.{get_or_read}
use Rattle.md_refine.specs.Partitions.{Classes, is_in, is_name, class_position}
use Rattle.md_refine.specs.Slots.{home}
use Rattle.md_refine.specs.Kept.{marks_kept}
use Rattle.md_refine.proofs.Showing.{opened_partition, mark_within, no_class, its_class, position_some}
use Rattle.md_refine.proofs.partition.Partition.class_of.Goals as goal

-- there is an answer where there is a class
answered : (p : Classes) (v : ℕ) (o : Option ℕ) → o ≡ class_position p.classes v → is_some o ≡ is_name p.classes v
answered p v o is = ap is_some is ∙ position_some (λ c. is_in c v) 0 p.classes

pub returns-in-Some-clause-class : goal.returns-in-Some-clause-class
returns-in-Some-clause-class c =
    let a = c.self.inside in
    let kept = c.self.invariant in
    let v = c.args.v in
    let i = c.in-Some.home in
    let some : home (marks_kept a) v ≡ Some i = sym c.home_at.ensures ∙ c.in-Some.is in
    let low = mark_within a kept v i some in
    let place = get_or_read a.owners.items i c.index-place.result.now (omega arith) c.index-place.ensures 0 in
    c.position.ensures.position kept.0 kept.1.is_order
    ∙ ap (λ q. position_from (λ p. p == q) 0 kept.0) place
    ∙ its_class a c.args.self.now kept c.self.view_is v i some

pub returns-in-Some-clause-none : goal.returns-in-Some-clause-none
returns-in-Some-clause-none c = answered c.args.self.now c.args.v c.position.result (returns-in-Some-clause-class c)

pub returns-in-Some-clause-partition : goal.returns-in-Some-clause-partition
returns-in-Some-clause-partition c = opened_partition c.self.inside c.args.self.now c.self.invariant c.self.view_is

pub returns-in-None-clause-class : goal.returns-in-None-clause-class
returns-in-None-clause-class c =
    let a = c.self.inside in
    let kept = c.self.invariant in
    no_class a c.args.self.now kept c.self.view_is c.args.v (sym c.home_at.ensures ∙ c.in-None.is)

pub returns-in-None-clause-none : goal.returns-in-None-clause-none
returns-in-None-clause-none c = answered c.args.self.now c.args.v None (returns-in-None-clause-class c)

pub returns-in-None-clause-partition : goal.returns-in-None-clause-partition
returns-in-None-clause-partition c = opened_partition c.self.inside c.args.self.now c.self.invariant c.self.view_is
