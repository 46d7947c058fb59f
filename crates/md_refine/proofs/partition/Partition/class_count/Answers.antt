use Rattle.std.proofs.Common.{length, sym, ◌∙◌, ap}
use Rattle.std.proofs.lemmas.List.{length-map}
use Rattle.md_refine.specs.Partitions.{Classes}
use Rattle.md_refine.specs.Slots.{place_names}
use Rattle.md_refine.specs.Kept.{marks_kept}
use Rattle.md_refine.proofs.Showing.{opened, opened_partition}
use Rattle.md_refine.proofs.partition.Partition.class_count.Goals as goal

pub returns-clause-count : goal.returns-clause-count
returns-clause-count c =
    let a = c.self.inside in
    let kept = c.self.invariant in
    sym (ap (λ (p : Classes). length p.classes) (opened a c.args.self.now kept c.self.view_is) ∙ length-map kept.0 (place_names (marks_kept a)) ∙ kept.1.is_order.long)

pub returns-clause-partition : goal.returns-clause-partition
returns-clause-partition c = opened_partition c.self.inside c.args.self.now c.self.invariant c.self.view_is
