use Rattle.std.proofs.Common.{None, length, set, ◌∙◌, ap, arith}
use Rattle.std.proofs.lemmas.List.{length-replicate}
use Rattle.md_refine.proofs.Limits.{NAMES-low}
use Rattle.md_refine.proofs.Showing.{kept_partition}
use Rattle.md_refine.proofs.Starting.{size_low, starts, starts_view}
use Rattle.md_refine.proofs.partition.Partition.new.Goals as goal

pub overflow_mul-size : goal.overflow_mul-size
overflow_mul-size g c = let low = size_low c.args.names.now c.members-members.ensures.names c.count-count.result c.max-size.result c.count-count.ensures.value c.max-size.ensures in let small = NAMES-low in omega arith

pub overflow_mul-size-2 : goal.overflow_mul-size-2
overflow_mul-size-2 g c = let low = size_low c.args.names.now c.members-members.ensures.names c.count-count.result c.max-size.result c.count-count.ensures.value c.max-size.ensures in let small = NAMES-low in omega arith

pub invariant_of-result : goal.invariant_of-result
invariant_of-result g c = (_, starts c.args.names.now c.bound_of.result c.bound_of.ensures.above c.bound_of.ensures.few _ c.count-count.result c.max-size.result c.count-count.ensures.value c.max-size.ensures (c.in_ok-copies_of-4.field-0.ok.0 ∙ ap length c.in_ok-copies_of-4.ensures.items ∙ length-replicate c.max-size.result None) c.in_ok-homes_of.ensures.len c.in_ok-homes_of.ensures.homes c.in_ok-homes_of.ensures.counts c.in_ok-copies_of.ensures.items (ap (λ xs. set xs 0 c.count-count.result) c.in_ok-counts.ensures.items) c.in_ok-copies_of-2.ensures.items c.in_ok-copies_of-3.ensures.items c.in_ok-copies_of-4.ensures.items c.home_if.ensures c.min.ensures c.none.ensures.value)

pub returns-clause-whole : goal.returns-clause-whole
returns-clause-whole g c = starts_view c.args.names.now c.bound_of.result c.bound_of.ensures.above c.bound_of.ensures.few _ c.count-count.result c.max-size.result c.count-count.ensures.value c.max-size.ensures (c.in_ok-copies_of-4.field-0.ok.0 ∙ ap length c.in_ok-copies_of-4.ensures.items ∙ length-replicate c.max-size.result None) c.in_ok-homes_of.ensures.len c.in_ok-homes_of.ensures.homes c.in_ok-homes_of.ensures.counts c.in_ok-copies_of.ensures.items (ap (λ xs. set xs 0 c.count-count.result) c.in_ok-counts.ensures.items) c.in_ok-copies_of-2.ensures.items c.in_ok-copies_of-3.ensures.items c.in_ok-copies_of-4.ensures.items c.home_if.ensures c.min.ensures c.none.ensures.value

pub returns-clause-partition : goal.returns-clause-partition
returns-clause-partition g c =
    kept_partition _ _ (starts c.args.names.now c.bound_of.result c.bound_of.ensures.above c.bound_of.ensures.few _ c.count-count.result c.max-size.result c.count-count.ensures.value c.max-size.ensures (c.in_ok-copies_of-4.field-0.ok.0 ∙ ap length c.in_ok-copies_of-4.ensures.items ∙ length-replicate c.max-size.result None) c.in_ok-homes_of.ensures.len c.in_ok-homes_of.ensures.homes c.in_ok-homes_of.ensures.counts c.in_ok-copies_of.ensures.items (ap (λ xs. set xs 0 c.count-count.result) c.in_ok-counts.ensures.items) c.in_ok-copies_of-2.ensures.items c.in_ok-copies_of-3.ensures.items c.in_ok-copies_of-4.ensures.items c.home_if.ensures c.min.ensures c.none.ensures.value)
