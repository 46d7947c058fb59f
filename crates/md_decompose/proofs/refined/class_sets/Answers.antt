use Rattle.std.proofs.Common.{rules, arith}
use Rattle.md_decompose.proofs.RefinedLemmas.{is_numbered_list, sets_at_positions, sets_numbered}
use Rattle.md_decompose.proofs.refined.class_sets.Goals as goal

pub sets_of_numbers-requires : goal.sets_of_numbers-requires
sets_of_numbers-requires g c = (
  search rules,
  (
    search rules,
    is_numbered_list c.args.rest.now c.args.partition.now c.requires c.class_count-count.ensures.partition c.in_ok-numbers.numbers.items c.class_count-count.result c.class_count-count.ensures.count
        c.in_ok-numbers.ensures.positions,
  ),
)

pub all_made-requires : goal.all_made-requires
all_made-requires g c = (
  search rules,
  λ k low.
      let used = (is_numbered_list c.args.rest.now c.args.partition.now c.requires c.class_count-count.ensures.partition c.in_ok-numbers.numbers.items c.class_count-count.result
      c.class_count-count.ensures.count c.in_ok-numbers.ensures.positions).used k (let e = c.in_ok-sets.ensures.len in omega arith) in
      (used.0, c.in_ok-sets.ensures.cover k used.0 used.1 used.2),
)

pub returns : goal.returns
returns g c = record {
  sets = sets_at_positions c.args.rest.now c.args.partition.now c.requires c.class_count-count.ensures.partition c.in_ok-numbers.numbers.items c.class_count-count.result c.class_count-count.ensures.count
      c.in_ok-numbers.ensures.positions c.in_ok-made.made.items
      (sets_numbered c.args.rest.now c.in_ok-numbers.numbers.items c.class_count-count.result c.in_ok-sets.sets.items c.in_ok-made.made.items
      c.in_ok-sets.ensures.len c.in_ok-sets.ensures.members c.in_ok-sets.ensures.cover c.in_ok-made.ensures.len c.in_ok-made.ensures.same);
}
