use Rattle.std.proofs.Common.{◌∙◌, ap, subst, sym, refl, ◌<◌, get_or, rules}
use Rattle.std.proofs.lemmas.List.{length-set}
use Rattle.md_graph.specs.NameSet.{symmetric_difference}
use Rattle.md_checker.proofs.Ordering.{members_start, members_more, holds_item}
use Rattle.md_checker.proofs.Flipping.{flip_start, flip_more}
use Rattle.md_checker.proofs.certificates.flip_before.Goals as goal

pub loop-v-init : goal.loop-v-init
loop-v-init g c = record {
  room = refl;
  members = members_start c.none-before.result c.none-before.ensures.value;
  flipped = flip_start c.args.rows.now;
}

pub bounds-rows-v : goal.bounds-rows-v
bounds-rows-v g c =
    subst (λ n. get_or c.args.list.now c.loop-v.v-index 0 < n) (sym c.loop-v.invariant.room) (c.requires.room _ (holds_item c.args.list.now c.loop-v.v-index 0 c.loop-v-test.true))

pub insert-requires : goal.insert-requires
insert-requires g c = (search rules, c.requires.names _ (holds_item c.args.list.now c.loop-v.v-index 0 c.loop-v-test.true))

pub loop-v-preserved : goal.loop-v-preserved
loop-v-preserved g c = record {
  room = length-set c.loop-v.rows _ c.symmetric_difference_with.new.self ∙ c.loop-v.invariant.room;
  members = members_more c.loop-v.before _ c.args.list.now c.loop-v.v-index c.loop-v-test.true c.loop-v.invariant.members c.insert.ensures.changed;
  flipped = flip_more c.args.list.now c.loop-v.v-index c.loop-v-test.true c.requires.once c.args.rows.now c.loop-v.rows c.loop-v.before c.index-rows-v.result _ c.loop-v.invariant.flipped c.loop-v.invariant.members (subst (λ n. get_or c.args.list.now c.loop-v.v-index 0 < n) (sym c.loop-v.invariant.room) (c.requires.room _ (holds_item c.args.list.now c.loop-v.v-index 0 c.loop-v-test.true))) c.index-rows-v.is (c.symmetric_difference_with.ensures.changed ∙ ap (λ s. symmetric_difference s c.loop-v.before) (sym c.index-rows-v.is));
}
