use Rattle.md_cotree_edit.proofs.Marks.OnlyMarksDiffer.{still_refl, still_trans}
use Rattle.md_cotree_edit.proofs.Marks.MarkedAll.{marked_begun, place_within, no_place, one_view, can_mark, marked_more, marked_end}
use Rattle.md_cotree_edit.proofs.marking.mark_all.Goals as goal

pub loop-name-init : goal.loop-name-init
loop-name-init g c = record {
  links = c.requires.links;
  still = still_refl c.args.lists.now;
  marked = λ t can. marked_begun c.args.lists.now c.requires.links c.args.places.now c.args.names.now t can c.args.steps.now;
}

pub bounds : goal.bounds
bounds g c = place_within c.args.lists.now c.requires.links c.args.places.now c.args.names.now c.requires.tree.0 c.requires.tree.1 c.loop-name.name-index c.loop-name-test.true

pub mark-requires-clause-tree : goal.mark-requires-clause-tree
mark-requires-clause-tree g c = (
  one_view c.args.lists.now c.requires.links c.args.places.now c.args.names.now c.requires.tree.0 c.requires.tree.1 c.loop-name.lists c.loop-name.invariant.still c.loop-name.name-index c.args.steps.now c.loop-name.steps c.loop-name-test.true (c.loop-name.invariant.marked c.requires.tree.0 c.requires.tree.1) c.in-Some.leaf c.in-Some.is,
  can_mark c.args.lists.now c.requires.links c.args.places.now c.args.names.now c.requires.tree.0 c.requires.tree.1 c.loop-name.lists c.loop-name.invariant.still c.loop-name.name-index c.args.steps.now c.loop-name.steps c.loop-name-test.true (c.loop-name.invariant.marked c.requires.tree.0 c.requires.tree.1) c.in-Some.leaf c.in-Some.is,
)

pub unreachable-requires : goal.unreachable-requires
unreachable-requires g c = no_place c.args.lists.now c.requires.links c.args.places.now c.args.names.now c.requires.tree.0 c.requires.tree.1 c.loop-name.name-index c.loop-name-test.true c.in-None.is

pub loop-name-preserved : goal.loop-name-preserved
loop-name-preserved g c = record {
  links = c.mark.ensures.links;
  still = still_trans c.args.lists.now c.loop-name.lists c.mark.new.lists c.loop-name.invariant.still c.mark.ensures.still;
  marked = λ t can.
      marked_more c.args.lists.now c.requires.links c.args.places.now c.args.names.now t can c.loop-name.lists c.loop-name.invariant.still c.loop-name.name-index c.args.steps.now c.loop-name.steps c.loop-name-test.true (c.loop-name.invariant.marked t can) c.in-Some.leaf c.in-Some.is c.mark.new.lists c.mark.new.steps
      (c.mark.ensures.told (one_view c.args.lists.now c.requires.links c.args.places.now c.args.names.now t can c.loop-name.lists c.loop-name.invariant.still c.loop-name.name-index c.args.steps.now c.loop-name.steps c.loop-name-test.true (c.loop-name.invariant.marked t can) c.in-Some.leaf c.in-Some.is) (can_mark c.args.lists.now c.requires.links c.args.places.now c.args.names.now t can c.loop-name.lists c.loop-name.invariant.still c.loop-name.name-index c.args.steps.now c.loop-name.steps c.loop-name-test.true (c.loop-name.invariant.marked t can) c.in-Some.leaf c.in-Some.is))
      (c.mark.ensures.steps (one_view c.args.lists.now c.requires.links c.args.places.now c.args.names.now t can c.loop-name.lists c.loop-name.invariant.still c.loop-name.name-index c.args.steps.now c.loop-name.steps c.loop-name-test.true (c.loop-name.invariant.marked t can) c.in-Some.leaf c.in-Some.is) (can_mark c.args.lists.now c.requires.links c.args.places.now c.args.names.now t can c.loop-name.lists c.loop-name.invariant.still c.loop-name.name-index c.args.steps.now c.loop-name.steps c.loop-name-test.true (c.loop-name.invariant.marked t can) c.in-Some.leaf c.in-Some.is));
}

pub returns-clause-told : goal.returns-clause-told
returns-clause-told g c = λ t can.
    (marked_end c.args.lists.now c.requires.links c.args.places.now c.args.names.now t can c.loop-name.lists c.loop-name.name-index c.args.steps.now c.loop-name.steps c.loop-name-test.false c.loop-name.auto.name-index-end (c.loop-name.invariant.marked t can)).0

pub returns-clause-steps : goal.returns-clause-steps
returns-clause-steps g c =
    (marked_end c.args.lists.now c.requires.links c.args.places.now c.args.names.now c.requires.tree.0 c.requires.tree.1 c.loop-name.lists c.loop-name.name-index c.args.steps.now c.loop-name.steps c.loop-name-test.false c.loop-name.auto.name-index-end (c.loop-name.invariant.marked c.requires.tree.0 c.requires.tree.1)).1
