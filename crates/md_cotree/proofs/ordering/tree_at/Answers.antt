use Rattle.std.proofs.Common.{map, sym, ◌∙◌, ap}
use Rattle.std.proofs.lemmas.List.{nil_from_length}
use Rattle.md_cotree.specs.PlaceTrees.{shape}
use Rattle.md_cotree.specs.Orders.{part_at, plain_keyed}
use Rattle.md_tree.proofs.Stacking.{map_one_more}
use Rattle.md_cotree.proofs.Emitting.{live_pop}
use Rattle.md_cotree.proofs.Stacked.{stack_begin, stack_below, stack_more, stack_end, stack_some}
use Rattle.md_cotree.proofs.ordering.tree_at.Goals as goal

pub loop-place-init : goal.loop-place-init
loop-place-init g c = record {
  live = c.in_ok-places.ensures.live;
  trees = λ t is at. stack_begin (shape t) _ _ (c.in_ok-places.ensures.parts t is at) (ap (map plain_keyed) c.new-stack.ensures.items);
}

pub put-requires : goal.put-requires
put-requires g c =
    let has = c.requires.stands in
    let last = map_one_more (part_at c.args.lists.now) c.loop-place.places.items c.pop.new.self.items c.in-Some.place c.in-Some.ensures.items in
    record {
      live = (live_pop c.args.lists.now c.pop.new.self.items c.loop-place.places.items c.in-Some.place c.in-Some.ensures.items c.loop-place.invariant.live).0;
      below = stack_below (shape has.0) _ _ _ (c.loop-place.invariant.trees has.0 has.1 has.2) _ _ last has.4;
    }

pub loop-place-preserved : goal.loop-place-preserved
loop-place-preserved g c =
    let last = map_one_more (part_at c.args.lists.now) c.loop-place.places.items c.pop.new.self.items c.in-Some.place c.in-Some.ensures.items in
    record {
      live = (live_pop c.args.lists.now c.pop.new.self.items c.loop-place.places.items c.in-Some.place c.in-Some.ensures.items c.loop-place.invariant.live).1;
      trees = λ t is at. stack_more (shape t) _ _ _ (c.loop-place.invariant.trees t is at) _ _ last _ c.in_ok-put.ensures;
    }

pub unreachable-requires : goal.unreachable-requires
unreachable-requires g c =
    let has = c.requires.stands in
    stack_some (shape has.0) _ _ (ap (map (part_at c.args.lists.now)) (nil_from_length c.loop-place.places.items (sym c.loop-place.places.ok.0 ∙ c.in_default.ensures.cases.0)))
    (ap (map plain_keyed) (nil_from_length c.loop-place.stack.items (sym c.loop-place.stack.ok.0 ∙ c.in-None.ensures.cases.0))) (c.loop-place.invariant.trees has.0 has.1 has.2)

pub returns : goal.returns
returns g c = λ t is at loose.
    stack_end (shape t) _ _ _ _ (ap (map (part_at c.args.lists.now)) (nil_from_length c.loop-place.places.items (sym c.loop-place.places.ok.0 ∙ c.in_default.ensures.cases.0)))
    (map_one_more plain_keyed c.loop-place.stack.items c.pop-2.new.self.items c.in-Some-pop.keyed c.in-Some-pop.ensures.items) (c.loop-place.invariant.trees t is at) loose
