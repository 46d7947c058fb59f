use Rattle.std.proofs.Common.{[], ◌∷◌, map, length, length-append, sym, ◌∙◌, ap, arith}
use Rattle.std.proofs.lemmas.List.{nil_from_length}
use Rattle.md_lists.proofs.Limits.{PLACES-lt}
use Rattle.md_cotree.specs.PlaceTrees.{shape}
use Rattle.md_cotree.specs.Entries.{table_trees, entry_keyed, stack_outline}
use Rattle.md_cotree.specs.Orders.{part_at}
use Rattle.md_tree.proofs.Stacking.{map_one_more, if_ok}
use Rattle.md_cotree.proofs.Emitting.{live_pop}
use Rattle.md_cotree.proofs.EntryTrees.{few_begin, put_long, entries_begin, entries_below, put_trees, told_outline}
use Rattle.md_cotree.proofs.Stacked.{stack_begin, stack_below, stack_more}
use Rattle.md_cotree.proofs.outline.outline_at.Goals as goal

pub loop-place-init : goal.loop-place-init
loop-place-init g c = record {
  live = c.in_ok-places.ensures.live;
  entries = entries_begin _ _ c.in_ok-table.ensures.items c.new-stack.ensures.items;
  few = few_begin c.args.lists.now c.args.root _ _ _ c.in_ok-table.ensures.items c.new-stack.ensures.items c.requires.stands c.in_ok-places.ensures.parts;
  trees = λ t is at. stack_begin (shape t) _ _ (c.in_ok-places.ensures.parts t is at) (ap (map (entry_keyed (table_trees c.in_ok-table.table.items))) c.new-stack.ensures.items);
}

pub put_entry-requires-clause-live : goal.put_entry-requires-clause-live
put_entry-requires-clause-live g c =
    (live_pop c.args.lists.now c.pop.new.self.items c.loop-place.places.items c.in-Some.place c.in-Some.ensures.items c.loop-place.invariant.live).0

pub put_entry-requires-clause-below : goal.put_entry-requires-clause-below
put_entry-requires-clause-below g c =
    let has = c.requires.stands in
    let last = map_one_more (part_at c.args.lists.now) c.loop-place.places.items c.pop.new.self.items c.in-Some.place c.in-Some.ensures.items in
    entries_below _ _ (part_at c.args.lists.now c.in-Some.place) (stack_below (shape has.0) _ _ _ (c.loop-place.invariant.trees has.0 has.1 has.2) _ _ last has.4)

pub put_entry-requires-clause-room : goal.put_entry-requires-clause-room
put_entry-requires-clause-room g c = let few = c.loop-place.invariant.few in let fit = PLACES-lt in omega arith

pub loop-place-preserved : goal.loop-place-preserved
loop-place-preserved g c =
    let has = c.requires.stands in
    let last = map_one_more (part_at c.args.lists.now) c.loop-place.places.items c.pop.new.self.items c.in-Some.place c.in-Some.ensures.items in
    let below = entries_below _ _ (part_at c.args.lists.now c.in-Some.place) (stack_below (shape has.0) _ _ _ (c.loop-place.invariant.trees has.0 has.1 has.2) _ _ last has.4) in
    let put = put_trees c.loop-place.table.items c.loop-place.stack.items c.loop-place.invariant.entries (part_at c.args.lists.now c.in-Some.place) c.put_entry.new.stack.items c.put_entry.new.table.items below c.in_ok-put_entry.ensures in
    record {
      live = (live_pop c.args.lists.now c.pop.new.self.items c.loop-place.places.items c.in-Some.place c.in-Some.ensures.items c.loop-place.invariant.live).1;
      entries = put.0;
      few =
          let long = put_long c.loop-place.table.items c.loop-place.stack.items (part_at c.args.lists.now c.in-Some.place) c.put_entry.new.stack.items c.put_entry.new.table.items below c.in_ok-put_entry.ensures in
          let pop = ap length c.in-Some.ensures.items in
          let all = length-append c.pop.new.self.items (c.in-Some.place ∷ []) in
          let few = c.loop-place.invariant.few in
          omega arith;
      trees = λ t is at. stack_more (shape t) _ _ _ (c.loop-place.invariant.trees t is at) _ _ last _ put.1;
    }

pub returns : goal.returns
returns g c =
    if_ok c.outline_of_stack.result
    (λ parts is.
    told_outline c.args.lists.now c.args.root c.loop-place.table.items c.loop-place.stack.items parts.items _
    (ap (map (part_at c.args.lists.now)) (nil_from_length c.loop-place.places.items (sym c.loop-place.places.ok.0 ∙ c.in_default.ensures.cases.0)))
    c.requires.stands c.loop-place.invariant.trees (is ∙ ap (λ l. stack_outline (table_trees l) c.loop-place.stack.items) c.deref.ensures.value))
    c.outline_of_stack.ensures
