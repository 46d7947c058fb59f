use Rattle.std.proofs.Common.{◌∷◌, [], ◌++◌, subst, ap, length, length-append, sym, ◌∙◌, arith}
use Rattle.std.proofs.lemmas.List.{nil_from_length}
use Rattle.md_cotree.specs.Orders.{AllLive}
use Rattle.md_cotree.proofs.Emitting.{emission_begin, emission_live, emission_more, emission_few, emission_end, live_push}
use Rattle.md_cotree.proofs.ordering.places.Goals as goal

pub loop-place-init : goal.loop-place-init
loop-place-init g c = record {
  trees = λ t is at.
      emission_begin c.args.lists.now t c.args.root _ _ is at c.new-places.ensures.items (c.in_ok-push.ensures.items ∙ ap (λ xs. xs ++ c.args.root ∷ []) c.new-waiting.ensures.items);
  live = subst (AllLive c.args.lists.now) (sym c.new-places.ensures.items) tt;
}

pub push_below-requires-clause-live : goal.push_below-requires-clause-live
push_below-requires-clause-live g c =
    let has = c.requires.stands in
    emission_live c.args.lists.now has.0 _ _ _ c.in-Some.place c.in-Some.ensures.items (c.loop-place.invariant.trees has.0 has.1 has.2)

pub loop-place-preserved : goal.loop-place-preserved
loop-place-preserved g c = record {
  trees = λ t is at.
      emission_more c.args.lists.now t _ _ _ c.in-Some.place c.in-Some.ensures.items (c.loop-place.invariant.trees t is at) _ _ c.in_ok-push-2.ensures.items c.in_ok-push_below.ensures;
  live =
      let has = c.requires.stands in
      live_push c.args.lists.now c.loop-place.places.items _ c.in-Some.place c.in_ok-push-2.ensures.items c.loop-place.invariant.live
      (emission_live c.args.lists.now has.0 _ _ _ c.in-Some.place c.in-Some.ensures.items (c.loop-place.invariant.trees has.0 has.1 has.2));
}

pub loop-place-smaller : goal.loop-place-smaller
loop-place-smaller g c =
    let has = c.requires.stands in
    let so = emission_more c.args.lists.now has.0 _ _ _ c.in-Some.place c.in-Some.ensures.items (c.loop-place.invariant.trees has.0 has.1 has.2) _ _ c.in_ok-push-2.ensures.items c.in_ok-push_below.ensures in
    let low = emission_few c.args.lists.now has.0 _ _ has.3 so in
    let more = ap length c.in_ok-push-2.ensures.items in
    let all = length-append c.loop-place.places.items (c.in-Some.place ∷ []) in
    omega arith

pub returns : goal.returns
returns g c = record {
  parts = λ t is at.
      emission_end c.args.lists.now t _ c.loop-place.waiting.items (nil_from_length c.loop-place.waiting.items (sym c.loop-place.waiting.ok.0 ∙ c.in_default.ensures.cases.0))
      (c.loop-place.invariant.trees t is at);
  live = c.loop-place.invariant.live;
}
