use Rattle.std.proofs.Common.{◌<◌, ◌≡◌, None, Some, length, ap, subst, sym, ◌∙◌, rules, arith}
use Rattle.std.proofs.lemmas.List.{get_or_read, length-set, length-replicate}
use Rattle.std.proofs.lemmas.Option.{none-some, same_Some}
use Rattle.std.specs.FinSet.{insert}
use Rattle.md_graph.specs.Sets.{Has}
use Rattle.md_graph.proofs.Walks.{Walked-start, Walked-item, Walked-more, Walked-map, Walked-end}
use Rattle.md_decompose.specs.Refined.{number_at, set_or_empty, set_yet_at}
use Rattle.md_decompose.proofs.RefinedLemmas.{numbered_within, number_low, none_yet_has, members_more, members_kept, member_taken}
use Rattle.md_decompose.proofs.refined.sets_of_numbers.Goals as goal

pub loop-v-init : goal.loop-v-init
loop-v-init g c =
    let e = c.in_ok-sets.ensures in
    record {
      len = ap length e ∙ length-replicate c.args.count None;
      members = λ k v h. absurd (none_yet_has c.args.count k v (subst (λ xs. Has (set_yet_at xs k) v) e h));
      walked = Walked-start (c.into_iter-v-iterator.ensures.into_iter_gives ∙ c.members-v-items.ensures.list) c.members-v-items.ensures.names;
    }

pub index-requires : goal.index-requires
index-requires g c =
    let within = numbered_within c.args.rest.now c.args.numbers.now.items c.args.count c.requires c.in-Some.v (Walked-item c.loop-v.invariant.walked c.in-Some.v _ c.in-Some.ensures.steps) in
    let long = c.args.numbers.now.ok.0 in
    omega arith

pub unreachable-requires : goal.unreachable-requires
unreachable-requires g c =
    let known = c.requires.known c.in-Some.v (Walked-item c.loop-v.invariant.walked c.in-Some.v _ c.in-Some.ensures.steps) in
    let within = numbered_within c.args.rest.now c.args.numbers.now.items c.args.count c.requires c.in-Some.v (Walked-item c.loop-v.invariant.walked c.in-Some.v _ c.in-Some.ensures.steps) in
    let read = get_or_read c.args.numbers.now.items c.in-Some.v c.index.result.now (omega arith) c.index.ensures None in
    none-some known.0 (sym c.in_default.is ∙ read ∙ known.1)

pub index_mut-requires : goal.index_mut-requires
index_mut-requires g c =
    let member = Walked-item c.loop-v.invariant.walked c.in-Some.v _ c.in-Some.ensures.steps in
    let within = numbered_within c.args.rest.now c.args.numbers.now.items c.args.count c.requires c.in-Some.v (Walked-item c.loop-v.invariant.walked c.in-Some.v _ c.in-Some.ensures.steps) in
    let read = get_or_read c.args.numbers.now.items c.in-Some.v c.index.result.now (omega arith) c.index.ensures None in
    let below = number_low c.args.rest.now c.args.numbers.now.items c.args.count c.requires c.in-Some.v c.in-Some-index.number member (sym read ∙ c.in-Some-index.is) in
    let all = c.loop-v.invariant.len in
    omega arith

pub take_in-requires : goal.take_in-requires
take_in-requires g c =
    (search rules, (c.members-v-items.ensures.below _ (Walked-item c.loop-v.invariant.walked c.in-Some.v _ c.in-Some.ensures.steps), c.within_limit.ensures.limit))

pub loop-v-preserved : goal.loop-v-preserved
loop-v-preserved g c =
    let i = c.loop-v.invariant in
    let v = c.in-Some.v in
    let n = c.in-Some-index.number in
    let sets = c.loop-v.sets.items in
    let o = c.take_in.new.set in
    let member = Walked-item i.walked v _ c.in-Some.ensures.steps in
    let numbered = numbered_within c.args.rest.now c.args.numbers.now.items c.args.count c.requires v member in
    let read = get_or_read c.args.numbers.now.items v c.index.result.now (omega arith) c.index.ensures None in
    let number : number_at c.args.numbers.now.items v ≡ Some n = sym read ∙ c.in-Some-index.is in
    let below = number_low c.args.rest.now c.args.numbers.now.items c.args.count c.requires v n member number in
    let all = i.len in
    let within : n < length sets = omega arith in
    let was = get_or_read sets n c.index_mut.result.now within c.index_mut.ensures.value None in
    let taken : set_or_empty o ≡ insert (set_yet_at sets n) v = c.in_ok-take_in.ensures.taken ∙ ap (λ s. insert (set_or_empty s) v) was in
    record {
      len = length-set sets n o ∙ i.len;
      members = members_more c.args.rest.now c.args.numbers.now.items sets n v o within taken i.members member number;
      walked = Walked-more (Walked-map i.walked (λ w done k is. members_kept c.args.rest.now c.args.numbers.now.items sets n v o within taken k w (done k is))) v _ c.in-Some.ensures.steps
          (λ k is. member_taken c.args.rest.now c.args.numbers.now.items sets n v o within taken k (same_Some n k (sym number ∙ is)));
    }

pub returns-clause-cover : goal.returns-clause-cover
returns-clause-cover g c = λ k v member number. Walked-end c.loop-v.invariant.walked _ c.in-None.ensures.steps v member k number
