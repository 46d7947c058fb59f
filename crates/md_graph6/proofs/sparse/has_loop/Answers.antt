use Rattle.std.proofs.Common.{◌≡◌, ◌+◌, ◌*◌, ◌==◌, ◌&&◌, true, false, nat_lt, nat_le, length, sym, arith}
use Rattle.md_graph6.proofs.WalkLemmas.{at_first, at_next, no_loop_yet, no_loop_more, loop_found, loop_absent, loop_small}
use Rattle.md_graph6.proofs.sparse.has_loop.Goals as goal

pub returns-then-n-lt2 : goal.returns-then-n-lt2
returns-then-n-lt2 c = sym (loop_small c.args.body.now c.args.n (omega arith))

pub loop-place-init : goal.loop-place-init
loop-place-init c =
    (0, at_first _ _ _ _ _ _ c.first_place-place.ensures.at c.first_place-place.ensures.shift c.first_place-place.ensures.reached, no_loop_yet _ _ _)

pub returns-then-is_loop : goal.returns-then-is_loop
returns-then-is_loop c =
    let whole : nat_le (6 * c.loop-place.place.at + c.loop-place.place.shift + (c.width-digits.result + 1)) (6 * length c.args.body.now) ≡ true = cc in
    let found : ((c.pair_at-pair.result.other == c.pair_at-pair.result.vertex) && nat_lt c.pair_at-pair.result.vertex c.args.n) ≡ true = cc in
    sym (loop_found _ _ c.loop-place.invariant.1 c.width-digits.ensures.value (omega arith) whole c.pair_at-pair.ensures.vertex c.pair_at-pair.ensures.other found)

pub loop-place-preserved : goal.loop-place-preserved
loop-place-preserved c =
    let whole : nat_le (6 * c.loop-place.place.at + c.loop-place.place.shift + (c.width-digits.result + 1)) (6 * length c.args.body.now) ≡ true = cc in
    let none : ((c.pair_at-pair.result.other == c.pair_at-pair.result.vertex) && nat_lt c.pair_at-pair.result.vertex c.args.n) ≡ false = cc in (
      _,
      at_next _ _ _ _ _ c.loop-place.invariant.1 whole c.pair_at-pair.ensures.vertex c.pair_at-pair.ensures.other c.behind_pair-place.ensures.shift c.behind_pair-place.ensures.place c.behind_pair-place.ensures.reached,
      no_loop_more _ _ c.loop-place.invariant.1 c.pair_at-pair.ensures.vertex c.pair_at-pair.ensures.other none c.loop-place.invariant.2,
    )

pub returns : goal.returns
returns c =
    let end : nat_le (6 * c.loop-place.place.at + c.loop-place.place.shift + (c.width-digits.result + 1)) (6 * length c.args.body.now) ≡ false = cc in
    sym (loop_absent c.loop-place.invariant.1 c.width-digits.ensures.value end c.loop-place.invariant.2)
