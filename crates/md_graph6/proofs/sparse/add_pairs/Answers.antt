use Rattle.std.proofs.Common.{◌≡◌, ◌+◌, ◌*◌, true, false, nat_le, length}
use Rattle.md_graph6.specs.Pairs.{HasPairEdges}
use Rattle.md_graph6.proofs.WalkLemmas.{at_first, at_next, pairs_more, pairs_all}
use Rattle.md_graph6.proofs.sparse.add_pairs.Goals as goal

pub loop-place-init : goal.loop-place-init
loop-place-init g c =
    let before : HasPairEdges c.args.body.now c.width-digits.result c.args.n 0 c.args.graph.now = rw c.width-digits.ensures.value c.requires.before in
    (0, at_first _ _ _ _ _ _ c.first_place-place.ensures.at c.first_place-place.ensures.shift c.first_place-place.ensures.reached, before)

pub loop-place-preserved : goal.loop-place-preserved
loop-place-preserved g c =
    let whole : nat_le (6 * c.loop-place.place.at + c.loop-place.place.shift + (c.width-digits.result + 1)) (6 * length c.args.body.now) ≡ true = cc in (
      _,
      at_next _ _ _ _ _ c.loop-place.invariant.1 whole c.pair_at-pair.ensures.vertex c.pair_at-pair.ensures.other c.behind_pair-place.ensures.shift c.behind_pair-place.ensures.place c.behind_pair-place.ensures.reached,
      pairs_more _ _ c.loop-place.invariant.1 whole c.pair_at-pair.ensures.vertex c.pair_at-pair.ensures.other c.add_pair.ensures c.loop-place.invariant.2,
    )

pub returns : goal.returns
returns g c =
    let end : nat_le (6 * c.loop-place.place.at + c.loop-place.place.shift + (c.width-digits.result + 1)) (6 * length c.args.body.now) ≡ false = cc in
    pairs_all c.loop-place.invariant.1 c.width-digits.ensures.value end c.loop-place.invariant.2
