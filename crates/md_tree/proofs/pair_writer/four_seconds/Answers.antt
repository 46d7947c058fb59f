use Rattle.std.proofs.Common.{◌+◌, refl, subst, arith}
use Rattle.std.proofs.lemmas.List.{get_or_read_under}
use Rattle.md_tree.specs.Positions.{IsSecond}
use Rattle.md_tree.proofs.Written.{second_is, four_written}
use Rattle.md_tree.proofs.pair_writer.four_seconds.Goals as goal

pub returns : goal.returns
returns g c =
    let rules = g.P.Paired.rules in
    let pieces = c.args.positions.now in
    let pairs = c.args.pairs.now in
    let first = c.args.start.piece in
    let low = c.args.start.first in
    let d = rules.pair 0 0 in
    let are = c.requires.positions in
    let start = c.requires.start in
    let room = c.requires.place in
    four_written rules pieces first pairs d c.in_ok-first.first c.in_ok-second.second c.in_ok-third.third c.in_ok-fourth.fourth c.args.place room
    (subst (λ p. IsSecond rules pieces first p c.in_ok-first.first) (get_or_read_under pairs c.args.place _ _ d c.index-pairs-place.is (omega arith) refl) (second_is rules pieces first low _ _ are start c.in_ok-first.ensures))
    (subst (λ p. IsSecond rules pieces first p c.in_ok-second.second) (get_or_read_under pairs (c.args.place + 1) _ _ d c.index-pairs-place-2.is (omega arith) refl) (second_is rules pieces first low _ _ are start c.in_ok-second.ensures))
    (subst (λ p. IsSecond rules pieces first p c.in_ok-third.third) (get_or_read_under pairs (c.args.place + 2) _ _ d c.index-pairs-place-3.is (omega arith) refl) (second_is rules pieces first low _ _ are start c.in_ok-third.ensures))
    (subst (λ p. IsSecond rules pieces first p c.in_ok-fourth.fourth) (get_or_read_under pairs (c.args.place + 3) _ _ d c.index-pairs-place-4.is (omega arith) refl) (second_is rules pieces first low _ _ are start c.in_ok-fourth.ensures))
