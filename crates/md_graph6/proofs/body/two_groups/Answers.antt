use Rattle.std.proofs.Common.{◌*◌, ◌+◌, arith}
use Rattle.md_graph6.proofs.BitLemmas.{joined_window, read_group}
use Rattle.md_graph6.proofs.body.two_groups.Goals as goal

pub returns : goal.returns
returns c =
    let body = c.args.body.now in
    let at = c.args.at in
    let first = read_group body at _ (omega arith) c.bits_of.ensures.below c.bits_of.ensures.bits in
    let second = read_group body (at + 1) _ (omega arith) c.bits_of-2.ensures.below c.bits_of-2.ensures.bits in
    joined_window body (6 * at) 6 (6 * (at + 1)) 6 12 _ _ _ first second (omega arith) (omega arith) c.join_bits.ensures
