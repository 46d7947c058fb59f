use Rattle.std.proofs.Common.{◌*◌, arith}
use Rattle.md_graph6.proofs.BitLemmas.{joined_window}
use Rattle.md_graph6.proofs.body.ten_groups.Goals as goal

pub returns : goal.returns
returns c =
    let body = c.args.body.now in
    let at = c.args.at in
    let one = joined_window body (6 * at) 12 _ 12 24 _ _ _ c.two_groups.ensures c.two_groups-2.ensures (omega arith) (omega arith) c.join_bits-word.ensures in
    let two = joined_window body (6 * at) 24 _ 12 36 _ _ _ one c.two_groups-3.ensures (omega arith) (omega arith) c.join_bits-word-2.ensures in
    let three = joined_window body (6 * at) 36 _ 12 48 _ _ _ two c.two_groups-4.ensures (omega arith) (omega arith) c.join_bits-word-3.ensures in
    joined_window body (6 * at) 48 _ 12 60 _ _ _ three c.two_groups-5.ensures (omega arith) (omega arith) c.join_bits.ensures
