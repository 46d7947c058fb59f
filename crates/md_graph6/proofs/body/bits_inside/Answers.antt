use Rattle.std.proofs.Common.{◌*◌, ◌+◌, arith}
use Rattle.md_graph6.proofs.BitLemmas.{shifted_window}
use Rattle.md_graph6.proofs.body.bits_inside.Goals as goal

pub returns : goal.returns
returns c = λ k h.
    shifted_window c.args.body.now (6 * c.args.at) (6 * (c.args.at + 10)) _ _ c.args.shift k c.ten_groups-first.ensures c.two_groups-second.ensures (omega arith) c.requires.shift h
