use Rattle.std.proofs.Common.{◌+◌, ◌*◌, arith}
use Rattle.md_digraph6.proofs.ArcFill.{row_cut}
use Rattle.md_digraph6.proofs.body.row_bits.Goals as goal

pub returns : goal.returns
returns c = λ k h.
    row_cut c.args.body.now c.args.n c.args.i c.args.low (c.args.i * c.args.n + c.args.low) c.bits_from.result c.low_bits.result k c.requires.column (omega arith) (c.bits_from.ensures k h) (c.low_bits.ensures k h)
