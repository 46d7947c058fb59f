use Rattle.std.proofs.Common.{◌*◌, arith}
use Rattle.md_digraph6.proofs.ArcFill.{row_none, row_more, row_whole}
use Rattle.md_digraph6.proofs.body.arc_row.Goals as goal

pub loop-w-init : goal.loop-w-init
loop-w-init g c = row_none c.args.body.now c.args.n c.args.i c.none-row.result c.none-row.ensures.value

pub loop-w-preserved : goal.loop-w-preserved
loop-w-preserved g c =
    row_more c.args.body.now c.args.n c.args.i c.loop-w.w c.row_bits.result c.loop-w.row c.insert_block.new.self c.insert_block.ensures.changed c.row_bits.ensures c.loop-w.invariant

pub returns : goal.returns
returns g c = row_whole c.args.body.now c.args.n c.args.i (64 * c.loop-w.w) c.loop-w.row (omega arith) c.loop-w.invariant
