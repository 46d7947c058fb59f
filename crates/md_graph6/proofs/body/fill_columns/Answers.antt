use Rattle.std.proofs.Common.{arith, rules}
use Rattle.md_graph6.proofs.FillLemmas.{block_ends, filled_more, filled_columns}
use Rattle.md_graph6.proofs.body.fill_columns.Goals as goal

pub add_block-requires : goal.add_block-requires
add_block-requires g c =
    (search rules, (omega (arith, c.requires.inside), (omega arith, (omega (arith, c.requires.inside), (omega arith, block_ends c.args.body.now c.args.n c.loop-l.l c.args.h c.block_bits-block.result c.block_bits-block.ensures c.loop-l.invariant)))))

pub loop-l-preserved : goal.loop-l-preserved
loop-l-preserved g c = filled_more c.args.body.now c.args.n c.loop-l.l c.args.h c.block_bits-block.result c.block_bits-block.ensures c.loop-l.invariant c.add_block.ensures.block

pub returns : goal.returns
returns g c = filled_columns c.args.body.now c.args.n c.args.h c.loop-l.l (omega arith) c.loop-l.invariant
