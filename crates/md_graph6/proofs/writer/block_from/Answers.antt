use Rattle.std.proofs.Common.{◌-◌, ◌+◌, ◌%◌, arith}
use Rattle.md_graph6.proofs.WriteLemmas.{low_block, two_blocks}
use Rattle.md_graph6.proofs.writer.block_from.Goals as goal

pub returns-then-first : goal.returns-then-first
returns-then-first g c = λ k h name.
    low_block c.args.names.now c.args.from (c.args.from - c.args.from % 64) (c.args.from % 64) c.block-2.result k (omega arith) (omega (arith, c.if-first.true)) c.block-2.ensures.bits

pub returns : goal.returns
returns g c = λ k h name.
    two_blocks c.args.names.now c.args.from (c.args.from - c.args.from % 64) (c.args.from - c.args.from % 64 + 64) (c.args.from % 64) c.block-2.result c.block-3.result k (omega arith) (omega arith) (omega arith) h c.block-2.type_inv c.block-2.ensures.bits c.block-3.ensures.bits
