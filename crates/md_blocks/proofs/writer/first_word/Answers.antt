use Rattle.std.proofs.Common.{◌*◌, ◌/◌, ◌%◌, arith}
use Rattle.md_blocks.proofs.BlockLemmas.{word_from, past_last}
use Rattle.md_blocks.proofs.writer.first_word.Goals as goal

pub returns-then-last-from-clause-none : goal.returns-then-last-from-clause-none
returns-then-last-from-clause-none g c = past_last c.args.set.now c.args.from c.args.last c.requires.last c.if-last-from.true

pub returns-clause-members : goal.returns-clause-members
returns-clause-members g c =
    word_from c.args.set.now c.args.from (c.args.from / 64 * 64) (c.args.from % 64) c.block.result c.bits_from.result (omega arith) (omega arith) (omega arith) (omega (arith, c.requires.name, c.if-last-from.false)) c.block.ensures.bits c.bits_from.ensures.bits
