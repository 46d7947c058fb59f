use Rattle.std.proofs.Common.{arith}
use Rattle.md_blocks.proofs.BlockLemmas.{bits_count}
use Rattle.md_blocks.proofs.blocks.write_block.Goals as goal

pub write_fours-left-requires-clause-room : goal.write_fours-left-requires-clause-room
write_fours-left-requires-clause-room c = let most = bits_count c.args.first c.args.bits 64 in omega arith
