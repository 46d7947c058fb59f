use Rattle.std.proofs.Common.{arith}
use Rattle.md_modules.proofs.BlockLemmas.{low_block}
use Rattle.md_modules.proofs.compact_set.word_of.Goals as goal

pub returns : goal.returns
returns g c =
    low_block c.args.names.now c.block.result c.block.ensures.bits (λ w h. let below = c.members-members.ensures.below w h in let one = c.requires in omega arith)
