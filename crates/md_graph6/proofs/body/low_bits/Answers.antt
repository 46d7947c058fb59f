use Rattle.md_graph6.proofs.BitLemmas.{low_bits_at}
use Rattle.md_graph6.proofs.body.low_bits.Goals as goal

pub returns-then-count-lt64 : goal.returns-then-count-lt64
returns-then-count-lt64 c = λ k h. low_bits_at c.args.bits c.args.count k c.if-count-lt64.true
