use Rattle.md_graph.proofs.MemberLists.{high_bits}
use Rattle.md_blocks.proofs.blocks.bits_from.Goals as goal

pub returns : goal.returns
returns c = record { bits = λ k h. high_bits c.args.bits c.args.place k c.ranges.bits.fits }
