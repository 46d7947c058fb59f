use Rattle.std.proofs.Common.{arith}
use Rattle.md_graph.proofs.Ranges.{range_bit}
use Rattle.md_graph.proofs.words.bits_of_range.Goals as goal

pub returns : goal.returns
returns c = λ k h. range_bit c.args.first c.args.from c.args.to _ _ k _ _ (omega arith) (omega arith) h c.requires.some (c.below_place.ensures k h) (c.from_place.ensures k h)
