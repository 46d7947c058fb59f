use Rattle.std.specs.Int.{w64}
use Rattle.std.proofs.lemmas.Nat.Bits.{bit_at-trailing_zeros}
use Rattle.std.proofs.Common.{arith}
use Rattle.md_graph.proofs.MemberLists.{lowest_of_word}
use Rattle.md_graph.proofs.words.lowest.Goals as goal

pub returns : goal.returns
returns c = record {
  place = (bit_at-trailing_zeros w64 c.args.bits (omega arith) c.ranges.bits.fits).0;
  rest = λ first. lowest_of_word c.args.bits first c.ranges.bits.fits c.requires.some;
}
