use Rattle.md_graph.proofs.MemberLists.{high_bits}
use Rattle.md_graph.proofs.words.from_place.Goals as goal

pub returns : goal.returns
returns c k h = high_bits c.args.word c.args.place k c.ranges.word.fits
