use Rattle.md_graph.proofs.Ranges.{low_ones}
use Rattle.md_graph.proofs.words.below_place.Goals as goal

pub returns : goal.returns
returns c = λ k h. low_ones c.args.place k c.requires.within
