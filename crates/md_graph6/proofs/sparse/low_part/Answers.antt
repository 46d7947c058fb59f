use Rattle.md_graph6.proofs.NumberLemmas.{low_part_is}
use Rattle.md_graph6.proofs.sparse.low_part.Goals as goal

pub returns : goal.returns
returns c = low_part_is c.args.number c.args.count c.requires
