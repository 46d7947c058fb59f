use Rattle.std.proofs.Common.{◌*◌}
use Rattle.md_graph.proofs.BitWords.{empty_of_words}
use Rattle.md_graph.proofs.names.Set.none.Goals as goal

pub returns : goal.returns
returns g c = record {
  value = empty_of_words c.no_words.result (64 * g.row.W) c.no_words.ensures.zeros;
}
