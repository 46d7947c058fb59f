use Rattle.std.proofs.Common.{refl, ◌*◌}
use Rattle.md_graph.proofs.BitWords.{block_of_word}
use Rattle.md_graph.proofs.names.Set.block.Goals as goal

pub returns : goal.returns
returns g c = record {
  bits =
      block_of_word c.self.inside.words (64 * g.row.W) g.row.W c.args.first _ c.self.view_is refl c.requires.name c.requires.aligned;
}
