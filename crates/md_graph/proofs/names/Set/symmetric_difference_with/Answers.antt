use Rattle.std.proofs.Common.{◌*◌}
use Rattle.md_graph.proofs.BitWords.{in_use_past, flipped_words}
use Rattle.md_graph.proofs.names.Set.symmetric_difference_with.Goals as goal

pub returns : goal.returns
returns g c = record {
  changed =
      flipped_words c.self.inside.words c.other.inside.words _ (64 * g.row.W) _ _ _ c.self.view_is c.other.view_is (in_use_past c.other.inside.words _ _ c.other.invariant.1 c.words_passed-used.ensures.all) c.flip_bits.ensures.first c.flip_bits.ensures.rest;
}
