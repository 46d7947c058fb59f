use Rattle.std.proofs.Common.{◌*◌}
use Rattle.md_graph.proofs.BitWords.{in_use_past, empty_of_words, cleared}
use Rattle.md_graph.proofs.names.Set.clear.Goals as goal

pub returns : goal.returns
returns g c = record {
  changed =
      empty_of_words c.wipe.new.words (64 * g.row.W)
      (cleared c.self.inside.words c.wipe.new.words _ (in_use_past c.self.inside.words _ _ c.self.invariant.1 c.words_passed.ensures.all) c.wipe.ensures.first c.wipe.ensures.rest);
}
