use Rattle.std.proofs.Common.{◌*◌, ◌∙◌, refl, ap}
use Rattle.std.specs.FinSet as set
use Rattle.md_graph.proofs.BitWords.{in_use_past, names_in_use}
use Rattle.md_graph.proofs.names.Set.count.Goals as goal

pub returns : goal.returns
returns g c = record {
  value =
      c.count_bits.ensures
      ∙ ap set.len (names_in_use c.self.inside.words (64 * g.row.W) g.row.W _ (in_use_past c.self.inside.words _ _ c.self.invariant.1 c.words_passed.ensures.all) refl c.words_passed.ensures.few ∙ c.self.view_is);
}
