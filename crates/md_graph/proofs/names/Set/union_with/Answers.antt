use Rattle.std.proofs.Common.{◌*◌, ◌∙◌, ap₂}
use Rattle.std.specs.FinSet as set
use Rattle.md_graph.proofs.BitWords.{in_use_past, taken_in_words}
use Rattle.md_graph.proofs.names.Set.union_with.Goals as goal

pub returns : goal.returns
returns g c = record {
  changed =
      taken_in_words c.self.inside.words c.other.inside.words _ (64 * g.row.W) _ (in_use_past c.other.inside.words _ _ c.other.invariant.1 c.words_passed-used.ensures.all) c.join_in.ensures.first c.join_in.ensures.rest
      ∙ ap₂ set.union c.self.view_is c.other.view_is;
}
