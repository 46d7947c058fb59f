use Rattle.std.proofs.Common.{◌*◌, ◌∙◌, ap₂}
use Rattle.std.specs.FinSet as set
use Rattle.md_graph.proofs.BitWords.{in_use_past, difference_of_words}
use Rattle.md_graph.proofs.names.Set.minus.Goals as goal

pub returns : goal.returns
returns g c = record {
  value =
      difference_of_words c.self.inside.words c.other.inside.words c.become_first_alone.new.words (64 * g.row.W) _ (in_use_past c.self.inside.words _ _ c.self.invariant.1 c.words_passed-used.ensures.all) c.become_first_alone.ensures.first (λ k past. c.become_first_alone.ensures.rest k past ∙ c.no_words-words.ensures.zeros k)
      ∙ ap₂ set.difference c.self.view_is c.other.view_is;
}
