use Rattle.std.proofs.Common.{◌*◌, ◌∙◌, ap₂}
use Rattle.std.specs.FinSet as set
use Rattle.md_graph.proofs.BitWords.{in_use_past, intersection_of_words}
use Rattle.md_graph.proofs.names.Set.and.Goals as goal

pub returns : goal.returns
returns g c = record {
  value =
      intersection_of_words c.self.inside.words c.other.inside.words c.become_both.new.words (64 * g.row.W) _ _ _ (in_use_past c.self.inside.words _ _ c.self.invariant.1 c.words_passed.ensures.all) (in_use_past c.other.inside.words _ _ c.other.invariant.1 c.words_passed-2.ensures.all) c.min-used.ensures c.become_both.ensures.first (λ k past. c.become_both.ensures.rest k past ∙ c.no_words-words.ensures.zeros k)
      ∙ ap₂ set.intersection c.self.view_is c.other.view_is;
}
