use Rattle.md_graph.proofs.BitWords.{in_use_past}
use Rattle.std.proofs.Common.{refl, ◌*◌, arith}
use Rattle.md_graph.proofs.Comparing.{within_of_words, words_of_within}
use Rattle.md_graph.proofs.names.Set.is_subset.Goals as goal

pub returns : goal.returns
returns g c = record {
  exactly = (
    λ t. within_of_words c.self.inside.words c.other.inside.words (64 * g.row.W) g.row.W _ 0 0 _ _ (in_use_past c.self.inside.words _ _ c.self.invariant.1 c.words_passed.ensures.all) c.self.view_is c.other.view_is (c.are_within.ensures.0 t),
    λ f. c.are_within.ensures.1 (λ k i h. words_of_within c.self.inside.words c.other.inside.words (64 * g.row.W) g.row.W _ 0 0 _ _ (in_use_past c.self.inside.words _ _ c.self.invariant.1 c.words_passed.ensures.all) c.self.view_is c.other.view_is refl f k i (omega (arith, c.words_passed.ensures.few))),
  );
}
