use Rattle.md_graph.proofs.BitWords.{in_use_past}
use Rattle.std.proofs.Common.{refl, ◌*◌, arith}
use Rattle.md_graph.proofs.Comparing.{same_of_words, words_of_same}
use Rattle.md_graph.proofs.names.Set.is_same.Goals as goal

pub returns : goal.returns
returns g c = record {
  exactly = (
    λ t. same_of_words c.self.inside.words c.other.inside.words (64 * g.row.W) g.row.W _ _ _ _ _ (in_use_past c.self.inside.words _ _ c.self.invariant.1 c.words_passed.ensures.all) c.self.view_is c.other.view_is (in_use_past c.other.inside.words _ _ c.other.invariant.1 c.words_passed-2.ensures.all) c.max-used.ensures (c.are_equal.ensures.0 t),
    λ e. c.are_equal.ensures.1 (λ k i h. words_of_same c.self.inside.words c.other.inside.words (64 * g.row.W) g.row.W _ 0 0 _ _ (in_use_past c.self.inside.words _ _ c.self.invariant.1 c.words_passed.ensures.all) c.self.view_is c.other.view_is refl e k i (omega (arith, c.words_passed.ensures.few, c.words_passed-2.ensures.few, c.max-used.ensures))),
  );
}
