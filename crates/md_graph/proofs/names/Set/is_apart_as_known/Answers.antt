use Rattle.std.proofs.Common.{refl, ◌*◌, arith}
use Rattle.md_graph.proofs.BitWords.{in_use_past}
use Rattle.md_graph.proofs.Covering.{within_either, words_of_either}
use Rattle.md_graph.proofs.names.Set.is_apart_as_known.Goals as goal

pub returns : goal.returns
returns g c = record {
  exactly = (
    λ t. (
      within_either c.self.inside.words c.other.inside.words c.known.inside.words (64 * g.row.W) g.row.W _ _ _ _ c.self.view_is c.other.view_is c.known.view_is (in_use_past c.self.inside.words _ _ c.self.invariant.1 (omega (arith, c.words_passed.ensures.all, c.max.ensures))) (λ k h. (c.are_apart_as_known.ensures.0 t k h).0),
      within_either c.other.inside.words c.self.inside.words c.other_known.inside.words (64 * g.row.W) g.row.W _ _ _ _ c.other.view_is c.self.view_is c.other_known.view_is (in_use_past c.other.inside.words _ _ c.other.invariant.1 (omega (arith, c.words_passed-2.ensures.all, c.max.ensures))) (λ k h. (c.are_apart_as_known.ensures.0 t k h).1),
    ),
    λ f. c.are_apart_as_known.ensures.1 (λ k h. (
      words_of_either c.self.inside.words c.other.inside.words c.known.inside.words (64 * g.row.W) g.row.W 0 _ _ _ c.self.view_is c.other.view_is c.known.view_is refl f.0 k (omega (arith, c.words_passed.ensures.few, c.words_passed-2.ensures.few, c.max.ensures)),
      words_of_either c.other.inside.words c.self.inside.words c.other_known.inside.words (64 * g.row.W) g.row.W 0 _ _ _ c.other.view_is c.self.view_is c.other_known.view_is refl f.1 k (omega (arith, c.words_passed.ensures.few, c.words_passed-2.ensures.few, c.max.ensures)),
    )),
  );
}
