use Rattle.std.proofs.Common.{refl, ◌*◌, ◌∙◌, sym, arith}
use Rattle.md_graph.proofs.BitWords.{in_use_past, empty_of_bits, bits_of_empty}
use Rattle.md_graph.proofs.names.Set.is_empty.Goals as goal

pub returns : goal.returns
returns g c = record {
  exactly = (
    λ t. sym c.self.view_is ∙ empty_of_bits c.self.inside.words (64 * g.row.W) _ (in_use_past c.self.inside.words _ _ c.self.invariant.1 c.words_passed.ensures.all) (c.are_all_zero.ensures.0 t),
    λ e. c.are_all_zero.ensures.1 (λ k i h. bits_of_empty c.self.inside.words (64 * g.row.W) g.row.W refl (c.self.view_is ∙ e) k i (omega arith)),
  );
}
