use Rattle.std.proofs.Common.{◌*◌, get_or, bit_or, arith}
use Rattle.md_graph.proofs.BitWords.{became_rest, became_in_use, keeps_either}
use Rattle.md_graph.proofs.names.Set.set_to_difference.Goals as goal

pub invariant_of-self : goal.invariant_of-self
invariant_of-self g c = (
  (let few = c.used_if-self-inside.ensures.few in let all = c.of.invariant.0 in omega arith),
  became_in_use c.self.inside.words c.wipe.new.words c.keep_alone-any.new.words _ _ _ c.keep_alone-any.result c.self.invariant.1 c.wipe.ensures.first c.wipe.ensures.rest c.keep_alone-any.ensures.rest c.keep_alone-any.ensures.none c.used_if-self-inside.ensures.none c.used_if-self-inside.ensures.some,
  c.self.invariant.2,
)

pub returns : goal.returns
returns g c = record {
  changed =
      became_rest c.self.inside.words c.wipe.new.words c.of.inside.words c.keep_alone-any.new.words (λ k. bit_or (get_or c.first.inside.words k 0) (get_or c.second.inside.words k 0)) (64 * g.row.W) _ _ _ _ c.of.view_is (keeps_either c.first.inside.words c.second.inside.words (64 * g.row.W) _ _ c.first.view_is c.second.view_is) c.of.invariant.1 c.self.invariant.1 c.wipe.ensures.first c.wipe.ensures.rest c.keep_alone-any.ensures.first c.keep_alone-any.ensures.rest;
}
