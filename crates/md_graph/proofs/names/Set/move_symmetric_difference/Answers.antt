use Rattle.std.proofs.Common.{◌*◌, get_or, bit_xor}
use Rattle.md_graph.proofs.BitWords.{in_use_past, rest_of_moved, moved_to, keeps_apart}
use Rattle.md_graph.proofs.names.Set.move_symmetric_difference.Goals as goal

pub returns-clause-rest : goal.returns-clause-rest
returns-clause-rest g c =
    rest_of_moved c.self.inside.words c.move_apart.new.words (λ k. bit_xor (get_or c.first.inside.words k 0) (get_or c.second.inside.words k 0)) (64 * g.row.W) _ _ _ c.self.view_is (keeps_apart c.first.inside.words c.second.inside.words (64 * g.row.W) _ _ c.first.view_is c.second.view_is) (in_use_past c.self.inside.words _ _ c.self.invariant.1 c.words_passed-used.ensures.all) c.move_apart.ensures.first c.move_apart.ensures.rest

pub returns-clause-moved : goal.returns-clause-moved
returns-clause-moved g c =
    moved_to c.self.inside.words c.to.inside.words c.move_apart.new.to (λ k. bit_xor (get_or c.first.inside.words k 0) (get_or c.second.inside.words k 0)) (64 * g.row.W) _ _ _ _ c.self.view_is (keeps_apart c.first.inside.words c.second.inside.words (64 * g.row.W) _ _ c.first.view_is c.second.view_is) c.to.view_is (in_use_past c.self.inside.words _ _ c.self.invariant.1 c.words_passed-used.ensures.all) c.move_apart.ensures.moved c.move_apart.ensures.others
