use Rattle.std.proofs.Common.{◌*◌, get_or}
use Rattle.md_graph.proofs.BitWords.{in_use_past, rest_of_moved, moved_to, keeps_words}
use Rattle.md_graph.proofs.names.Set.move_shared.Goals as goal

pub returns-clause-rest : goal.returns-clause-rest
returns-clause-rest g c =
    rest_of_moved c.self.inside.words c.move_both.new.words (λ k. get_or c.row.inside.words k 0) (64 * g.row.W) _ _ _ c.self.view_is (keeps_words c.row.inside.words (64 * g.row.W) _ c.row.view_is) (in_use_past c.self.inside.words _ _ c.self.invariant.1 c.words_passed-used.ensures.all) c.move_both.ensures.first c.move_both.ensures.rest

pub returns-clause-moved : goal.returns-clause-moved
returns-clause-moved g c =
    moved_to c.self.inside.words c.to.inside.words c.move_both.new.to (λ k. get_or c.row.inside.words k 0) (64 * g.row.W) _ _ _ _ c.self.view_is (keeps_words c.row.inside.words (64 * g.row.W) _ c.row.view_is) c.to.view_is (in_use_past c.self.inside.words _ _ c.self.invariant.1 c.words_passed-used.ensures.all) c.move_both.ensures.moved c.move_both.ensures.others
