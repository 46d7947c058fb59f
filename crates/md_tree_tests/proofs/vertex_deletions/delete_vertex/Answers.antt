use Rattle.std.proofs.Common.{sym, ◌∙◌}
use Rattle.md_tree_tests.proofs.vertex_deletions.delete_vertex.Goals as goal

pub del_vertex-requires : goal.del_vertex-requires
del_vertex-requires g c = (c.args.graph.now, c.requires.denotes, sym c.has_vertex.ensures.value ∙ c.if-has_vertex.true)

pub returns-then-has_vertex : goal.returns-then-has_vertex
returns-then-has_vertex g c = let is = c.del_vertex.ensures.done c.args.graph.now c.requires.denotes in (is.0, is.1)
