use Rattle.std.proofs.Common.{sym, ◌∙◌}
use Rattle.md_cotree_edit.proofs.Trees.EditedCotree.{still_sound}
use Rattle.md_tree_tests.proofs.vertex_insertions.insert_vertex.Goals as goal

pub add_vertex-requires : goal.add_vertex-requires
add_vertex-requires g c = (
  c.args.graph.now,
  c.requires.denotes,
  c.if-x-ge-NAMES.false,
  sym c.has_vertex.ensures.value ∙ c.if-has_vertex.false,
  c.are_there.ensures c.if-not-are_there.false,
  c.ascend.ensures c.if-not-ascend.false,
)

pub returns : goal.returns
returns g c =
    still_sound c.add_vertex.result c.args.cotree.now c.add_vertex.new.tree c.args.graph.now _ c.requires.denotes (c.add_vertex.ensures.done c.args.graph.now c.requires.denotes) c.add_vertex.ensures.same
