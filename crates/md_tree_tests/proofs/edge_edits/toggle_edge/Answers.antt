use Rattle.std.proofs.Common.{sym, ◌∙◌}
use Rattle.md_cotree_edit.proofs.Trees.EditedCotree.{still_sound}
use Rattle.md_tree_tests.proofs.edge_edits.toggle_edge.Goals as goal

pub del_edge-requires : goal.del_edge-requires
del_edge-requires g c = (
  c.args.graph.now,
  c.requires.denotes,
  sym c.has_vertex.ensures.value ∙ c.if-not-has_vertex.false,
  sym c.has_vertex-else-not-has_vertex.ensures.value ∙ c.if-not-has_vertex-2.false,
  c.if-u-v.false,
  sym c.has_edge.ensures.value ∙ c.if-has_edge.true,
)

pub returns-then-has_edge : goal.returns-then-has_edge
returns-then-has_edge g c =
    still_sound c.del_edge.result c.args.cotree.now c.del_edge.new.tree c.args.graph.now _ c.requires.denotes (c.del_edge.ensures.done c.args.graph.now c.requires.denotes) c.del_edge.ensures.same

pub add_edge-requires : goal.add_edge-requires
add_edge-requires g c = (
  c.args.graph.now,
  c.requires.denotes,
  sym c.has_vertex.ensures.value ∙ c.if-not-has_vertex.false,
  sym c.has_vertex-else-not-has_vertex.ensures.value ∙ c.if-not-has_vertex-2.false,
  c.if-u-v.false,
  sym c.has_edge.ensures.value ∙ c.if-has_edge.false,
)

pub returns : goal.returns
returns g c =
    still_sound c.add_edge.result c.args.cotree.now c.add_edge.new.tree c.args.graph.now _ c.requires.denotes (c.add_edge.ensures.done c.args.graph.now c.requires.denotes) c.add_edge.ensures.same
