use Rattle.std.proofs.Common.{ap, ◌∙◌, rules}
use Rattle.std.specs.FinSet as set
use Rattle.md_script.proofs.ChangeLemmas.{vertex_added, neighbours_are_vertices, no_own_neighbour}
use Rattle.md_script.proofs.changes.apply.Goals as goal

pub add_edges-requires : goal.add_edges-requires
add_edges-requires g c = (
  search rules,
  (
    search rules,
    (
      vertex_added c.args.graph.now c.add_vertex.new.self c.in-AddVertex.x c.add_vertex.ensures.changed,
      (
        neighbours_are_vertices c.args.graph.now c.add_vertex.new.self c.args.edit.now c.in-AddVertex.x _ c.from_list.result c.in-AddVertex.is c.requires.applies (c.from_list.ensures.members ∙ ap set.from_list c.as_slice.ensures.list) c.add_vertex.ensures.changed,
        no_own_neighbour c.args.graph.now c.args.edit.now c.in-AddVertex.x _ c.from_list.result c.in-AddVertex.is c.requires.applies (c.from_list.ensures.members ∙ ap set.from_list c.as_slice.ensures.list),
      ),
    ),
  ),
)
