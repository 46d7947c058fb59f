use Rattle.std.proofs.Common.{ap, sym, ◌∙◌, refl, rules}
use Rattle.md_graph.specs.PlainGraph.{PlainGraph, with_vertex, with_edges}
use Rattle.md_script.specs.Edit.{after}
use Rattle.md_script.specs.Pasts.{as_edit}
use Rattle.md_script.proofs.ChangeLemmas.{vertex_added, neighbours_are_vertices, no_own_neighbour}
use Rattle.md_script.proofs.BackLemmas.{set_listed}
use Rattle.md_script.proofs.undo.take_back.Goals as goal

pub add_edges-requires : goal.add_edges-requires
add_edges-requires g c = (
  search rules,
  (
    search rules,
    (
      vertex_added c.args.graph.now c.add_vertex.new.self c.in-AddVertex.x c.add_vertex.ensures.changed,
      (
        neighbours_are_vertices c.args.graph.now c.add_vertex.new.self (as_edit c.args.past.now) c.in-AddVertex.x _ c.in-AddVertex.neighbours (ap as_edit c.in-AddVertex.is) c.requires.applies
            (set_listed c.in-AddVertex.neighbours _ refl c.members-members.ensures.names) c.add_vertex.ensures.changed,
        no_own_neighbour c.args.graph.now (as_edit c.args.past.now) c.in-AddVertex.x _ c.in-AddVertex.neighbours (ap as_edit c.in-AddVertex.is) c.requires.applies
            (set_listed c.in-AddVertex.neighbours _ refl c.members-members.ensures.names),
      ),
    ),
  ),
)

pub returns-in-AddVertex : goal.returns-in-AddVertex
returns-in-AddVertex g c =
    c.add_edges.ensures.changed
    ∙ ap (λ (k : PlainGraph). with_edges k c.in-AddVertex.x c.in-AddVertex.neighbours) c.add_vertex.ensures.changed
    ∙ ap (with_edges (with_vertex c.args.graph.now c.in-AddVertex.x) c.in-AddVertex.x) (set_listed c.in-AddVertex.neighbours _ refl c.members-members.ensures.names)
    ∙ sym (ap (λ p. after c.args.graph.now (as_edit p)) c.in-AddVertex.is)
