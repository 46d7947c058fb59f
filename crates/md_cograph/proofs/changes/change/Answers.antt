use Rattle.std.proofs.Common.{◌≡◌, None, All, OnOk, ◌↔◌, IsErr, sym, subst}
use Rattle.std.specs.List.Sorted.{IsStrictlyIncreasing}
use Rattle.md_graph.specs.Sets.{Has}
use Rattle.md_graph.specs.PlainGraph.{adjacent, joined_graph}
use Rattle.md_modules.specs.InducedPaths.{HasInducedPath}
use Rattle.md_cotree.specs.Cotrees.{Denotes}
use Rattle.md_script.specs.declared.edit.Edit.TheVariants.{AddEdge, DelEdge, AddVertex}
use Rattle.md_script.specs.Edit.{HasNames, reason_of, after}
use Rattle.md_cograph.proofs.Changed.{edge_may_come, edge_may_go, vertex_may_come, vertex_may_go, done_by, refused_by}
use Rattle.md_cograph.proofs.changes.change.Goals as goal

pub add_edge-requires : goal.add_edge-requires
add_edge-requires g c =
    let d = c.requires.denotes in
    let may = edge_may_come d.0 c.in-AddEdge.u c.in-AddEdge.v (subst (λ e. reason_of d.0 e ≡ None) c.in-AddEdge.is d.2) in
    (d.0, d.1, may.0, may.1, may.2, may.3)

pub del_edge-requires : goal.del_edge-requires
del_edge-requires g c =
    let d = c.requires.denotes in
    let may = edge_may_go d.0 c.in-DelEdge.u c.in-DelEdge.v (subst (λ e. reason_of d.0 e ≡ None) c.in-DelEdge.is d.2) in
    (d.0, d.1, may.0, may.1, may.2, may.3)

pub add_vertex-requires : goal.add_vertex-requires
add_vertex-requires g c =
    let d = c.requires.denotes in
    let may = vertex_may_come d.0 c.in-AddVertex.x c.in-AddVertex.neighbours (subst (λ e. reason_of d.0 e ≡ None) c.in-AddVertex.is d.2) in (
      d.0,
      d.1,
      (subst HasNames c.in-AddVertex.is c.requires.names).0,
      may.0,
      subst (All (Has d.0.vertices)) (sym c.as_slice.ensures.list) may.1,
      subst IsStrictlyIncreasing (sym c.as_slice.ensures.list) c.as_slice.ensures.names.increasing,
    )

pub del_vertex-requires : goal.del_vertex-requires
del_vertex-requires g c =
    let d = c.requires.denotes in
    (d.0, d.1, vertex_may_go d.0 c.in-DelVertex.x (subst (λ e. reason_of d.0 e ≡ None) c.in-DelVertex.is d.2))

pub returns-in-AddEdge-clause-done : goal.returns-in-AddEdge-clause-done
returns-in-AddEdge-clause-done g c = λ h den none.
    done_by c.args.edit.now (AddEdge c.in-AddEdge.u c.in-AddEdge.v) c.in-AddEdge.is c.add_edge.result c.is_ok.result c.is_ok.ensures.value h c.add_edge.new.tree (c.add_edge.ensures.done h den)

pub returns-in-AddEdge-clause-refused : goal.returns-in-AddEdge-clause-refused
returns-in-AddEdge-clause-refused g c = λ h den none.
    refused_by c.args.edit.now (AddEdge c.in-AddEdge.u c.in-AddEdge.v) c.in-AddEdge.is c.add_edge.result c.is_ok.result c.is_ok.ensures.value h (c.add_edge.ensures.refused h den)

pub returns-in-DelEdge-clause-done : goal.returns-in-DelEdge-clause-done
returns-in-DelEdge-clause-done g c = λ h den none.
    done_by c.args.edit.now (DelEdge c.in-DelEdge.u c.in-DelEdge.v) c.in-DelEdge.is c.del_edge.result c.is_ok-in-DelEdge.result c.is_ok-in-DelEdge.ensures.value h c.del_edge.new.tree
    (c.del_edge.ensures.done h den)

pub returns-in-DelEdge-clause-refused : goal.returns-in-DelEdge-clause-refused
returns-in-DelEdge-clause-refused g c = λ h den none.
    refused_by c.args.edit.now (DelEdge c.in-DelEdge.u c.in-DelEdge.v) c.in-DelEdge.is c.del_edge.result c.is_ok-in-DelEdge.result c.is_ok-in-DelEdge.ensures.value h (c.del_edge.ensures.refused h den)

pub returns-in-AddVertex-clause-done : goal.returns-in-AddVertex-clause-done
returns-in-AddVertex-clause-done g c = λ h den none.
    done_by c.args.edit.now (AddVertex c.in-AddVertex.x c.in-AddVertex.neighbours) c.in-AddVertex.is c.add_vertex.result c.is_ok-in-AddVertex.result c.is_ok-in-AddVertex.ensures.value h c.add_vertex.new.tree
    (subst (λ l. OnOk c.add_vertex.result (Denotes c.add_vertex.new.tree (joined_graph h c.in-AddVertex.x l))) c.as_slice.ensures.list (c.add_vertex.ensures.done h den))

pub returns-in-AddVertex-clause-refused : goal.returns-in-AddVertex-clause-refused
returns-in-AddVertex-clause-refused g c = λ h den none.
    refused_by c.args.edit.now (AddVertex c.in-AddVertex.x c.in-AddVertex.neighbours) c.in-AddVertex.is c.add_vertex.result c.is_ok-in-AddVertex.result c.is_ok-in-AddVertex.ensures.value h
    (subst (λ l. IsErr c.add_vertex.result ↔ HasInducedPath (adjacent (joined_graph h c.in-AddVertex.x l)) (joined_graph h c.in-AddVertex.x l).vertices) c.as_slice.ensures.list (c.add_vertex.ensures.refused h den))

pub returns-in-DelVertex-clause-done : goal.returns-in-DelVertex-clause-done
returns-in-DelVertex-clause-done g c = λ h den none done.
    subst (λ e. Denotes c.del_vertex.new.tree (after h e)) (sym c.in-DelVertex.is) (c.del_vertex.ensures.done h den)
