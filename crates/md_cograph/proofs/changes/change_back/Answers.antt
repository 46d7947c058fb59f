use Rattle.std.proofs.Common.{◌≡◌, None, All, OnOk, ◌↔◌, IsErr, sym, ◌∙◌, subst}
use Rattle.std.specs.List.Sorted.{IsStrictlyIncreasing}
use Rattle.md_graph.specs.Sets.{Has}
use Rattle.md_graph.specs.NameSet.{ascending}
use Rattle.md_graph.specs.PlainGraph.{adjacent, joined_graph}
use Rattle.md_modules.specs.InducedPaths.{HasInducedPath}
use Rattle.md_cotree.specs.Cotrees.{Denotes}
use Rattle.md_script.specs.declared.edit.Edit.TheVariants.{AddEdge, DelEdge}
use Rattle.md_script.specs.Edit.{HasNames, reason_of, after}
use Rattle.md_script.specs.Pasts.{as_edit}
use Rattle.md_script.proofs.NameListLemmas.{ascending_is_list}
use Rattle.md_report.specs.Cographs.{IsCograph}
use Rattle.md_cograph.proofs.Changed.{edge_may_come, edge_may_go, vertex_may_come, vertex_may_go, done_free}
use Rattle.md_cograph.proofs.changes.change_back.Goals as goal

pub add_edge-done-requires : goal.add_edge-done-requires
add_edge-done-requires g c =
    let d = c.requires.denotes in
    let may = edge_may_come d.0 c.in-AddEdge.u c.in-AddEdge.v (subst (λ p. reason_of d.0 (as_edit p) ≡ None) c.in-AddEdge.is d.2) in
    (d.0, d.1, may.0, may.1, may.2, may.3)

pub del_edge-done-requires : goal.del_edge-done-requires
del_edge-done-requires g c =
    let d = c.requires.denotes in
    let may = edge_may_go d.0 c.in-DelEdge.u c.in-DelEdge.v (subst (λ p. reason_of d.0 (as_edit p) ≡ None) c.in-DelEdge.is d.2) in
    (d.0, d.1, may.0, may.1, may.2, may.3)

pub add_vertex-done-requires : goal.add_vertex-done-requires
add_vertex-done-requires g c =
    let d = c.requires.denotes in
    let listed = c.deref.ensures.value ∙ c.list_names.ensures.list in
    let may = vertex_may_come d.0 c.in-AddVertex.x (ascending c.in-AddVertex.neighbours) (subst (λ p. reason_of d.0 (as_edit p) ≡ None) c.in-AddVertex.is d.2) in (
      d.0,
      d.1,
      (subst (λ p. HasNames (as_edit p)) c.in-AddVertex.is c.requires.names).0,
      may.0,
      subst (All (Has d.0.vertices)) (sym listed) may.1,
      subst IsStrictlyIncreasing (sym listed) (ascending_is_list c.in-AddVertex.neighbours).increasing,
    )

pub del_vertex-requires : goal.del_vertex-requires
del_vertex-requires g c =
    let d = c.requires.denotes in
    (d.0, d.1, vertex_may_go d.0 c.in-DelVertex.x (subst (λ p. reason_of d.0 (as_edit p) ≡ None) c.in-DelVertex.is d.2))

pub returns-in-AddEdge-clause-done : goal.returns-in-AddEdge-clause-done
returns-in-AddEdge-clause-done g c = λ h den none free.
    subst (λ p. Denotes c.add_edge-done.new.tree (after h (as_edit p))) (sym c.in-AddEdge.is)
    (done_free c.add_edge-done.result (Denotes c.add_edge-done.new.tree (after h (AddEdge c.in-AddEdge.u c.in-AddEdge.v))) _ (c.add_edge-done.ensures.done h den) (c.add_edge-done.ensures.refused h den)
    (subst (λ p. IsCograph (after h (as_edit p))) c.in-AddEdge.is free))

pub returns-in-DelEdge-clause-done : goal.returns-in-DelEdge-clause-done
returns-in-DelEdge-clause-done g c = λ h den none free.
    subst (λ p. Denotes c.del_edge-done.new.tree (after h (as_edit p))) (sym c.in-DelEdge.is)
    (done_free c.del_edge-done.result (Denotes c.del_edge-done.new.tree (after h (DelEdge c.in-DelEdge.u c.in-DelEdge.v))) _ (c.del_edge-done.ensures.done h den) (c.del_edge-done.ensures.refused h den)
    (subst (λ p. IsCograph (after h (as_edit p))) c.in-DelEdge.is free))

pub returns-in-AddVertex-clause-done : goal.returns-in-AddVertex-clause-done
returns-in-AddVertex-clause-done g c = λ h den none free.
    let x = c.in-AddVertex.x in
    let list = ascending c.in-AddVertex.neighbours in
    let listed = c.deref.ensures.value ∙ c.list_names.ensures.list in
    let done : OnOk c.add_vertex-done.result (Denotes c.add_vertex-done.new.tree (joined_graph h x list)) =
    subst (λ l. OnOk c.add_vertex-done.result (Denotes c.add_vertex-done.new.tree (joined_graph h x l))) listed (c.add_vertex-done.ensures.done h den) in
    let refused : IsErr c.add_vertex-done.result ↔ HasInducedPath (adjacent (joined_graph h x list)) (joined_graph h x list).vertices =
    subst (λ l. IsErr c.add_vertex-done.result ↔ HasInducedPath (adjacent (joined_graph h x l)) (joined_graph h x l).vertices) listed (c.add_vertex-done.ensures.refused h den) in
    subst (λ p. Denotes c.add_vertex-done.new.tree (after h (as_edit p))) (sym c.in-AddVertex.is)
    (done_free c.add_vertex-done.result (Denotes c.add_vertex-done.new.tree (joined_graph h x list)) _ done refused (subst (λ p. IsCograph (after h (as_edit p))) c.in-AddVertex.is free))

pub returns-in-DelVertex-clause-done : goal.returns-in-DelVertex-clause-done
returns-in-DelVertex-clause-done g c = λ h den none free. subst (λ p. Denotes c.del_vertex.new.tree (after h (as_edit p))) (sym c.in-DelVertex.is) (c.del_vertex.ensures.done h den)
