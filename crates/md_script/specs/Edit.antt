-- Edits: which of them can be applied to a graph, and the graph that each gives.
-- Source: the plain changes of the sets of vertices and edges; the reasons are this project's.
use Rattle.std.specs.Prelude.{ℕ, ◌<◌, ◌==◌, not, find, List, Option, None, Some, option_map, if◌then◌else◌}
use Rattle.std.specs.Bool.{then_some}
use Rattle.std.specs.Option.{option_or}
use Rattle.std.specs.List.{All}
use Rattle.std.specs.FinSet as set
use Rattle.md_graph.specs.declared.TheConstants.{NAMES}
use Rattle.md_graph.specs.PlainGraph.{PlainGraph, adjacent, joined_graph, with_edge, without_vertex, without_edge}
use Rattle.md_script.specs.declared.edit.Edit.{Edit}
use Rattle.md_script.specs.declared.edit.Edit.TheVariants.{AddEdge, DelEdge, AddVertex, DelVertex}
use Rattle.md_script.specs.declared.edit.EditReason.{EditReason}
use Rattle.md_script.specs.declared.edit.EditReason.TheVariants.{Same, NoVertex, NameTaken, EdgeThere, EdgeAbsent}

-- the names in an edit are below a limit
abbrev pub HasNamesBelow : ℕ → Edit → Type 0
HasNamesBelow limit (AddEdge u v) = (u < limit) × (v < limit)
HasNamesBelow limit (DelEdge u v) = (u < limit) × (v < limit)
HasNamesBelow limit (AddVertex x neighbours) = (x < limit) × All (λ v. v < limit) neighbours
HasNamesBelow limit (DelVertex x) = x < limit

-- the names in an edit are names
abbrev pub HasNames : Edit → Type 0
HasNames = HasNamesBelow NAMES

-- why u and v can't be the ends of an edge of g: they are the same, or one is no vertex
abbrev pub ends_reason : PlainGraph → ℕ → ℕ → Option EditReason
ends_reason g u v =
    if u == v then Some Same
    else (if not (set.contains g.vertices u) then Some (NoVertex u)
    else (if not (set.contains g.vertices v) then Some (NoVertex v)
    else None))

-- the first of the neighbours that is no vertex of g: the least, as they are ascending
abbrev pub least_absent : PlainGraph → List ℕ → Option ℕ
least_absent g neighbours = find (λ v. not (set.contains g.vertices v)) neighbours

-- the first reason why an edit can't be applied to g, if one holds: the ends of an edge are looked at before
-- the edge, and the neighbours of a new vertex before its name
abbrev pub reason_of : PlainGraph → Edit → Option EditReason
reason_of g (AddEdge u v) = option_or (ends_reason g u v) (then_some (adjacent g u v) EdgeThere)
reason_of g (DelEdge u v) = option_or (ends_reason g u v) (then_some (not (adjacent g u v)) EdgeAbsent)
reason_of g (AddVertex x neighbours) =
    option_or (option_map NoVertex (least_absent g neighbours))
    (then_some (set.contains g.vertices x) (NameTaken x))
reason_of g (DelVertex x) = then_some (not (set.contains g.vertices x)) (NoVertex x)

-- g with the edge or without it; with the vertex and its edges to the neighbours; without the vertex and the
-- edges at it
abbrev pub after : PlainGraph → Edit → PlainGraph
after g (AddEdge u v) = with_edge g u v
after g (DelEdge u v) = without_edge g u v
after g (AddVertex x neighbours) = joined_graph g x neighbours
after g (DelVertex x) = without_vertex g x
