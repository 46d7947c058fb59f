use Rattle.std.proofs.Common.{◌∙◌, inl, inr}
use Rattle.md_comparability.proofs.Near.{side_row}
use Rattle.md_comparability.proofs.edge_walk.neighbours_on.Goals as goal

pub returns-in-Edges : goal.returns-in-Edges
returns-in-Edges g c =
    side_row c.vertices-vertices.ensures.graph c.args.side c.args.u _ (inl (c.in-Edges.is, c.copy.ensures.value ∙ c.row.ensures.set))

pub returns-in-NonEdges : goal.returns-in-NonEdges
returns-in-NonEdges g c =
    side_row c.vertices-vertices.ensures.graph c.args.side c.args.u _ (inr (c.in-NonEdges.is, c.complement_row.ensures.value))
