use Rattle.std.proofs.Common.{◌∙◌, sym}
use Rattle.md_checker.proofs.Leading.{apart_self, apart_edge, apart_both, apart_none}
use Rattle.md_checker.proofs.certificates.are_apart.Goals as goal

pub returns-then-u-v : goal.returns-then-u-v
returns-then-u-v g c = apart_self c.vertices-vertices.ensures.graph c.args.u c.args.v c.if-u-v.true

pub returns-then-has_edge : goal.returns-then-has_edge
returns-then-has_edge g c =
    apart_edge c.vertices-vertices.ensures.graph c.args.u c.args.v c.if-u-v.false (sym c.has_edge.ensures.value ∙ c.if-has_edge.true)

pub returns-then-has_vertex : goal.returns-then-has_vertex
returns-then-has_vertex g c =
    apart_both c.vertices-vertices.ensures.graph c.args.u c.args.v c.if-u-v.false (sym c.has_edge.ensures.value ∙ c.if-has_edge.false) (sym c.has_vertex.ensures.value ∙ c.if-has_vertex.true) _ c.has_vertex-then-has_vertex.ensures.value

pub returns-else-has_vertex : goal.returns-else-has_vertex
returns-else-has_vertex g c =
    c.if-has_vertex.false ∙ apart_none c.vertices-vertices.ensures.graph c.args.u c.args.v c.if-u-v.false (sym c.has_vertex.ensures.value ∙ c.if-has_vertex.false)
