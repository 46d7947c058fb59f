use Rattle.std.proofs.Common.{sym, subst}
use Rattle.md_modules.specs.Components.{IsComponent}
use Rattle.md_digraph.specs.PlainDigraph.{has_arc_to}
use Rattle.md_digraph.specs.ArcColours.{between}
use Rattle.md_ddecompose.proofs.components.component_at.Goals as goal

pub returns-then-both : goal.returns-then-both
returns-then-both g c =
    subst (λ b. IsComponent (between (has_arc_to c.args.graph.now)) c.args.within.now c.args.v c.series_component.new.into (b, b)) (sym c.if-both.true) c.series_component.ensures.component

pub returns-else-both : goal.returns-else-both
returns-else-both g c =
    subst (λ b. IsComponent (between (has_arc_to c.args.graph.now)) c.args.within.now c.args.v c.parallel_component.new.into (b, b)) (sym c.if-both.false) c.parallel_component.ensures.component
