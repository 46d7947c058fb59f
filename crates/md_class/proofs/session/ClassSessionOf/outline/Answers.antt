use Rattle.std.proofs.Common.{ap, subst}
use Rattle.md_graph.specs.PlainGraph.{PlainGraph}
use Rattle.md_cotree.specs.Cotrees.{Denotes}
use Rattle.md_tree.proofs.Stacking.{if_ok}
use Rattle.md_class.specs.ClassSessions.{PlainClassSession}
use Rattle.md_class.proofs.session.ClassSessionOf.outline.Goals as goal

pub returns : goal.returns
returns g c =
    let denotes = subst (λ (h : PlainGraph). Denotes c.self.inside.tree h) (ap (λ (s : PlainClassSession). s.graph) c.self.view_is) c.self.invariant.1 in
    record { outline = if_ok c.outline.result (λ parts is. is c.args.self.now.graph denotes) c.outline.ensures.outline }
