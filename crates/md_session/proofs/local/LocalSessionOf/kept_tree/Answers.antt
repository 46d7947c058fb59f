use Rattle.std.proofs.Common.{subst}
use Rattle.md_graph.specs.PlainGraph.{PlainGraph, adjacent}
use Rattle.md_tree.specs.StrongTrees.{IsTree}
use Rattle.md_tree.specs.Plain.{plain_option}
use Rattle.md_session.proofs.local.LocalSessionOf.kept_tree.Goals as goal

pub returns : goal.returns
returns g c = subst (λ (h : PlainGraph). IsTree (adjacent h) h.vertices (plain_option c.self.inside.tree)) c.self.view_is c.self.invariant
