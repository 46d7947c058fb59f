use Rattle.std.proofs.Common.{IfOk, subst}
use Rattle.md_graph.specs.PlainGraph.{PlainGraph, adjacent}
use Rattle.md_tree.specs.StrongTrees.{IsTree}
use Rattle.md_tree.specs.Plain.{plain_option}
use Rattle.md_session.proofs.general.GeneralSessionOf.tree.Goals as goal

pub returns : goal.returns
returns g c = subst (λ (h : PlainGraph). IfOk c.decompose.result (λ tree. IsTree (adjacent h) h.vertices (plain_option tree))) c.self.view_is c.decompose.ensures.tree
