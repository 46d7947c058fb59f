use Rattle.std.proofs.Common.{sym, subst}
use Rattle.md_graph.specs.PlainGraph.{PlainGraph, adjacent}
use Rattle.md_tree.specs.StrongTrees.{IsTree}
use Rattle.md_tree.specs.Plain.{plain_option}
use Rattle.md_tree.proofs.Stacking.{if_ok}
use Rattle.md_session.proofs.local.LocalSessionOf.tree.Goals as goal

pub returns : goal.returns
returns g c =
    if_ok c.copy_option.result
    (λ tree same. subst (λ (h : PlainGraph). IsTree (adjacent h) h.vertices (plain_option tree)) c.self.view_is
    (subst (IsTree (adjacent c.self.inside.graph) c.self.inside.graph.vertices) (sym same) c.self.invariant))
    c.copy_option.ensures
