use Rattle.std.proofs.Common.{sym, subst}
use Rattle.md_graph.specs.PlainGraph.{PlainGraph}
use Rattle.md_local.specs.Edits.{IsEdited}
use Rattle.md_local.proofs.Edited.{edge_comes, edge_goes}
use Rattle.md_tree_tests.proofs.local_changes.toggle.Goals as goal

pub returns-then-has_edge : goal.returns-then-has_edge
returns-then-has_edge c =
    subst (λ (h : PlainGraph). IsEdited c.args.graph.now h c.args.u c.args.v) (sym c.remove_edge.ensures.changed)
    (edge_goes c.args.graph.now c.args.u c.args.v c.vertices-vertices.ensures.graph)

pub returns : goal.returns
returns c =
    subst (λ (h : PlainGraph). IsEdited c.args.graph.now h c.args.u c.args.v) (sym c.add_edge.ensures.changed)
    (edge_comes c.args.graph.now c.args.u c.args.v c.vertices-vertices.ensures.graph)
