use Rattle.std.proofs.Common.{None}
use Rattle.md_graph.proofs.Limits.{words_few}
use Rattle.md_report.proofs.MadePaths.{none_made_added, none_made_gone, none_made_new, none_made_left, cograph_if_none}
use Rattle.md_report.proofs.made.made_p4.Goals as goal

pub returns-in-AddEdge-clause-none : goal.returns-in-AddEdge-clause-none
returns-in-AddEdge-clause-none g c =
    none_made_added c.args.graph.now c.args.edit.now c.in-AddEdge.u c.in-AddEdge.v c.find_p4_with_both.result c.find_p4_with_both.ensures.none c.in-AddEdge.is

pub returns-in-AddEdge-clause-cograph : goal.returns-in-AddEdge-clause-cograph
returns-in-AddEdge-clause-cograph g c = λ before. cograph_if_none (words_few g.row.W c.vertices-vertices.ensures.limit) _ before c.args.graph.now c.args.edit.now (returns-in-AddEdge-clause-none g c)

pub returns-in-DelEdge-clause-none : goal.returns-in-DelEdge-clause-none
returns-in-DelEdge-clause-none g c =
    none_made_gone c.args.graph.now c.args.edit.now c.in-DelEdge.u c.in-DelEdge.v c.find_p4_with_both-in-DelEdge.result c.find_p4_with_both-in-DelEdge.ensures.none c.in-DelEdge.is

pub returns-in-DelEdge-clause-cograph : goal.returns-in-DelEdge-clause-cograph
returns-in-DelEdge-clause-cograph g c = λ before. cograph_if_none (words_few g.row.W c.vertices-vertices.ensures.limit) _ before c.args.graph.now c.args.edit.now (returns-in-DelEdge-clause-none g c)

pub returns-in-AddVertex-clause-cograph : goal.returns-in-AddVertex-clause-cograph
returns-in-AddVertex-clause-cograph g c = λ before.
    cograph_if_none (words_few g.row.W c.vertices-vertices.ensures.limit) _ before c.args.graph.now c.args.edit.now
    (none_made_new c.args.graph.now c.args.edit.now c.in-AddVertex.x c.in-AddVertex.neighbours c.find_p4_with.result c.find_p4_with.ensures.none c.in-AddVertex.is)

pub returns-in-DelVertex-clause-cograph : goal.returns-in-DelVertex-clause-cograph
returns-in-DelVertex-clause-cograph g c = λ before.
    cograph_if_none (words_few g.row.W c.vertices-vertices.ensures.limit) None before c.args.graph.now c.args.edit.now (none_made_left c.args.graph.now c.args.edit.now c.in-DelVertex.x c.in-DelVertex.is)
