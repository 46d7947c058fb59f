use Rattle.std.proofs.Common.{ap, rules}
use Rattle.md_script.specs.Pasts.{as_edit}
use Rattle.md_script.specs.declared.past.PastOf.{PastOf}
use Rattle.md_session.specs.LocalSteps.{edge_ends}
use Rattle.md_session.proofs.KeptTrees.{one_last, only_edit}
use Rattle.md_session.proofs.local_items.last_edge.Goals as goal

pub last_edit-requires : goal.last_edit-requires
last_edit-requires g c = (search rules, (search rules, one_last c.args.history.now.items c.last_len.result c.requires.item c.last_len.ensures c.if-last_len-ne1.false))

pub returns-in-AddEdge : goal.returns-in-AddEdge
returns-in-AddEdge g c =
    only_edit c.args.history.now.items c.last_len.result (as_edit c.last_edit.result) c.in-AddEdge.u c.in-AddEdge.v c.last_len.ensures c.if-last_len-ne1.false c.last_edit.ensures
    (ap (λ (p : PastOf g.row.W). edge_ends (as_edit p)) c.in-AddEdge.is)

pub returns-in-DelEdge : goal.returns-in-DelEdge
returns-in-DelEdge g c =
    only_edit c.args.history.now.items c.last_len.result (as_edit c.last_edit.result) c.in-DelEdge.u c.in-DelEdge.v c.last_len.ensures c.if-last_len-ne1.false c.last_edit.ensures
    (ap (λ (p : PastOf g.row.W). edge_ends (as_edit p)) c.in-DelEdge.is)
