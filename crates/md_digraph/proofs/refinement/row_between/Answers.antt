use Rattle.std.proofs.Common.{rules}
use Rattle.md_graph.proofs.SetLemmas.{of_meet}
use Rattle.md_digraph.proofs.RowLemmas.{told_out, told_in, none_told}
use Rattle.md_digraph.proofs.refinement.row_between.Goals as goal

pub predecessors-requires : goal.predecessors-requires
predecessors-requires g c = (search rules, (search rules, c.requires.part c.in-Some.p (of_meet c.args.others.now _ c.in-Some.p c.in-Some.ensures.found.member).0))

pub returns-in-Some-clause-found : goal.returns-in-Some-clause-found
returns-in-Some-clause-found g c =
    told_out c.successors-out_u.ensures.digraph c.args.others.now c.successors-out_u.result.now c.successors-out_v.result.now c.predecessors.result.now c.args.u c.args.v c.in-Some.p
    c.successors-out_u.ensures.set c.successors-out_v.ensures.set c.predecessors.ensures.set c.in-Some.ensures.found

pub successors-requires : goal.successors-requires
successors-requires g c =
    (search rules, (search rules, c.requires.part c.in-Some-first_in_symmetric_difference.p (of_meet c.args.others.now _ c.in-Some-first_in_symmetric_difference.p c.in-Some-first_in_symmetric_difference.ensures.found.member).0))

pub returns-in-Some-first_in_symmetric_difference-clause-found : goal.returns-in-Some-first_in_symmetric_difference-clause-found
returns-in-Some-first_in_symmetric_difference-clause-found g c =
    told_in c.successors-out_u.ensures.digraph c.args.others.now c.predecessors-in_u.result.now c.predecessors-in_v.result.now c.successors.result.now c.args.u c.args.v c.in-Some-first_in_symmetric_difference.p
    c.predecessors-in_u.ensures.set c.predecessors-in_v.ensures.set c.successors.ensures.set c.in-Some-first_in_symmetric_difference.ensures.found

pub returns-clause-none : goal.returns-clause-none
returns-clause-none g c =
    none_told c.successors-out_u.ensures.digraph c.args.others.now c.successors-out_u.result.now c.successors-out_v.result.now c.predecessors-in_u.result.now c.predecessors-in_v.result.now c.args.u c.args.v
    c.successors-out_u.ensures.set c.successors-out_v.ensures.set c.predecessors-in_u.ensures.set c.predecessors-in_v.ensures.set
    c.in_default.ensures.none c.in_default-first_in_symmetric_difference.ensures.none
