use Rattle.md_digraph.proofs.RowLemmas.{out_cuts, in_cuts, no_row_cuts}
use Rattle.md_digraph.proofs.refinement.row_of.Goals as goal

pub returns-then-is_divided-clause-found : goal.returns-then-is_divided-clause-found
returns-then-is_divided-clause-found g c =
    out_cuts c.successors-out.ensures.digraph c.args.class.now c.args.others.now c.args.p c.successors-out.result.now c.successors-out.ensures.set c.requires.member c.requires.apart
    (c.is_divided.ensures.sees c.if-is_divided.true) (c.is_divided.ensures.misses c.if-is_divided.true)

pub returns-then-is_divided-2-clause-found : goal.returns-then-is_divided-2-clause-found
returns-then-is_divided-2-clause-found g c =
    in_cuts c.successors-out.ensures.digraph c.args.class.now c.args.others.now c.args.p c.predecessors-into.result.now c.predecessors-into.ensures.set c.requires.member c.requires.apart
    (c.is_divided-2.ensures.sees c.if-is_divided-2.true) (c.is_divided-2.ensures.misses c.if-is_divided-2.true)

pub returns-clause-none : goal.returns-clause-none
returns-clause-none g c =
    no_row_cuts c.successors-out.ensures.digraph c.args.class.now c.args.others.now c.args.p c.successors-out.result.now c.predecessors-into.result.now c.successors-out.ensures.set c.predecessors-into.ensures.set
    (c.is_divided.ensures.alike c.if-is_divided.false) (c.is_divided-2.ensures.alike c.if-is_divided-2.false)
