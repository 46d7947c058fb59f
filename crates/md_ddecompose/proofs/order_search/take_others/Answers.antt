use Rattle.md_ddecompose.proofs.OrderSearch.{kept_forth, kept_back}
use Rattle.md_ddecompose.proofs.order_search.take_others.Goals as goal

pub returns-then-last-clause-kept : goal.returns-then-last-clause-kept
returns-then-last-clause-kept g c =
    kept_back c.successors-out.ensures.digraph c.args.w c.successors-out.result.now c.predecessors-into.result.now c.args.left.now c.take_unless.new.left c.successors-out.ensures.set c.predecessors-into.ensures.set
    c.args.last c.if-last.true c.take_unless.ensures.kept

pub returns-clause-kept : goal.returns-clause-kept
returns-clause-kept g c =
    kept_forth c.successors-out.ensures.digraph c.args.w c.successors-out.result.now c.predecessors-into.result.now c.args.left.now c.take_unless-2.new.left c.successors-out.ensures.set c.predecessors-into.ensures.set
    c.args.last c.if-last.false c.take_unless-2.ensures.kept
