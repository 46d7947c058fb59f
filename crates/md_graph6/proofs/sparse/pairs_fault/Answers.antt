use Rattle.std.proofs.Common.{arith}
use Rattle.std.proofs.lemmas.Grind.{common_steps}
use Rattle.std.proofs.lemmas.List.{take_rest}
use Rattle.md_graph6.specs.SparseLine.{pairs_fault}
use Rattle.md_graph6.proofs.sparse.pairs_fault.Goals as goal

pub returns-then-is_too_long : goal.returns-then-is_too_long
unfolding pairs_fault
returns-then-is_too_long c = grind (arith, common_steps)

pub returns-then-n-from : goal.returns-then-n-from
unfolding pairs_fault
returns-then-n-from c = grind (arith, common_steps)

pub returns-then-has_loop : goal.returns-then-has_loop
unfolding pairs_fault
returns-then-has_loop c =
    grind (arith, common_steps, take_rest c.args.rest.now c.args.taken)

pub returns : goal.returns
unfolding pairs_fault
returns c = grind (arith, common_steps, take_rest c.args.rest.now c.args.taken)
