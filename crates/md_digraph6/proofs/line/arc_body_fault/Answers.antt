use Rattle.std.proofs.Common.{arith}
use Rattle.std.proofs.lemmas.Grind.{common_steps}
use Rattle.std.proofs.lemmas.List.{take_rest}
use Rattle.md_digraph6.specs.ArcLine.{arc_body_fault}
use Rattle.md_digraph6.proofs.line.arc_body_fault.Goals as goal

pub returns-then-is_too_long : goal.returns-then-is_too_long
unfolding arc_body_fault
returns-then-is_too_long c = grind (arith, common_steps)

pub returns-then-n-from : goal.returns-then-n-from
unfolding arc_body_fault
returns-then-n-from c = grind (arith, common_steps)

pub returns-then-rest-end : goal.returns-then-rest-end
unfolding arc_body_fault
returns-then-rest-end c = grind (arith, common_steps)

pub returns-then-rest-end-2 : goal.returns-then-rest-end-2
unfolding arc_body_fault
returns-then-rest-end-2 c = grind (arith, common_steps)

pub returns : goal.returns
unfolding arc_body_fault
returns c = grind (arith, common_steps, take_rest c.args.rest.now c.args.taken)
