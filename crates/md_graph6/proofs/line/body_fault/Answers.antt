use Rattle.std.proofs.Common.{arith}
use Rattle.std.proofs.lemmas.Grind.{common_steps}
use Rattle.std.proofs.lemmas.List.{take_rest}
use Rattle.md_graph6.specs.Line.{body_fault}
use Rattle.md_graph6.proofs.line.body_fault.Goals as goal

pub returns-then-is_too_long : goal.returns-then-is_too_long
unfolding body_fault
returns-then-is_too_long c = grind (arith, common_steps)

pub returns-then-n-from : goal.returns-then-n-from
unfolding body_fault
returns-then-n-from c = grind (arith, common_steps)

pub returns-then-line-end : goal.returns-then-line-end
unfolding body_fault
returns-then-line-end c = grind (arith, common_steps)

pub returns-then-line-end-2 : goal.returns-then-line-end-2
unfolding body_fault
returns-then-line-end-2 c = grind (arith, common_steps)

pub returns-then-is_set_behind : goal.returns-then-is_set_behind
unfolding body_fault
returns-then-is_set_behind c =
    grind (arith, common_steps, take_rest c.args.line.now c.args.taken)

pub returns : goal.returns
unfolding body_fault
returns c = grind (arith, common_steps, take_rest c.args.line.now c.args.taken)
