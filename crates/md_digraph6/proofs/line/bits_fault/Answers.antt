use Rattle.std.proofs.Common.{arith}
use Rattle.std.proofs.lemmas.Grind.{common_steps}
use Rattle.md_digraph6.specs.ArcLine.{bits_fault}
use Rattle.md_digraph6.proofs.line.bits_fault.Goals as goal

pub returns-then-has_loop : goal.returns-then-has_loop
unfolding bits_fault
returns-then-has_loop c = grind (arith, common_steps)

pub returns-then-is_set_behind : goal.returns-then-is_set_behind
unfolding bits_fault
returns-then-is_set_behind c = grind (arith, common_steps)

pub returns : goal.returns
unfolding bits_fault
returns c = grind (arith, common_steps)
