use Rattle.std.proofs.Common.{arith}
use Rattle.std.proofs.lemmas.Grind.{common_steps}
use Rattle.md_graph6.specs.Size.{size_of}
use Rattle.md_graph6.proofs.line.size.Goals as goal

pub returns-then-line-ne-LONG : goal.returns-then-line-ne-LONG
unfolding size_of
returns-then-line-ne-LONG c = grind (arith, common_steps)

pub returns-then-line-lt4 : goal.returns-then-line-lt4
unfolding size_of
returns-then-line-lt4 c = grind (arith, common_steps)

pub returns-then-line-ne-LONG-2 : goal.returns-then-line-ne-LONG-2
unfolding size_of
returns-then-line-ne-LONG-2 c = grind (arith, common_steps)

pub returns-then-line-lt8 : goal.returns-then-line-lt8
unfolding size_of
returns-then-line-lt8 c = grind (arith, common_steps)

pub returns : goal.returns
unfolding size_of
returns c = grind (arith, common_steps)
