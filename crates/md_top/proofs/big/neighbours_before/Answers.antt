use Rattle.md_top.proofs.Runs.{odd_before}
use Rattle.md_top.proofs.big.neighbours_before.Goals as goal

pub returns-then-v-eq1 : goal.returns-then-v-eq1
returns-then-v-eq1 c = odd_before c.args.v c.args.before.now c.if-v-eq1.true c.requires.before
