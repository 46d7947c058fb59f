-- An even name is left out.
use Rattle.md_top.proofs.Runs.{even_left_out, odd_kept}
use Rattle.md_top.proofs.big.delete.Goals as goal

pub returns-then-v-eq0 : goal.returns-then-v-eq0
returns-then-v-eq0 c = record { run = (_, _, even_left_out c.args.v _ _ _ _ c.if-v-eq0.true c.count_applied.ensures.run) }

pub returns-else-v-eq0 : goal.returns-else-v-eq0
returns-else-v-eq0 c = record { run = (0, 0, odd_kept c.args.v c.args.session.now c.if-v-eq0.false) }
