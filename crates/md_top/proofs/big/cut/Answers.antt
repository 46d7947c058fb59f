-- The edge goes where the name is odd and at least 3.
use Rattle.std.proofs.Common.{◌-◌, List, sym, subst}
use Rattle.md_script.specs.declared.edit.Edit.{Edit}
use Rattle.md_top.specs.Big.{RunsTo}
use Rattle.md_top.proofs.Runs.{odd_cut, low_kept, even_kept}
use Rattle.md_top.proofs.big.cut.Goals as goal
use Rattle.md_top.proofs.big.cut.Goals.{else-v-ge3-via-then-v-ge3+else-v-eq1, else-v-ge3-via-else-v-ge3}

pub returns-then-v-eq1-clause-run : goal.returns-then-v-eq1-clause-run
returns-then-v-eq1-clause-run c =
    (c.count_applied.result, subst (λ (edits : List Edit). RunsTo c.args.session.now edits c.count_applied.result (1 - c.count_applied.result) c.count_applied.new.session) (sym (odd_cut c.args.v c.if-v-ge3.true c.if-v-eq1.true)) c.count_applied.ensures.run)

pub returns-clause-run : goal.returns-clause-run
returns-clause-run c = elim c.else-v-ge3.branch [
  | else-v-ge3-via-then-v-ge3+else-v-eq1 w ↦ (0, even_kept c.args.v c.args.session.now w.if-v-eq1.false)
  | else-v-ge3-via-else-v-ge3 w ↦ (0, low_kept c.args.v c.args.session.now w.if-v-ge3.false)
]
