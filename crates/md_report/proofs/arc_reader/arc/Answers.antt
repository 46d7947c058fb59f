use Rattle.md_report.proofs.Named.{no_mark, no_tail, no_head, no_loop, arc_spelled, behind_first}
use Rattle.md_report.proofs.arc_reader.arc.Goals as goal

pub returns-in_default : goal.returns-in_default
returns-in_default c a is = no_mark c.args.piece.now _ _ c.split_before.ensures c.in_default.len_below a

pub returns-in_err-tail : goal.returns-in_err-tail
returns-in_err-tail c = rw c.from_residual.ensures (no_tail c.args.piece.now _ _ c.split_before.ensures c.in_err-tail.ensures)

pub returns-in_err-head : goal.returns-in_err-head
returns-in_err-head c =
    rw c.from_residual-in_err-head.ensures (no_head c.args.piece.now _ _ _ _ c.split_before.ensures (behind_first c.split_before.result.1.now c.in-len1-up.len_at_least) c.in_err-head.ensures)

pub returns-then-tail-head : goal.returns-then-tail-head
returns-then-tail-head c =
    no_loop c.args.piece.now _ _ _ _ c.in_ok-tail.tail c.in_ok-head.head c.split_before.ensures
    (behind_first c.split_before.result.1.now c.in-len1-up.len_at_least) c.in_ok-tail.ensures.1 c.in_ok-head.ensures.1 c.if-tail-head.true

pub returns : goal.returns
returns c = (
  record { tail = c.in_ok-tail.ensures.0; head = c.in_ok-head.ensures.0; differ = c.if-tail-head.false },
  arc_spelled c.args.piece.now _ _ _ _ c.in_ok-tail.tail c.in_ok-head.head c.split_before.ensures
      (behind_first c.split_before.result.1.now c.in-len1-up.len_at_least) c.in_ok-tail.ensures.1 c.in_ok-head.ensures.1,
)
