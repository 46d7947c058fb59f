-- A put whose number is not among the failing ones does not fail; one that fails takes a beginning
-- of the piece.
use Rattle.std.proofs.Common.{rules, sym, take, drop, take-append-drop}
use Rattle.md_io.proofs.Sure.{put-quiet}
use Rattle.md_io.proofs.mem_sink.MemSinkSink.put.Goals as goal

pub returns-then-not-self-clause-gives : goal.returns-then-not-self-clause-gives
returns-then-not-self-clause-gives c = record {
  failed_only = search rules;
  failed_always = λ fails. absurd (put-quiet _ _ _ (rw c.as_slice.ensures.value at (sym c.if-not-fails.ensures)) c.if-not-self.true fails);
  failed_part = search rules;
  fault = search rules;
  no_fault = search rules;
  want = search rules;
  counted = search rules;
  same_failing = search rules;
  same_part = search rules;
  same_failing_flushes = search rules;
  same_flushes = search rules;
  same_broken = search rules;
}

pub returns-clause-failed_front : goal.returns-clause-failed_front
returns-clause-failed_front c = λ _. record {
  part = take c.args.self.now.part c.args.piece.now;
  rest = drop c.args.self.now.part c.args.piece.now;
  whole = sym (take-append-drop c.args.self.now.part c.args.piece.now);
  appended = search rules;
}
