-- A flush whose number is not among the failing ones does not fail.
use Rattle.std.proofs.Common.{rules, sym}
use Rattle.md_io.proofs.Sure.{flush-quiet}
use Rattle.md_io.proofs.mem_sink.MemSinkSink.flush.Goals as goal

pub returns-then-not-self-clause-gives : goal.returns-then-not-self-clause-gives
returns-then-not-self-clause-gives c = record {
  failed_only = search rules;
  failed_always = λ fails. absurd (flush-quiet _ _ (rw c.as_slice.ensures.value at (sym c.if-not-fails.ensures)) c.if-not-self.true fails);
  fault = search rules;
  counted = search rules;
  same_failing_flushes = search rules;
  same_puts = search rules;
  same_failing = search rules;
  same_part = search rules;
}
