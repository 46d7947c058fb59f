-- Where no load can fail, the number of this one is not among the failing ones.
use Rattle.std.proofs.Common.{arith, rules, sym}
use Rattle.md_io.proofs.Sure.{next-sure, sure-more, neither-fails}
use Rattle.md_io.proofs.mem_files.MemFilesFiles.load.Goals as goal

pub returns-in_err-note-clause-sure_stays : goal.returns-in_err-note-clause-sure_stays
returns-in_err-note-clause-sure_stays c = λ sure _.
    let old = c.args.self.now in
    sure-more old.faults old.loads _ old.failing.items (omega arith) c.saturating_add-self.ensures sure

pub returns-then-fails-clause-sure_faults : goal.returns-then-fails-clause-sure_faults
returns-then-fails-clause-sure_faults c = λ sure _.
    let old = c.args.self.now in
    let quiet = next-sure old.faults old.loads old.failing.items sure in
    cc (quiet, c.if-fails.ensures, c.as_slice.ensures.value)

pub returns-then-fails-clause-sure_stays : goal.returns-then-fails-clause-sure_stays
returns-then-fails-clause-sure_stays c = λ sure _.
    let old = c.args.self.now in
    let quiet = next-sure old.faults old.loads old.failing.items sure in
    cc (quiet, c.if-fails.ensures, c.as_slice.ensures.value)

pub returns-clause-sure_stays : goal.returns-clause-sure_stays
returns-clause-sure_stays c = λ sure _.
    let old = c.args.self.now in
    sure-more old.faults old.loads _ old.failing.items (omega arith) c.saturating_add-self.ensures sure

pub returns-clause-gives : goal.returns-clause-gives
returns-clause-gives c = record {
  failed_only = search rules;
  failed_always = λ fails. absurd (neither-fails _ _ _ (rw c.as_slice.ensures.value at (sym c.if-fails.ensures)) c.in-Some.ensures.value fails);
  fault = search rules;
  no_fault = search rules;
  too_long_taken = search rules;
  fault_taken = search rules;
  over = search rules;
  no_over = search rules;
  counted = search rules;
  same_failing = search rules;
}
