use Rattle.md_graph6.specs.Written.{IsWritten}
use Rattle.md_graph6.proofs.writer.put_consecutive.Given as goal

abbrev pub invariant-loop-j : goal.invariant-loop-j
invariant-loop-j g l = IsWritten l.body l.graph l.j
