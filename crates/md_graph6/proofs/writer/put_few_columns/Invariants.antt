use Rattle.md_graph6.proofs.PutShort.{IsWrittenTo}
use Rattle.md_graph6.proofs.writer.put_few_columns.Given as goal

abbrev pub invariant-loop-j : goal.invariant-loop-j
invariant-loop-j g l = IsWrittenTo l.body l.graph l.j l.unput.bits l.unput.held l.unput.at
