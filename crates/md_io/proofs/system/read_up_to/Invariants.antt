-- What was taken stands in the vector, at most one byte more than the limit; each read takes a byte
-- or ends.
use Rattle.std.proofs.Common.{◌+◌, ◌-◌, ◌<◌, ◌≤◌, length}
use Rattle.std.specs.Io.KnownBytes.{Consumes}
use Rattle.md_io.specs.declared.system.TheConstants.{LONGEST_READ}
use Rattle.md_io.proofs.system.read_up_to.Given as goal

abbrev pub invariant-loop-reader : goal.invariant-loop-reader
invariant-loop-reader g l = record {
  taken : Consumes (g.T.Read.remaining l.initial.reader) (g.T.Read.remaining l.reader) l.bytes.items;
  within : length l.bytes.items ≤ l.limit + 1;
  some : 0 < l.most;
  few : l.most ≤ LONGEST_READ;
}

abbrev pub decreases-loop-reader : goal.decreases-loop-reader
decreases-loop-reader g l = l.limit + 1 - length l.bytes.items
