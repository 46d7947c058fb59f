use Rattle.std.proofs.Common.{ℕ, ◌<◌, take, length}
use Rattle.md_graph.specs.Sets.{Has}
use Rattle.md_forcing.specs.Sides.{adjacent_on}
use Rattle.md_checker.proofs.Leading.{IsLed}
use Rattle.md_checker.proofs.certificates.leads_on.Given as goal

abbrev pub invariant-loop-next : goal.invariant-loop-next
invariant-loop-next g l = record {
  room : (v : ℕ) → Has l.graph.vertices v → v < length l.rows;
  led : IsLed (adjacent_on l.side l.graph) l.first l.last l.rows (take l.next-index l.rest);
}
