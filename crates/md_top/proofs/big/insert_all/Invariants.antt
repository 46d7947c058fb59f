use Rattle.std.proofs.Common.{◌≡◌, ℕ, ◌≤◌}
use Rattle.md_graph.specs.NameSet.{range}
use Rattle.md_top.specs.Big.{inserts, RunsTo}
use Rattle.md_top.proofs.big.insert_all.Given as goal

abbrev pub invariant-loop-v : goal.invariant-loop-v
invariant-loop-v l = record {
  progress : (undone : ℕ) × RunsTo l.fn.session (inserts l.v) l.inserted undone l.session;
  few : l.inserted ≤ l.v;
  within : l.v ≤ l.size;
  before : l.before ≡ range 0 l.v;
}
