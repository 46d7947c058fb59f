use Rattle.std.proofs.Common.{ℕ}
use Rattle.md_graph.specs.Sets.{Has}
use Rattle.md_modules.proofs.Turns.{Sees}
use Rattle.md_modules.proofs.component_search.seeing.Given as goal
use Rattle.md_graph.proofs.Walks.{Walked}

abbrev pub invariant-loop-y : goal.invariant-loop-y
invariant-loop-y g l = record {
  all : Walked l.left l.y-iterator (λ y. Sees l.graph y l.value l.taken → Has l.new y);
  alone : (y : ℕ) → Has l.new y → Has l.left y × Sees l.graph y l.value l.taken;
}
