use Rattle.std.proofs.Common.{◌≡◌, ℕ}
use Rattle.md_graph.specs.PlainGraph.{adjacent}
use Rattle.md_graph.specs.Sets.{Has}
use Rattle.md_modules.proofs.refinement.splitter_of_few.Given as goal
use Rattle.md_graph.proofs.Walks.{Walked}

abbrev pub invariant-loop-x : goal.invariant-loop-x
invariant-loop-x g l = Walked l.class l.x-iterator (λ w. (y : ℕ) → Has l.left y → adjacent l.graph l.first y ≡ adjacent l.graph w y)
