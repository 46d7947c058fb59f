use Rattle.std.proofs.Common.{◌≡◌, ℕ}
use Rattle.md_graph.specs.PlainGraph.{adjacent}
use Rattle.md_graph.specs.Sets.{Has}
use Rattle.md_modules.proofs.module_search.are_alike.Given as goal
use Rattle.md_graph.proofs.Walks.{Walked}

abbrev pub invariant-loop-w : goal.invariant-loop-w
invariant-loop-w g l = Walked l.names l.w-iterator (λ w. (y : ℕ) → Has l.others y → adjacent l.graph l.v y ≡ adjacent l.graph w y)
