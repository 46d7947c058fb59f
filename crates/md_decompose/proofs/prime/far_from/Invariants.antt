use Rattle.std.proofs.Common.{◌≡◌}
use Rattle.std.specs.FinSet.{difference, len}
use Rattle.md_graph.specs.PlainGraph.{adjacent}
use Rattle.md_decompose.specs.Chains.{with_names, AreSteps}
use Rattle.md_decompose.proofs.ChildLemmas.{IsHeld}
use Rattle.md_decompose.proofs.prime.far_from.Given as goal

abbrev pub invariant-loop-j : goal.invariant-loop-j
invariant-loop-j g l = record {
  is_held : IsHeld (adjacent l.graph) l.set l.v l.last l.begun;
  is_last : l.begun ≡ with_names l.v l.chain.taken.items;
  steps : AreSteps (adjacent l.graph) l.set l.v l.chain.taken.items l.chain.steps.items;
}

abbrev pub decreases-loop-j : goal.decreases-loop-j
decreases-loop-j g l = len (difference l.set l.begun)
