use Rattle.std.specs.FinSet.{difference}
use Rattle.md_graph.proofs.SetLemmas.{flipped_along}
use Rattle.md_modules.proofs.Turns.{least_over_along}
use Rattle.md_digraph.proofs.closure_search.directed_grow.Goals as goal

pub returns : goal.returns
returns g c = record {
  least =
      least_over_along c.args.within.now c.args.into.now (difference c.args.within.now c.not_grown.new.left) c.symmetric_difference_with.new.self
      (flipped_along c.args.within.now c.not_grown.new.left c.symmetric_difference_with.new.self c.not_grown.ensures.part c.symmetric_difference_with.ensures.changed) c.not_grown.ensures.grown;
}
