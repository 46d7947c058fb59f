use Rattle.std.specs.FinSet.{difference}
use Rattle.md_graph.proofs.SetLemmas.{flipped_along}
use Rattle.md_modules.proofs.Turns.{component_along}
use Rattle.md_digraph.specs.ArcColours.{no_arc}
use Rattle.md_digraph.proofs.components.parallel_component.Goals as goal

pub returns : goal.returns
returns g c = record {
  component =
      component_along c.args.within.now (difference c.args.within.now c.rest_of_component.new.left) c.symmetric_difference_with.new.self no_arc c.args.x
      (flipped_along c.args.within.now c.rest_of_component.new.left c.symmetric_difference_with.new.self c.rest_of_component.ensures.part c.symmetric_difference_with.ensures.changed) c.rest_of_component.ensures.taken;
}
