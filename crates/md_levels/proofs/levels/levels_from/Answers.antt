use Rattle.md_graph.specs.PlainGraph.{adjacent}
use Rattle.md_levels.proofs.Depths.{class_levels}
use Rattle.md_levels.proofs.levels.levels_from.Goals as goal

pub returns : goal.returns
returns g c = record { levels = class_levels (adjacent c.args.graph.now) c.args.first _ c.in_ok-trail.ensures.class }
