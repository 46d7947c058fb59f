use Rattle.std.proofs.Common.{rules}
use Rattle.md_graph.specs.PlainGraph.{adjacent}
use Rattle.md_decompose.proofs.RefinedLemmas.{holds_modules}
use Rattle.md_decompose.proofs.refined.refined_classes.Goals as goal

pub class_sets-requires : goal.class_sets-requires
class_sets-requires g c = (search rules, (search rules, c.in_ok-partition.ensures.names))

pub returns : goal.returns
returns g c =
    holds_modules c.args.rest.now c.in_ok-partition.partition c.in_ok-partition.ensures.names c.class_count-count.ensures.partition
    (adjacent c.args.graph.now) c.args.set.now c.in_ok-partition.ensures c.in_ok-sets.sets.items c.in_ok-sets.ensures.sets
