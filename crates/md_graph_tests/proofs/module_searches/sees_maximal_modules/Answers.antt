use Rattle.std.proofs.Common.{rules}
use Rattle.md_graph.specs.PlainGraph.{adjacent}
use Rattle.md_graph_tests.proofs.module_searches.sees_maximal_modules.Goals as goal

pub cut_classes-requires : goal.cut_classes-requires
cut_classes-requires g c = (
  search rules,
  (
    search rules,
    (search rules, (search rules, (search rules, c.in_ok-one_class.ensures.holds (adjacent c.args.g.now) c.vertices-3.result.now))),
  ),
)
