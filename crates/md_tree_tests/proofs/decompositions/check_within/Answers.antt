use Rattle.std.proofs.Common.{rules}
use Rattle.md_graph.proofs.SetLemmas.{Has-along, of_meet}
use Rattle.md_tree_tests.proofs.decompositions.check_within.Goals as goal

pub decompose_within-requires : goal.decompose_within-requires
decompose_within-requires g c = (
  search rules,
  (
    search rules,
    λ x h. Has-along _ _ c.vertices.ensures.set x (of_meet c.vertices.result.now _ x (Has-along _ _ c.and-set.ensures.value x h)).0,
  ),
)
