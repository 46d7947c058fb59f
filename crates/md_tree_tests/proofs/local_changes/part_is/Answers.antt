use Rattle.std.proofs.Common.{rules}
use Rattle.md_graph.proofs.SetLemmas.{Has-along, of_meet}
use Rattle.md_tree_tests.proofs.local_changes.part_is.Goals as goal

pub decompose_part-requires : goal.decompose_part-requires
decompose_part-requires g c = (
  search rules,
  (search rules, λ x h. Has-along _ _ c.vertices.ensures.set x (of_meet c.vertices.result.now _ x (Has-along _ _ c.and-set.ensures.value x h)).0),
)
