use Rattle.std.proofs.Common.{rules, ◌≡◌, true, ap, ◌∙◌, sym}
use Rattle.std.specs.FinSet as set
use Rattle.md_graph.proofs.EachRow.{member_from_difference}
use Rattle.md_graph_tests.proofs.graphs.star.Goals as goal

pub add_edges-requires : goal.add_edges-requires
add_edges-requires g c = (
  search rules,
  (
    search rules,
    (
      search rules,
      (
        λ u m.
            let empty : c.is_empty.result ≡ true = search rules in
            ap (λ s. set.contains s u) (sym c.vertices.ensures.set) ∙ member_from_difference _ _ _ c.minus-strange.ensures.value (c.is_empty.ensures.exactly.0 empty) u m,
        search rules,
      ),
    ),
  ),
)
