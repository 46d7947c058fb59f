use Rattle.std.proofs.Common.{refl, sym, ◌∙◌, true≢false, rules}
use Rattle.md_digraph.specs.PlainDigraph.{has_arc_to}
use Rattle.md_digraph.proofs.ArcTurns.{arcs_turn}
use Rattle.md_decompose.proofs.Components.{rest_test, whole_unsplit, part_splits}
use Rattle.md_ddecompose.proofs.components.components.Goals as goal

pub returns-then-is_none : goal.returns-then-is_none
returns-then-is_none g c =
    whole_unsplit (arcs_turn (has_arc_to c.args.graph.now)) c.args.set.now c.component_at-first.result _ (c.args.both, c.args.both) c.in-Some.v refl c.component_at-first.ensures refl
    ((rest_test c.args.set.now c.component_at-first.result c.first_in_symmetric_difference.result c.is_none.result c.first_in_symmetric_difference.ensures.found c.first_in_symmetric_difference.ensures.none c.is_none.ensures).0 c.if-is_none.true)

pub component_list-requires : goal.component_list-requires
component_list-requires g c = (
  search rules,
  (
    search rules,
    (
      search rules,
      (
        c.requires.inside,
        (
          part_splits c.args.set.now c.component_at-first.result _ (c.args.both, c.args.both) c.in-Some.v c.component_at-first.ensures refl
              (λ none. true≢false (sym ((rest_test c.args.set.now c.component_at-first.result c.first_in_symmetric_difference.result c.is_none.result c.first_in_symmetric_difference.ensures.found c.first_in_symmetric_difference.ensures.none c.is_none.ensures).1 none) ∙ c.if-is_none.false)),
          (c.in-Some.v, c.in-Some.ensures.found, c.component_at-first.ensures),
        ),
      ),
    ),
  ),
)

pub returns : goal.returns
returns g c = (
  part_splits c.args.set.now c.component_at-first.result _ (c.args.both, c.args.both) c.in-Some.v c.component_at-first.ensures refl
      (λ none. true≢false (sym ((rest_test c.args.set.now c.component_at-first.result c.first_in_symmetric_difference.result c.is_none.result c.first_in_symmetric_difference.ensures.found c.first_in_symmetric_difference.ensures.none c.is_none.ensures).1 none) ∙ c.if-is_none.false)),
  c.in_ok-component_list.ensures,
)
