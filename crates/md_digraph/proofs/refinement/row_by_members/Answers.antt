use Rattle.std.proofs.Common.{◌∙◌, refl, rules}
use Rattle.md_graph.proofs.Walks.{Walked-item, Walked-more, Walked-end, Walked-behind}
use Rattle.md_digraph.specs.PlainDigraph.{has_arc_to}
use Rattle.md_digraph.specs.ArcColours.{between}
use Rattle.md_digraph.proofs.ArcTurns.{arcs_turn}
use Rattle.md_digraph.proofs.RowLemmas.{row_cuts, none_cuts}
use Rattle.md_digraph.proofs.refinement.row_by_members.Goals as goal

pub loop-x-init : goal.loop-x-init
loop-x-init g c =
    Walked-behind c.in-Some.first c.in-Some.ensures.found c.members_from-x-items.ensures.names
    (c.into_iter-x-iterator.ensures.into_iter_gives ∙ c.members_from-x-items.ensures.list) (λ y h. refl)

pub row_between-requires : goal.row_between-requires
row_between-requires g c = (
  search rules,
  (
    search rules,
    (
      c.requires.inside c.in-Some.first c.in-Some.ensures.found.member,
      (c.requires.inside _ (Walked-item c.loop-x.invariant c.in-Some-x.x _ c.in-Some-x.ensures.steps), c.requires.part),
    ),
  ),
)

pub returns-in-Some-row_between-clause-found : goal.returns-in-Some-row_between-clause-found
returns-in-Some-row_between-clause-found g c =
    row_cuts (between (has_arc_to c.args.graph.now)) c.args.class.now c.args.others.now c.in-Some-row_between.row.now c.in-Some.first c.in-Some-x.x c.in-Some.ensures.found.member
    (Walked-item c.loop-x.invariant c.in-Some-x.x _ c.in-Some-x.ensures.steps) c.requires.apart c.in-Some-row_between.ensures.found

pub loop-x-preserved : goal.loop-x-preserved
loop-x-preserved g c = Walked-more c.loop-x.invariant c.in-Some-x.x _ c.in-Some-x.ensures.steps c.in_default-row_between.ensures.none

pub returns-clause-none : goal.returns-clause-none
returns-clause-none g c =
    none_cuts (between (has_arc_to c.args.graph.now)) (arcs_turn (has_arc_to c.args.graph.now)) c.args.class.now c.args.others.now c.in-Some.first (Walked-end c.loop-x.invariant _ c.in-None.ensures.steps)
