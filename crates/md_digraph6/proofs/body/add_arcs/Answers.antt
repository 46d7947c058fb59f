use Rattle.std.proofs.Common.{rules, ◌==◌, ◌&&◌, ◌||◌, refl, ap, sym, ◌∙◌}
use Rattle.std.specs.FinSet as set
use Rattle.std.proofs.lemmas.Bool.{true≢false}
use Rattle.md_graph.specs.Sets.{Has}
use Rattle.md_graph.proofs.EachRow.{Lists-ascending, Lists-head, Lists-rest}
use Rattle.md_digraph.specs.PlainDigraph.{has_arc_to}
use Rattle.md_digraph6.proofs.ArcFill.{all_ahead, head_absent, rest_ahead, heads_start, heads_step, heads_end}
use Rattle.md_digraph6.proofs.body.add_arcs.Goals as goal

pub loop-v-init : goal.loop-v-init
loop-v-init g c =
    let list = c.into_iter-v-iterator.ensures.into_iter_gives ∙ c.members-v-items.ensures.list in
    record {
      left = Lists-ascending _ list c.members-v-items.ensures.names;
      ahead = all_ahead c.args.graph.now c.args.u c.args.heads.now _ list c.requires.absent;
      vertices = refl;
      arcs = heads_start c.args.graph.now c.args.u c.args.heads.now _ list c.members-v-items.ensures.names;
    }

pub add_arc-requires : goal.add_arc-requires
add_arc-requires g c =
    let head : Has c.args.heads.now c.in-Some.v = Lists-head c.loop-v.invariant.left _ _ c.in-Some.ensures.steps in
    let here = ap (λ s. set.contains s c.in-Some.v) c.loop-v.invariant.vertices in (
      search rules,
      (
        ap (λ s. set.contains s c.args.u) c.loop-v.invariant.vertices ∙ c.requires.tail,
        (
          here ∙ c.requires.heads c.in-Some.v head,
          (
            λ same. true≢false (sym head ∙ ap (set.contains c.args.heads.now) (sym same) ∙ c.requires.differ),
            head_absent c.loop-v.graph c.args.u _ c.in-Some.v _ c.in-Some.ensures.steps c.loop-v.invariant.ahead,
          ),
        ),
      ),
    )

pub loop-v-preserved : goal.loop-v-preserved
loop-v-preserved g c = rw c.add_arc.ensures.changed (record {
  left = Lists-rest c.loop-v.invariant.left _ _ c.in-Some.ensures.steps;
  ahead = rest_ahead c.loop-v.graph c.args.u _ c.in-Some.v _ c.in-Some.ensures.steps c.loop-v.invariant.ahead;
  vertices = c.loop-v.invariant.vertices;
  arcs = heads_step c.loop-v.graph c.args.u _ c.in-Some.v _ (λ a b. ((a == c.args.u) && set.contains c.args.heads.now b) || has_arc_to c.args.graph.now a b) c.in-Some.ensures.steps c.loop-v.invariant.arcs;
})

pub returns : goal.returns
returns g c = record {
  vertices = c.loop-v.invariant.vertices;
  arcs = heads_end c.loop-v.graph c.args.u _ (λ a b. ((a == c.args.u) && set.contains c.args.heads.now b) || has_arc_to c.args.graph.now a b) c.in-None.ensures.steps.0 c.loop-v.invariant.arcs;
}
