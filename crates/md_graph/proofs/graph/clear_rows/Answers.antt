use Rattle.std.proofs.Common.{rules, ◌<◌, length, arith, ◌∙◌, ap, sym, refl}
use Rattle.std.specs.FinSet as set
use Rattle.md_graph.proofs.EachRow.{Lists-ascending, Lists-head, Lists-rest, each_start, each_step, each_end}
use Rattle.md_graph.proofs.graph.clear_rows.Goals as goal

pub loop-u-init : goal.loop-u-init
loop-u-init g c =
    let list = c.into_iter-u-iterator.ensures.into_iter_gives ∙ c.members-u-items.ensures.list in
    record {
      left = Lists-ascending _ list c.members-u-items.ensures.names;
      result = each_start (λ _. set.empty) c.args.names.now c.args.rows.now _ list c.members-u-items.ensures.names;
    }

pub bounds-rows-u : goal.bounds-rows-u
bounds-rows-u g c =
    omega (arith, c.requires c.in-Some.u (Lists-head c.loop-u.invariant.left _ _ c.in-Some.ensures.steps))

pub loop-u-preserved : goal.loop-u-preserved
loop-u-preserved g c =
    let below = c.requires c.in-Some.u (Lists-head c.loop-u.invariant.left _ _ c.in-Some.ensures.steps) in
    record {
      left = Lists-rest c.loop-u.invariant.left _ _ c.in-Some.ensures.steps;
      result = λ u. each_step (λ _. set.empty) (λ _. refl) c.loop-u.rows c.in-Some.u _ _ c.in-Some.ensures.steps (omega arith) _ c.index-rows-u.result (c.clear.ensures.changed ∙ ap (λ _. set.empty) (sym c.index-rows-u.is)) c.index-rows-u.is u ∙ c.loop-u.invariant.result u;
    }

pub returns : goal.returns
returns g c =
    λ u. each_end (λ _. set.empty) c.loop-u.rows _ c.in-None.ensures.steps.0 u ∙ c.loop-u.invariant.result u

pub offset_bounds-rows-u : goal.offset_bounds-rows-u
offset_bounds-rows-u g c =
    let below : c.in-Some.u < length c.loop-u.rows = omega (arith, c.requires c.in-Some.u (Lists-head c.loop-u.invariant.left _ _ c.in-Some.ensures.steps)) in
    search rules
