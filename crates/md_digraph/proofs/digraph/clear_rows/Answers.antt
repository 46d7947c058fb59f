use Rattle.std.proofs.Common.{arith, ◌∙◌, ap, sym, refl}
use Rattle.std.specs.FinSet as set
use Rattle.md_graph.proofs.EachRow.{Lists-ascending, Lists-head, Lists-rest, each_start, each_step, each_end}
use Rattle.md_digraph.proofs.digraph.clear_rows.Goals as goal

pub loop-u-init : goal.loop-u-init
loop-u-init g c =
    let list = c.into_iter-u-iterator.ensures.into_iter_gives ∙ c.members-u-items.ensures.list in
    record {
      left = Lists-ascending _ list c.members-u-items.ensures.names;
      out = each_start (λ _. set.empty) c.args.names.now c.args.out.now _ list c.members-u-items.ensures.names;
      into = each_start (λ _. set.empty) c.args.names.now c.args.into.now _ list c.members-u-items.ensures.names;
    }

pub bounds-out-u : goal.bounds-out-u
bounds-out-u g c =
    omega (arith, c.requires.out_rows c.in-Some.u (Lists-head c.loop-u.invariant.left _ _ c.in-Some.ensures.steps))

pub bounds-into-u : goal.bounds-into-u
bounds-into-u g c =
    omega (arith, c.requires.into_rows c.in-Some.u (Lists-head c.loop-u.invariant.left _ _ c.in-Some.ensures.steps))

pub loop-u-preserved : goal.loop-u-preserved
loop-u-preserved g c =
    let below = c.requires.out_rows c.in-Some.u (Lists-head c.loop-u.invariant.left _ _ c.in-Some.ensures.steps) in
    let below_too = c.requires.into_rows c.in-Some.u (Lists-head c.loop-u.invariant.left _ _ c.in-Some.ensures.steps) in
    record {
      left = Lists-rest c.loop-u.invariant.left _ _ c.in-Some.ensures.steps;
      out = λ u. each_step (λ _. set.empty) (λ _. refl) c.loop-u.out c.in-Some.u _ _ c.in-Some.ensures.steps (omega arith) _ c.index-out-u.result (c.clear.ensures.changed ∙ ap (λ _. set.empty) (sym c.index-out-u.is)) c.index-out-u.is u ∙ c.loop-u.invariant.out u;
      into = λ u. each_step (λ _. set.empty) (λ _. refl) c.loop-u.into c.in-Some.u _ _ c.in-Some.ensures.steps (omega arith) _ c.index-into-u.result (c.clear-in-loop-u.ensures.changed ∙ ap (λ _. set.empty) (sym c.index-into-u.is)) c.index-into-u.is u ∙ c.loop-u.invariant.into u;
    }

pub returns-clause-out : goal.returns-clause-out
returns-clause-out g c =
    λ u. each_end (λ _. set.empty) c.loop-u.out _ c.in-None.ensures.steps.0 u ∙ c.loop-u.invariant.out u

pub returns-clause-into : goal.returns-clause-into
returns-clause-into g c =
    λ u. each_end (λ _. set.empty) c.loop-u.into _ c.in-None.ensures.steps.0 u ∙ c.loop-u.invariant.into u
