-- One more name is taken in.
use Rattle.std.proofs.Common.{◌≡◌, ◌∙◌, arith, [], ◌∷◌, ℕ, subst}
use Rattle.md_top.specs.Big.{insertion, inserts, RunsTo}
use Rattle.md_top.proofs.Runs.{runs_none, runs_next, none_before, one_more_before}
use Rattle.md_top.proofs.big.insert_all.Goals as goal

pub loop-v-init : goal.loop-v-init
loop-v-init c = record { progress = (0, runs_none _); few = omega arith; within = omega arith; before = none_before c.none-before.result c.none-before.ensures.value }

pub loop-v-preserved : goal.loop-v-preserved
loop-v-preserved c =
    let so_far = c.loop-v.invariant.progress in
    let more = c.in_ok-inserted.ensures.run in
    let below = c.loop-v.invariant.few in
    let one = c.in_ok-inserted.ensures.few in
    record { progress = (_, runs_next (λ (v : ℕ). insertion v ∷ []) c.loop-v.v _ _ _ _ _ _ _ so_far.1 more.1); few = omega arith; within = omega arith; before = c.insert-in-loop-v.ensures.changed ∙ one_more_before c.loop-v.v c.loop-v.before c.loop-v.invariant.before }

pub returns : goal.returns
returns c =
    let in_range = c.loop-v.invariant.within in
    let same : c.loop-v.v ≡ c.args.size = omega arith in
    record { run = subst (λ (n : ℕ). (undone : ℕ) × RunsTo c.args.session.now (inserts n) c.loop-v.inserted undone c.loop-v.session) same c.loop-v.invariant.progress }
