-- One more name is passed.
use Rattle.std.proofs.Common.{◌≡◌, arith, ℕ, subst}
use Rattle.md_top.specs.Big.{cuts_at, cuts, RunsTo}
use Rattle.md_top.proofs.Runs.{runs_none, runs_next}
use Rattle.md_top.proofs.big.cut_all.Goals as goal

pub loop-v-init : goal.loop-v-init
loop-v-init c = record { progress = (0, runs_none _); few = omega arith; within = omega arith }

pub loop-v-preserved : goal.loop-v-preserved
loop-v-preserved c =
    let so_far = c.loop-v.invariant.progress in
    let more = c.cut-refused.ensures.run in
    let below = c.loop-v.invariant.few in
    let one = c.cut-refused.ensures.few in
    record { progress = (_, runs_next cuts_at c.loop-v.v _ _ _ _ _ _ _ so_far.1 more.1); few = omega arith; within = omega arith }

pub returns : goal.returns
returns c =
    let in_range = c.loop-v.invariant.within in
    let same : c.loop-v.v ≡ c.args.size = omega arith in
    record { run = subst (λ (n : ℕ). (done : ℕ) × RunsTo c.args.session.now (cuts n) done c.loop-v.refused c.loop-v.session) same c.loop-v.invariant.progress }
