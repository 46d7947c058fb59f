-- One more name is passed.
use Rattle.std.proofs.Common.{◌≡◌, arith, ℕ, subst}
use Rattle.md_top.specs.Big.{deletions_at, deletions, RunsTo}
use Rattle.md_top.proofs.Runs.{runs_none, runs_next}
use Rattle.md_top.proofs.big.delete_all.Goals as goal

pub loop-v-init : goal.loop-v-init
loop-v-init c = record { progress = (0, 0, runs_none _); within = omega arith }

pub loop-v-preserved : goal.loop-v-preserved
loop-v-preserved c =
    let so_far = c.loop-v.invariant.progress in
    let more = c.delete.ensures.run in
    record { progress = (_, _, runs_next deletions_at c.loop-v.v _ _ _ _ _ _ _ so_far.2 more.2); within = omega arith }

pub returns : goal.returns
returns c =
    let in_range = c.loop-v.invariant.within in
    let same : c.loop-v.v ≡ c.args.size = omega arith in
    record { run = subst (λ (n : ℕ). (done : ℕ) × (undone : ℕ) × RunsTo c.args.session.now (deletions n) done undone c.loop-v.session) same c.loop-v.invariant.progress }
