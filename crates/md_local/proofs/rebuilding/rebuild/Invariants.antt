use Rattle.std.proofs.Common.{◌+◌, ◌≤◌}
use Rattle.md_tree.specs.Plain.{plain}
use Rattle.md_local.specs.Growing.{own_steps, names_between, IsGrownBelow}
use Rattle.md_local.specs.Walks.{IsWay, steps_ahead, turns_ahead}
use Rattle.md_local.proofs.rebuilding.rebuild.Given as goal

abbrev pub invariant-loop-path : goal.invariant-loop-path
invariant-loop-path g l = record {
  way : IsWay (IsGrownBelow l.graph l.u l.v) (plain l.tree) l.path.items l.current;
  steps : l.work + steps_ahead (own_steps l.u l.v) (own_steps l.u l.v) l.path.items l.current ≤ l.initial.work + names_between l.u l.v (plain l.tree);
}

abbrev pub decreases-loop-path : goal.decreases-loop-path
decreases-loop-path g l = turns_ahead l.path.items l.current
