use Rattle.std.proofs.Common.{◌≡◌, ℕ, ◌<◌, ◌≤◌, length, ◌-◌}
use Rattle.md_graph.specs.Sets.{only_name}
use Rattle.md_modules.specs.Classes.{class_at}
use Rattle.md_modules.proofs.refinement.next_several.Given as goal

abbrev pub invariant-loop-at : goal.invariant-loop-at
invariant-loop-at g l = record {
  from : l.from ≤ l.at;
  names : (k : ℕ) → l.from ≤ k → k < l.at → (v : ℕ) × (class_at l.classes k ≡ only_name v);
}

abbrev pub decreases-loop-at : goal.decreases-loop-at
decreases-loop-at g l = length l.classes - l.at
