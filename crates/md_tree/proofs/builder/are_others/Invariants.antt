use Rattle.std.proofs.Common.{ℕ, suc, ◌<◌, get_or, map, drop}
use Rattle.std.specs.Prelude.{◌↔◌, IsTrue}
use Rattle.md_tree.specs.Trees.{row}
use Rattle.md_tree.specs.Plain.{plain}
use Rattle.md_tree.specs.WellFormed.{NoneOfKind}
use Rattle.md_tree.proofs.builder.are_others.Given as goal

abbrev pub invariant-loop-i : goal.invariant-loop-i
invariant-loop-i g l = record {
  none : NoneOfKind (row (map plain l.children)) l.kind ↔ NoneOfKind (row (map plain (drop l.i l.children))) l.kind;
  up : IsTrue l.sorts → (k : ℕ) → suc k < l.i → get_or l.least k 0 < get_or l.least (suc k) 0;
}
