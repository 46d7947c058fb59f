use Rattle.std.proofs.Common.{◌≡◌, ◌<◌, ℕ, get_or, Some, None}
use Rattle.md_checker.proofs.text_walk.lacks_kind.Given as goal

abbrev pub invariant-loop-child : goal.invariant-loop-child
invariant-loop-child g l = (k : ℕ) → k < l.child-index → get_or l.children k None ≡ Some l.kind → ⊥
