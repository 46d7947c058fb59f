use Rattle.std.proofs.Common.{◌≡◌}
use Rattle.md_decompose.proofs.ordered.fn.marks.sort_unstable_by_key.Given as goal

abbrev pub ensures : goal.ensures
ensures g l r = r ≡ l.mark.entry.now.least
