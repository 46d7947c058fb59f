use Rattle.std.proofs.Common.{◌≡◌, ℕ, ◌<◌, ◌≤◌, false, get_or}
use Rattle.md_text.specs.Lines.{is_feed}
use Rattle.md_text.proofs.cut.first_feed_from.Given as goal

abbrev pub invariant-loop-place : goal.invariant-loop-place
invariant-loop-place l = (k : ℕ) → l.from ≤ k → k < l.place → is_feed (get_or l.text k 0) ≡ false
