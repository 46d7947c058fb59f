use Rattle.std.proofs.Common.{◌≡◌, ℕ, ◌+◌, ◌-◌, ◌*◌, false, length}
use Rattle.md_graph6.specs.Sparse.{some_pair, gives_loop}
use Rattle.md_graph6.specs.Pairs.{IsAtPair}
use Rattle.md_graph6.proofs.sparse.has_loop.Given as goal

abbrev pub invariant-loop-place : goal.invariant-loop-place
invariant-loop-place l =
    (p : ℕ) × IsAtPair l.body l.digits l.n p l.place.at l.place.shift l.place.reached
    × (some_pair (gives_loop l.body l.digits l.n) p ≡ false)

abbrev pub decreases-loop-place : goal.decreases-loop-place
decreases-loop-place l = 6 * length l.body - (6 * l.place.at + l.place.shift)
