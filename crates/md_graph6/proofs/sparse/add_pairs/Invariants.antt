use Rattle.std.proofs.Common.{ℕ, ◌+◌, ◌-◌, ◌*◌, length}
use Rattle.md_graph6.specs.Pairs.{IsAtPair, HasPairEdges}
use Rattle.md_graph6.proofs.sparse.add_pairs.Given as goal

abbrev pub invariant-loop-place : goal.invariant-loop-place
invariant-loop-place g l =
    (p : ℕ) × IsAtPair l.body l.digits l.n p l.place.at l.place.shift l.place.reached
    × HasPairEdges l.body l.digits l.n p l.graph

abbrev pub decreases-loop-place : goal.decreases-loop-place
decreases-loop-place g l = 6 * length l.body - (6 * l.place.at + l.place.shift)
