use Rattle.std.proofs.Common.{◌≡◌, ℕ, get_or, ◌<◌, ◌≤◌}
use Rattle.md_graph.specs.Words.{IsWithout}
use Rattle.md_graph.proofs.words.become_first_alone.Given as goal

abbrev pub invariant-loop-i : goal.invariant-loop-i
invariant-loop-i l =
    record { done : (k : ℕ) → k < l.i → IsWithout (get_or l.words k 0) (get_or l.first k 0) (get_or l.second k 0); rest : (k : ℕ) → l.i ≤ k → get_or l.words k 0 ≡ get_or l.initial.words k 0 }
