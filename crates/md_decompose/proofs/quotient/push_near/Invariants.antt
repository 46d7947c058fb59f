use Rattle.std.proofs.Common.{◌≡◌, ◌+◌, ◌++◌, ◌≤◌, length, map, vec_len, vec_capacity}
use Rattle.std.specs.FinSet.{intersection}
use Rattle.md_graph.specs.NameSet.{ascending}
use Rattle.md_graph.proofs.Walks.{Walked}
use Rattle.md_decompose.specs.Heads.{pair_at}
use Rattle.md_decompose.proofs.quotient.push_near.Given as goal

abbrev pub invariant-loop-other : goal.invariant-loop-other
invariant-loop-other g l = record {
  pushed : l.pairs.items ++ map (pair_at g.P.Paired.rules l.places l.head) l.other-iterator
      ≡ l.initial.pairs.items ++ map (pair_at g.P.Paired.rules l.places l.head) (ascending (intersection l.row l.among));
  walked : Walked (intersection l.row l.among) l.other-iterator (λ _. Unit {0});
  room : vec_len l.pairs + length l.other-iterator ≤ vec_capacity l.pairs;
}
