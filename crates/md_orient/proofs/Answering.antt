-- What a walk through the edges that stops answers.
use Rattle.std.proofs.Common.{ℕ, Bool, List, subst}
use Rattle.std.specs.Map.{keys_of}
use Rattle.md_forcing.specs.declared.arc.Arc.{Arc}
use Rattle.md_forcing.specs.Lists.{Holds}
use Rattle.md_forcing.specs.Forcing.{arc, reverse, IsListToReverse, IsShortestToReverse}
use Rattle.md_forcing.specs.Classes.{IsClass}
use Rattle.md_comparability.specs.Chains.{IsForcingChain, IsShortestChain}
use Rattle.md_comparability.specs.Walking.{IsStopped}
use Rattle.md_comparability.proofs.Cutting.{list_reaches}
use Rattle.md_comparability.proofs.Shortest.{one_begin}

module _ (e : ℕ → ℕ → Bool) (class : List (Arc × ℕ)) (stopped : IsStopped e class) where
  pub forced : (chain : List Arc) → ((f : ℕ → ℕ → Bool) (first : Arc) → IsClass f first class → IsShortestToReverse f first chain) → IsShortestChain e chain
  forced chain found =
      let short = found e (arc stopped.u stopped.v) stopped.is in
      let is : IsForcingChain e chain = record {
        u = stopped.u;
        v = stopped.v;
        ascending = stopped.ascending;
        turns = short.to_reverse;
        least = λ x y other up list. stopped.least x y up (list_reaches e (arc x y) other list);
      } in record {
        chain = is;
        shortest = λ other that.
            let same = one_begin e chain other is that in
            let here = subst (λ u. IsListToReverse e (arc u that.v) other) same.0 that.turns in
            short.shortest other (subst (λ v. IsListToReverse e (arc stopped.u v) other) same.1 here);
      }

  pub no_none : ((f : ℕ → ℕ → Bool) (first : Arc) → IsClass f first class → Holds (keys_of class) (reverse first) → ⊥) → ⊥
  no_none none = none e (arc stopped.u stopped.v) stopped.is stopped.turns
