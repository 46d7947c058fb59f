use Rattle.std.proofs.Common.{arith, ap, refl}
use Rattle.std.specs.Int.{bit_at}
use Rattle.std.proofs.lemmas.Nat.Bits.{same_from_bits_below}
use Rattle.md_graph.proofs.words.are_equal.Goals as goal

pub returns-then-first-i : goal.returns-then-first-i
returns-then-first-i c = (
  λ e. cc,
  λ same. absurd (c.if-first-i.true
      (same_from_bits_below 64 _ _ (c.type_inv.first c.loop-i.i).fits (c.type_inv.second c.loop-i.i).fits (λ i h. same c.loop-i.i i c.loop-i-test.true h))),
)

pub returns : goal.returns
returns c = (λ _ k i h _. ap (λ w. bit_at w i) (c.loop-i.invariant k (omega arith)), λ _. refl)
