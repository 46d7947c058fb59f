use Rattle.std.proofs.Common.{arith, refl}
use Rattle.md_graph.proofs.Comparing.{or_within, within_or}
use Rattle.md_graph.proofs.words.are_within.Goals as goal

pub returns-then-first-i : goal.returns-then-first-i
returns-then-first-i c = (
  λ e. cc,
  λ less. absurd (c.if-first-i.true (or_within _ _ (c.type_inv.first c.loop-i.i).fits (λ i h. less c.loop-i.i i c.loop-i-test.true h))),
)

pub returns : goal.returns
returns c = (λ _ k i h _. within_or _ _ i (c.loop-i.invariant k (omega arith)), λ _. refl)
