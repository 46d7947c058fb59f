use Rattle.std.proofs.Common.{refl, arith}
use Rattle.md_graph.proofs.BitWords.{zero_from_bits, zero_bit}
use Rattle.md_graph.proofs.words.are_all_zero.Goals as goal

pub returns : goal.returns
returns c = (λ _ k i h _. zero_bit _ i (c.loop-i.invariant k (omega arith)), λ _. refl)

pub returns-then-words-i-ne0 : goal.returns-then-words-i-ne0
returns-then-words-i-ne0 c = (λ e. cc, λ none. absurd (c.if-words-i-ne0.true (zero_from_bits _ (c.type_inv.words c.loop-i.i).fits (λ i h. none c.loop-i.i i c.loop-i-test.true h))))
