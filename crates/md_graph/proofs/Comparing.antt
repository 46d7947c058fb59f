-- Words with the same bits, and words whose bits others have too.
use Rattle.std.proofs.Common.{◌≡◌, ℕ, ◌+◌, ◌*◌, ◌/◌, ◌%◌, ◌^◌, ◌<◌, ◌≤◌, bit_or, max, true, ltb, ◌==◌, ◌&&◌, List, get_or, arith, ap, sym, ◌∙◌}
use Rattle.std.proofs.lemmas.Bool.Decides.{nat_tests}
use Rattle.std.proofs.lemmas.Nat.Bits.{same_from_bits, bit_at_or, bit_at_above, bit_at-lt}
use Rattle.std.specs.Int.{bit_at}
use Rattle.std.specs.FinSet as set
use Rattle.md_graph.specs.Sets.{NameSet, Within}
use Rattle.md_graph.specs.Words.{bit_of, names_below}
use Rattle.md_graph.proofs.BitWords.{InUse, from_both, from_bits, zero_bit, block_of_word, contains-names_below}

-- a word that has the bits of another one takes in nothing by it
pub or_within : (a b : ℕ) → a < 2 ^ 64 → ((i : ℕ) → i < 64 → bit_at a i ≤ bit_at b i) → bit_or a b ≡ b
or_within a b fits less = same_from_bits _ _ (λ i.
    bit_at_or a b i
    ∙ from_both (λ i. max (bit_at a i) (bit_at b i) ≡ bit_at b i) 64 (λ i h. let known = less i h in omega arith) (λ i h. let none = bit_at_above a 64 i fits h in omega arith) i)

pub within_or : (a b i : ℕ) → bit_or a b ≡ b → bit_at a i ≤ bit_at b i
within_or a b i is = let same : max (bit_at a i) (bit_at b i) ≡ bit_at b i = sym (bit_at_or a b i) ∙ ap (λ w. bit_at w i) is in omega arith

-- bit i of word k is name 64 * k + i
pub bit_is_name : (words : List ℕ) (n w k i : ℕ) (s : NameSet) → names_below words n ≡ s → n ≡ 64 * w → k < w → i < 64 → set.contains s (64 * k + i) ≡ (bit_at (get_or words k 0) i == 1)
bit_is_name words n w k i s is whole within h =
    let word : 64 * k / 64 ≡ k = omega arith in
    block_of_word words n w (64 * k) s is whole (omega arith) (omega arith) i h ∙ ap (λ j. bit_at (get_or words j 0) i == 1) word

same_bit : (x y : ℕ) → x < 2 → y < 2 → (x == 1) ≡ (y == 1) → x ≡ y
same_bit x y p q same = grind (arith, nat_tests)

less_bit : (x y : ℕ) → x < 2 → ((x == 1) ≡ true → (y == 1) ≡ true) → x ≤ y
less_bit x y p less = grind (arith, nat_tests)

less_name : (n q x y : ℕ) → x ≤ y → y < 2 → (ltb q n && (x == 1)) ≡ true → (ltb q n && (y == 1)) ≡ true
less_name n q x y less few h = grind (arith, nat_tests)

module _ (a b : List ℕ) (n w ua ub u : ℕ) (s t : NameSet) (in_a : InUse a ua) (is_a : names_below a n ≡ s) (is_b : names_below b n ≡ t) where
  -- equal words keep equal sets
  pub same_of_words : InUse b ub → u ≡ max ua ub → ((k i : ℕ) → k < u → i < 64 → bit_at (get_or a k 0) i ≡ bit_at (get_or b k 0) i) → s ≡ t
  same_of_words in_b e same = sym is_a ∙ from_bits a n _ (λ q.
      contains-names_below b n q
      ∙ ap (λ x. ltb q n && (x == 1)) (sym (from_both (λ k. bit_at (get_or a k 0) (q % 64) ≡ bit_at (get_or b k 0) (q % 64)) u
      (λ k h. same k (q % 64) h (omega arith))
      (λ k h. zero_bit _ (q % 64) (in_a k (omega arith)) ∙ sym (zero_bit _ (q % 64) (in_b k (omega arith)))) (q / 64)))) ∙ is_b

  pub words_of_same : n ≡ 64 * w → s ≡ t → (k i : ℕ) → k < w → i < 64 → bit_at (get_or a k 0) i ≡ bit_at (get_or b k 0) i
  words_of_same whole e k i h j =
      same_bit _ _ (bit_at-lt _ _) (bit_at-lt _ _) (sym (bit_is_name a n w k i s is_a whole h j) ∙ ap (λ r. set.contains r (64 * k + i)) e ∙ bit_is_name b n w k i t is_b whole h j)

  -- words whose bits others have keep a part of their set
  pub within_of_words : ((k i : ℕ) → k < ua → i < 64 → bit_at (get_or a k 0) i ≤ bit_at (get_or b k 0) i) → Within s t
  within_of_words less q h =
      ap (λ r. set.contains r q) (sym is_b) ∙ contains-names_below b n q
      ∙ less_name n q (bit_of a q) (bit_of b q)
      (from_both (λ k. bit_at (get_or a k 0) (q % 64) ≤ bit_at (get_or b k 0) (q % 64)) ua
      (λ k l. less k (q % 64) l (omega arith))
      (λ k l. let none = zero_bit _ (q % 64) (in_a k l) in omega arith) (q / 64))
      (bit_at-lt _ _) (sym (contains-names_below a n q) ∙ ap (λ r. set.contains r q) is_a ∙ h)

  pub words_of_within : n ≡ 64 * w → Within s t → (k i : ℕ) → k < w → i < 64 → bit_at (get_or a k 0) i ≤ bit_at (get_or b k 0) i
  words_of_within whole f k i h j =
      less_bit _ _ (bit_at-lt _ _) (λ e. sym (bit_is_name b n w k i t is_b whole h j) ∙ f (64 * k + i) (bit_is_name a n w k i s is_a whole h j ∙ e))
