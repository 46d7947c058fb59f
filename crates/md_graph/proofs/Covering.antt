-- Words of which each has the bits of another one but for known ones.
use Rattle.std.proofs.Common.{◌≡◌, ℕ, ◌+◌, ◌*◌, ◌/◌, ◌%◌, ◌^◌, ◌<◌, ◌≤◌, bit_or, bit_xor, max, true, ltb, ◌==◌, ◌&&◌, ◌||◌, List, get_or, arith, ap, sym, ◌∙◌, below_more}
use Rattle.std.proofs.lemmas.Bool.Decides.{nat_tests}
use Rattle.std.proofs.lemmas.Nat.{le_or_l, le_or_r}
use Rattle.std.proofs.lemmas.Nat.Bits.{same_from_bits, bit_at_or, bit_at_xor, bit_at-lt}
use lib.Bits.{xor_self}
use Rattle.std.specs.Int.{bit_at}
use Rattle.std.specs.FinSet as set
use Rattle.md_graph.specs.Sets.{NameSet, Within}
use Rattle.md_graph.specs.Words.{bit_of, names_below, AreBitsAmong}
use Rattle.md_graph.proofs.SetLaws.{contains-union}
use Rattle.md_graph.proofs.BitWords.{InUse, from_both, zero_bit, contains-names_below}
use Rattle.md_graph.proofs.Comparing.{or_within, within_or, bit_is_name}

-- ---- one word

same_bits : (x y : ℕ) → x < 2 → y < 2 → (x + y) % 2 ≡ 0 → x ≡ y
same_bits x y p q none = omega arith

same_if_none : (a b : ℕ) → bit_xor a b ≡ 0 → a ≡ b
same_if_none a b none =
    same_from_bits a b (λ i. same_bits (bit_at a i) (bit_at b i) (bit_at-lt _ _) (bit_at-lt _ _) (sym (bit_at_xor a b i) ∙ zero_bit _ i none))

none_of_either : (x y : ℕ) → bit_or x y ≡ 0 → (x ≡ 0) × (y ≡ 0)
none_of_either x y none =
    let left = le_or_l x y in
    let right = le_or_r x y in (omega arith, omega arith)

-- the bits of a beside m, and those of b beside n, join u
abbrev Unknown : ℕ → ℕ → ℕ → ℕ → ℕ → ℕ
Unknown u a m b n = bit_or (bit_or u (bit_xor (bit_or a m) m)) (bit_xor (bit_or b n) n)

none_unknown : (u a m b n : ℕ) → Unknown u a m b n ≡ 0 → (u ≡ 0) × AreBitsAmong a m × AreBitsAmong b n
none_unknown u a m b n none =
    let outer = none_of_either _ _ none in
    let inner = none_of_either _ _ outer.0 in (
      inner.0,
      λ i _. within_or a m i (same_if_none _ _ inner.1),
      λ i _. within_or b n i (same_if_none _ _ outer.1),
    )

all_known : (u a m b n : ℕ) → a < 2 ^ 64 → b < 2 ^ 64 → u ≡ 0 → AreBitsAmong a m → AreBitsAmong b n → Unknown u a m b n ≡ 0
all_known u a m b n fits_a fits_b start left right =
    (λ i. bit_or (bit_or (start i) (bit_xor (or_within a m fits_a left i) m)) (bit_xor (or_within b n fits_b right i) n)) ∙ (λ i. bit_or (bit_or 0 (xor_self m i)) (xor_self n i))

-- ---- the words before a place

module _ (a m b n : ℕ → ℕ) where
  abbrev pub AllKnown : ℕ → Type 0
  AllKnown i = (k : ℕ) → k < i → AreBitsAmong (a k) (m k) × AreBitsAmong (b k) (n k)

  pub known_more : (u i : ℕ) → (u ≡ 0 → AllKnown i) → Unknown u (a i) (m i) (b i) (n i) ≡ 0 → AllKnown (i + 1)
  known_more u i before none =
      let here = none_unknown u (a i) (m i) (b i) (n i) none in
      below_more (λ k. AreBitsAmong (a k) (m k) × AreBitsAmong (b k) (n k)) i (before here.0) (here.1, here.2)

  pub none_more_unknown : (u i : ℕ) → a i < 2 ^ 64 → b i < 2 ^ 64 → (AllKnown i → u ≡ 0) → AllKnown (i + 1) → Unknown u (a i) (m i) (b i) (n i) ≡ 0
  none_more_unknown u i fits_a fits_b before all =
      all_known u (a i) (m i) (b i) (n i) fits_a fits_b (before (λ k h. all k (omega arith))) (all i (omega arith)).0 (all i (omega arith)).1

-- ---- sets

either_bit : (n q x y z : ℕ) → x ≤ max y z → x < 2 → y < 2 → z < 2 → (ltb q n && (x == 1)) ≡ true → ((ltb q n && (y == 1)) || (ltb q n && (z == 1))) ≡ true
either_bit n q x y z less p r s h = grind (arith, nat_tests)

less_either : (x y z : ℕ) → x < 2 → ((x == 1) ≡ true → ((y == 1) || (z == 1)) ≡ true) → x ≤ max y z
less_either x y z p less = grind (arith, nat_tests)

module _ (a b c : List ℕ) (n w u : ℕ) (s t r : NameSet) (is_a : names_below a n ≡ s) (is_b : names_below b n ≡ t) (is_c : names_below c n ≡ r) where
  -- words whose bits two others have keep a part of the sets of those
  pub within_either : InUse a u → ((k : ℕ) → k < u → AreBitsAmong (get_or a k 0) (bit_or (get_or b k 0) (get_or c k 0))) → Within s (set.union t r)
  within_either in_a known q h =
      contains-union t r q
      ∙ sym (λ i. set.contains (is_b i) q || set.contains (is_c i) q)
      ∙ (λ i. contains-names_below b n q i || contains-names_below c n q i)
      ∙ either_bit n q (bit_of a q) (bit_of b q) (bit_of c q)
      (from_both (λ k. bit_at (get_or a k 0) (q % 64) ≤ max (bit_at (get_or b k 0) (q % 64)) (bit_at (get_or c k 0) (q % 64))) u
      (λ k l.
      let less = known k l (q % 64) (omega arith) in
      let same = bit_at_or (get_or b k 0) (get_or c k 0) (q % 64) in
      omega arith)
      (λ k l. let none = zero_bit _ (q % 64) (in_a k l) in omega arith) (q / 64))
      (bit_at-lt _ _) (bit_at-lt _ _) (bit_at-lt _ _) (sym (contains-names_below a n q) ∙ ap (λ x. set.contains x q) is_a ∙ h)

  pub words_of_either : n ≡ 64 * w → Within s (set.union t r) → (k : ℕ) → k < w → AreBitsAmong (get_or a k 0) (bit_or (get_or b k 0) (get_or c k 0))
  words_of_either whole within k h i j =
      let same = bit_at_or (get_or b k 0) (get_or c k 0) i in
      let less = less_either (bit_at (get_or a k 0) i) (bit_at (get_or b k 0) i) (bit_at (get_or c k 0) i) (bit_at-lt _ _) (λ e.
      (λ x. sym (bit_is_name b n w k i t is_b whole h j) x || sym (bit_is_name c n w k i r is_c whole h j) x)
      ∙ sym (contains-union t r (64 * k + i))
      ∙ within (64 * k + i) (bit_is_name a n w k i s is_a whole h j ∙ e)) in
      omega arith
