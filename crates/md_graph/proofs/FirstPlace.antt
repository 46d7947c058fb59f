-- The lowest bit of words from a place on, and the least member there of the set that they keep.
use Rattle.std.proofs.Common.{◌≡◌, ◌≢◌, ℕ, ◌+◌, ◌-◌, ◌*◌, ◌/◌, ◌%◌, ◌^◌, ◌<◌, ◌≤◌, nat_le, if◌then◌else◌, get_or, List, Option, Some, None, IfSome, IfNone, refl, arith, ap, sym, ◌∙◌}
use Rattle.std.specs.Int.{bit_at, w64, trailing_zeros}
use Rattle.std.proofs.lemmas.Nat.Bits.{bit_at-trailing_zeros}
use Rattle.std.proofs.lemmas.Bool.Decides.{nat_tests}
use Rattle.md_graph.specs.Sets.{NameSet}
use Rattle.md_graph.specs.NameSet.{IsLeastFrom, NoneFrom}
use Rattle.md_graph.specs.Words.{bit_of, names_below}
use Rattle.md_graph.proofs.BitWords.{InUse, from_both, zero_bit, member_bit, member_here}
use Rattle.md_graph.proofs.LastPlace.{kept, unused}

-- no bit from the place `from` on, below the words from i on, is 1
abbrev pub NoneFromTo : List ℕ → ℕ → ℕ → Type 0
NoneFromTo words from i = (q : ℕ) → from ≤ q → q < 64 * i → bit_of words q ≡ 0

pub record IsFirstBit (words : List ℕ) (from u place : ℕ) : Type 0 where
  pub within : place < 64 * u
  pub above : from ≤ place
  pub here : bit_of words place ≡ 1
  pub first : (q : ℕ) → from ≤ q → q < place → bit_of words q ≡ 0

bit_in : (words : List ℕ) (i j : ℕ) → j < 64 → bit_of words (64 * i + j) ≡ bit_at (get_or words i 0) j
bit_in words i j h =
    let word : (64 * i + j) / 64 ≡ i = omega arith in
    let place : (64 * i + j) % 64 ≡ j = omega arith in
    rw (word, place) refl

-- the bits of a word from a place on are `a`
abbrev IsPart : List ℕ → ℕ → ℕ → ℕ → Type 0
IsPart words i p a = (k : ℕ) → k < 64 → bit_at a k ≡ (if nat_le p k then bit_at (get_or words i 0) k else 0)

kept_bit : (p k x y : ℕ) → x ≡ (if nat_le p k then y else 0) → x ≡ 1 → (p ≤ k) × (y ≡ 1)
kept_bit p k x y is one = grind (arith, nat_tests)

lost_bit : (p k x y : ℕ) → x ≡ (if nat_le p k then y else 0) → x ≡ 0 → p ≤ k → y ≡ 0
lost_bit p k x y is none up = grind (arith, nat_tests)

-- a word without bits from the place on is passed over
pub first_more : (words : List ℕ) (from i p a : ℕ) → IsPart words i p a → a ≡ 0 → ((j : ℕ) → j < p → 64 * i + j < from) → NoneFromTo words from i → NoneFromTo words from (i + 1)
first_more words from i p a part none low before q up h =
    from_both (λ x. x ≡ q → bit_of words x ≡ 0) (64 * i) (λ x l e. before x (omega arith) l)
    (λ x l e.
    let place : 64 * i + (x - 64 * i) ≡ x = omega arith in
    let high : p ≤ x - 64 * i = from_both (λ k. k ≡ x - 64 * i → p ≤ k) p (λ k m f. let under = low k m in absurd (omega arith)) (λ k m f. m) (x - 64 * i) refl in
    ap (bit_of words) (sym place) ∙ bit_in words i (x - 64 * i) (omega arith) ∙ lost_bit p (x - 64 * i) _ _ (part (x - 64 * i) (omega arith)) (zero_bit _ _ none) high) q refl

-- the lowest bit of a word that has one from the place on
pub first_found : (words : List ℕ) (from i u p a : ℕ) → i < u → a ≢ 0 → a < 2 ^ 64 → IsPart words i p a → ((j : ℕ) → j < p → 64 * i + j < from) → from ≤ 64 * i + p → NoneFromTo words from i → IsFirstBit words from u (64 * i + trailing_zeros w64 a)
first_found words from i u p a below some fits part low from_here before =
    let facts = bit_at-trailing_zeros w64 a (omega arith) (omega arith) in
    let small = facts.0 in
    let both = kept_bit p _ _ _ (part _ facts.0) facts.1 in
    let high = both.0 in
    record {
      within = omega arith;
      above = omega arith;
      here = bit_in words i _ facts.0 ∙ both.1;
      first = λ q up h. from_both (λ x. x ≡ q → bit_of words x ≡ 0) (64 * i) (λ x l e. before x (omega arith) l)
          (λ x l e.
          let place : 64 * i + (x - 64 * i) ≡ x = omega arith in
          let far : p ≤ x - 64 * i = from_both (λ k. k ≡ x - 64 * i → p ≤ k) p (λ k m f. let under = low k m in absurd (omega arith)) (λ k m f. m) (x - 64 * i) refl in
          ap (bit_of words) (sym place) ∙ bit_in words i (x - 64 * i) (omega arith) ∙ lost_bit p (x - 64 * i) _ _ (part (x - 64 * i) (omega arith)) (facts.2 (x - 64 * i) (omega arith)) far) q refl;
    }

from_start : (k x : ℕ) → x ≡ (if nat_le 0 k then x else 0)
from_start k x = grind (arith, nat_tests)

-- a whole word is its part from the place 0 on
pub whole_word : (words : List ℕ) (i : ℕ) → IsPart words i 0 (get_or words i 0)
whole_word words i k h = from_start k (bit_at (get_or words i 0) k)

-- what the first bit says of the set
pub least_from_or_none : (words : List ℕ) (n w u v : ℕ) (s : NameSet) (found : Option ℕ) → n ≡ 64 * w → u ≤ w → InUse words u → names_below words n ≡ s → IfSome found (λ place. (place < 64 * u) × (v ≤ place) × (bit_of words place ≡ 1) × ((q : ℕ) → v ≤ q → q < place → bit_of words q ≡ 0)) → IfNone found ((q : ℕ) → v ≤ q → q < 64 * u → bit_of words q ≡ 0) → IfSome found (IsLeastFrom s v) × IfNone found (NoneFrom s v) × IfSome found (λ place. place < n)
least_from_or_none words n w u v s None whole few rest is some none = (
  tt,
  (λ q m.
      let one = member_bit n q _ _ (kept words n s is q) m in
      from_both (λ x. x ≡ q → x < v) v (λ x l _. l)
      (λ x l e.
      let nothing : bit_of words x ≡ 0 = from_both (λ y. v ≤ y → bit_of words y ≡ 0) (64 * u) (λ y k h. none y h k) (λ y k h. unused words u y rest k) x l in
      let here : bit_of words x ≡ 1 = ap (bit_of words) e ∙ one in
      absurd (omega arith)) q refl),
  tt,
)
least_from_or_none words n w u v s (Some place) whole few rest is some none =
    let within = some.0 in
    let below : place < n = omega arith in (
      record {
        member = kept words n s is place ∙ member_here n place _ below some.2;
        above = some.1;
        first = λ q m up. from_both (λ x. x ≡ q → place ≤ x) place
            (λ x l e.
            let one : bit_of words x ≡ 1 = ap (bit_of words) e ∙ member_bit n q _ _ (kept words n s is q) m in
            let nothing : bit_of words x ≡ 0 = some.3 x (omega arith) l in
            absurd (omega arith))
            (λ x l _. l) q refl;
      },
      tt,
      below,
    )
