-- The highest bit of words, and the greatest member of the set that they keep.
use Rattle.std.proofs.Common.{◌≡◌, ◌≢◌, ℕ, suc, ◌+◌, ◌-◌, ◌*◌, ◌/◌, ◌%◌, ◌^◌, ◌<◌, ◌≤◌, ◌==◌, ◌&&◌, ltb, List, Option, Some, None, IfSome, IfNone, refl, arith, ap, sym, ◌∙◌}
use Rattle.std.specs.Int.{bit_at}
use Rattle.std.specs.FinSet as set
use Rattle.std.proofs.Math.Nat.{div-eq_of_lt, div-eq_of_lt-le, pow-suc, pow-le-pow_right}
use Rattle.std.proofs.lemmas.Nat.{leading_top}
use lib.Count.{count_leading_zeros}
use Rattle.md_graph.specs.Sets.{NameSet}
use Rattle.md_graph.specs.NameSet.{IsGreatest, NoneFrom}
use Rattle.md_graph.specs.Words.{bit_of, names_below}
use Rattle.md_graph.proofs.BitWords.{InUse, from_both, zero_bit, contains-names_below, member_bit, member_here}

-- ---- one word

top_bit : (a j : ℕ) → 2 ^ j ≤ a → a < 2 ^ suc j → bit_at a j ≡ 1
top_bit a j low high =
    let one : a / 2 ^ j ≡ 1 = div-eq_of_lt-le (2 ^ j) (omega arith) (omega (arith, pow-suc 2 j)) in
    ap (λ x. x % 2) one

above_top : (a j k : ℕ) → a < 2 ^ suc j → j < k → bit_at a k ≡ 0
above_top a j k high up =
    let wide : 2 ^ suc j ≤ 2 ^ k = pow-le-pow_right (omega arith) up in
    ap (λ x. x % 2) (div-eq_of_lt (omega arith))

pub highest_here : (a : ℕ) → a < 2 ^ 64 → a ≢ 0 → bit_at a (63 - count_leading_zeros 64 a) ≡ 1
highest_here a fits some =
    let top = leading_top 64 a (omega arith) fits in
    let count = top.1 in
    let place : 63 - count_leading_zeros 64 a ≡ top.0 = omega arith in
    rw place (top_bit a top.0 top.2 top.3)

pub none_above : (a : ℕ) → a < 2 ^ 64 → a ≢ 0 → (k : ℕ) → 63 - count_leading_zeros 64 a < k → bit_at a k ≡ 0
none_above a fits some k up =
    let top = leading_top 64 a (omega arith) fits in
    let count = top.1 in
    above_top a top.0 k top.3 (omega arith)

-- ---- words from the last to the first

-- no bit of the words from i on, below u, is 1
abbrev pub NoneBehind : List ℕ → ℕ → ℕ → Type 0
NoneBehind words i u = (q : ℕ) → 64 * i ≤ q → q < 64 * u → bit_of words q ≡ 0

pub record IsLastBit (words : List ℕ) (u place : ℕ) : Type 0 where
  pub within : place < 64 * u
  pub here : bit_of words place ≡ 1
  pub last : (q : ℕ) → place < q → q < 64 * u → bit_of words q ≡ 0

-- ---- the set

pub unused : (words : List ℕ) (u q : ℕ) → InUse words u → 64 * u ≤ q → bit_of words q ≡ 0
unused words u q rest h = zero_bit _ (q % 64) (rest (q / 64) (omega arith))

abbrev pub kept : (words : List ℕ) (n : ℕ) (s : NameSet) → names_below words n ≡ s → (q : ℕ) → set.contains s q ≡ (ltb q n && (bit_of words q == 1))
kept words n s is q = ap (λ x. set.contains x q) (sym is) ∙ contains-names_below words n q

pub greatest_or_none : (words : List ℕ) (n w u : ℕ) (s : NameSet) (found : Option ℕ) → n ≡ 64 * w → u ≤ w → InUse words u → names_below words n ≡ s → IfSome found (λ place. (place < 64 * u) × (bit_of words place ≡ 1) × ((q : ℕ) → place < q → q < 64 * u → bit_of words q ≡ 0)) → IfNone found ((q : ℕ) → q < 64 * u → bit_of words q ≡ 0) → IfSome found (IsGreatest s) × IfNone found (NoneFrom s 0) × IfSome found (λ place. place < n)
greatest_or_none words n w u s None whole few rest is some none = (
  tt,
  (λ q m.
      let one = member_bit n q _ _ (kept words n s is q) m in
      let nothing : bit_of words q ≡ 0 = from_both (λ x. bit_of words x ≡ 0) (64 * u) none (λ x l. unused words u x rest l) q in
      absurd (omega arith)),
  tt,
)
greatest_or_none words n w u s (Some place) whole few rest is some none =
    let within = some.0 in
    let below : place < n = omega arith in (
      record {
        member = kept words n s is place ∙ member_here n place _ below some.1;
        last = λ q m. from_both (λ x. x ≡ q → x ≤ place) (place + 1) (λ x l _. omega arith)
            (λ x l e.
            let one : bit_of words x ≡ 1 = ap (bit_of words) e ∙ member_bit n q _ _ (kept words n s is q) m in
            let nothing : bit_of words x ≡ 0 = from_both (λ y. place < y → bit_of words y ≡ 0) (64 * u) (λ y k h. some.2 y h k) (λ y k h. unused words u y rest k) x (omega arith) in
            absurd (omega arith)) q refl;
      },
      tt,
      below,
    )
