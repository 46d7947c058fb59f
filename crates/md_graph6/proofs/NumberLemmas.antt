-- Numbers that bits of a body spell, and how many bits a number has.
use Rattle.std.proofs.Common.{◌≡◌, ℕ, zero, suc, ◌+◌, ◌-◌, ◌*◌, ◌/◌, ◌%◌, ◌^◌, ◌<◌, ◌≤◌, true, false, nat_le, List, length, get_or, refl, sym, ap, ap₂, ◌∙◌, arith, inl, inr, bit_and}
use Rattle.std.specs.Int.{bit_at}
use Rattle.std.proofs.Math.Nat.{pow-suc, pow-le-pow_right}
use Rattle.std.proofs.lemmas.Nat.{leading_top, and_mask, one_shl, shr_high, mod_low, shr_below}
use Rattle.std.proofs.lemmas.List.{get_or_default, get_or_past}
use Rattle.std.proofs.lemmas.Bool.{cases_lt}
use Rattle.std.proofs.lemmas.Bool.Decides.{nat_tests}
use lib.Count.{count_leading_zeros}
use Rattle.md_graph.specs.declared.TheConstants.{NAMES}
use Rattle.md_graph.proofs.Limits.{NAMES-lt}
use Rattle.md_graph6.specs.Bits.{bit}
use Rattle.md_graph6.specs.Window.{AreGroups}
use Rattle.md_graph6.proofs.BitLemmas.{byte_bits}
use Rattle.md_graph6.specs.Sparse.{digit_count, width, spelt_number}

-- ---- the width

-- a number from 2 ^ j on and below the double has j + 1 digits
digits_of : (most m j : ℕ) → j < most → 2 ^ j ≤ m → m < 2 ^ suc j → digit_count most m ≡ suc j
unfolding digit_count
digits_of zero m j inside low high = absurd (omega (arith, inside))
digits_of (suc k) m j inside low high =
    elim (cases_lt j k) [
      | inl less ↦
          let wide : 2 ^ suc j ≤ 2 ^ k = pow-le-pow_right (omega arith) less in
          let above : nat_le (2 ^ k) m ≡ false = grind (arith, nat_tests) in
          rw above (digits_of k m j less low high)
      | inr more ↦
          let same : j ≡ k = omega (arith, inside) in
          let here : 2 ^ k ≤ m = rw (← same) low in
          let test : nat_le (2 ^ k) m ≡ true = grind (arith, nat_tests) in
          rw test (ap suc (sym same))
    ]

pub width_counted : (n : ℕ) → n ≤ NAMES → 1 < n → 32 - count_leading_zeros 32 (n - 1) ≡ width n
width_counted n few some =
    let names = NAMES-lt in
    let top = leading_top 32 (n - 1) (omega arith) (omega arith) in
    let count = top.1 in
    let is : 32 - count_leading_zeros 32 (n - 1) ≡ suc top.0 = omega arith in
    is ∙ sym (digits_of 32 (n - 1) top.0 (omega arith) top.2 top.3)

pub width_small : (n : ℕ) → n ≤ NAMES → 1 < n → 32 - count_leading_zeros 32 (n - 1) ≤ 16
width_small n few some =
    let names = NAMES-lt in
    let top = leading_top 32 (n - 1) (omega arith) (omega arith) in
    let count = top.1 in
    let low = top.2 in
    elim (cases_lt top.0 16) [
      | inl less ↦ omega arith
      | inr more ↦ let wide : 2 ^ 16 ≤ 2 ^ top.0 = pow-le-pow_right (omega arith) more in absurd (omega arith)
    ]

-- ---- numbers

doubled : (a p b c : ℕ) → 2 * (a * p + b) + c ≡ a * (p * 2) + (2 * b + c)
doubled a p b c = grind arith

one_time : (x : ℕ) → x ≡ x * 2 ^ 0 + 0
one_time x = omega arith

-- bits behind others
pub number_split : (body : List ℕ) (place a b : ℕ) → spelt_number body place (a + b) ≡ spelt_number body place a * 2 ^ b + spelt_number body (place + a) b
unfolding spelt_number
number_split body place a zero =
    let e : a + 0 ≡ a = omega arith in
    ap (spelt_number body place) e ∙ one_time (spelt_number body place a)
number_split body place a (suc b) =
    let up : a + suc b ≡ suc (a + b) = omega arith in
    let e : place + (a + b) ≡ place + a + b = omega arith in
    ap (spelt_number body place) up
    ∙ ap₂ (λ x y. 2 * x + bit body y) (number_split body place a b) e
    ∙ doubled (spelt_number body place a) (2 ^ b) (spelt_number body (place + a) b) (bit body (place + a + b))
    ∙ ap (λ p. spelt_number body place a * p + (2 * spelt_number body (place + a) b + bit body (place + a + b))) (sym (pow-suc 2 b))

bit_small : (x : ℕ) → x % 2 < 2
bit_small x = omega arith

pub number_below : (body : List ℕ) (place count : ℕ) → spelt_number body place count < 2 ^ count
unfolding spelt_number
number_below body place zero = omega arith
number_below body place (suc count) =
    let last = bit_small ((get_or body ((place + count) / 6) 63 - 63) / 2 ^ (5 - (place + count) % 6)) in
    omega (arith, number_below body place count, pow-suc 2 count)

-- ---- the six bits of a byte

six_of : (g a b c d e f : ℕ) → g < 64 → a ≡ bit_at g 5 → b ≡ bit_at g 4 → c ≡ bit_at g 3 → d ≡ bit_at g 2 → e ≡ bit_at g 1 → f ≡ bit_at g 0
    → 2 * (2 * (2 * (2 * (2 * (2 * 0 + a) + b) + c) + d) + e) + f ≡ g
six_of g a b c d e f small ea eb ec ed ee ef = omega arith

group_number : (body : List ℕ) (at : ℕ) → get_or body at 63 - 63 < 64 → spelt_number body (6 * at) 6 ≡ get_or body at 63 - 63
unfolding spelt_number
group_number body at small =
    six_of (get_or body at 63 - 63) _ _ _ _ _ _ small
    (byte_bits body at 0 (omega arith))
    (byte_bits body at 1 (omega arith))
    (byte_bits body at 2 (omega arith))
    (byte_bits body at 3 (omega arith))
    (byte_bits body at 4 (omega arith))
    (byte_bits body at 5 (omega arith))

pub byte_number : (body : List ℕ) (at : ℕ) → AreGroups body → at < length body → get_or body at 0 - 63 ≡ spelt_number body (6 * at) 6
byte_number body at groups inside =
    let e : get_or body at 0 ≡ get_or body at 63 = get_or_default body at 0 63 inside in
    let high = groups.high at inside in
    ap (λ x. x - 63) e ∙ sym (group_number body at (omega arith))

pub no_number : (body : List ℕ) (at : ℕ) → length body ≤ at → 0 ≡ spelt_number body (6 * at) 6
no_number body at past =
    let e : get_or body at 63 ≡ 63 = get_or_past body at 63 past in
    let none : get_or body at 63 - 63 ≡ 0 = omega arith in
    sym none ∙ sym (group_number body at (omega arith))

-- ---- four bytes, and bits in them

two_numbers : (body : List ℕ) (place next n p high low : ℕ) → high ≡ spelt_number body place n → low ≡ spelt_number body next n → next ≡ place + n → p ≡ 2 ^ n
    → high * p + low ≡ spelt_number body place (n + n)
two_numbers body place next n p high low first second follows power =
    rw (first, second, follows, power) (sym (number_split body place n n))

pub four_numbers : (body : List ℕ) (at a b c d : ℕ) → a ≡ spelt_number body (6 * at) 6 → b ≡ spelt_number body (6 * (at + 1)) 6
    → c ≡ spelt_number body (6 * (at + 2)) 6 → d ≡ spelt_number body (6 * (at + 3)) 6
    → (a * 64 + b) * 4096 + (c * 64 + d) ≡ spelt_number body (6 * at) 24
four_numbers body at a b c d ea eb ec ed =
    let high = two_numbers body (6 * at) (6 * (at + 1)) 6 64 a b ea eb (omega arith) refl in
    let low = two_numbers body (6 * (at + 2)) (6 * (at + 3)) 6 64 c d ec ed (omega arith) refl in
    two_numbers body (6 * at) (6 * (at + 2)) 12 4096 (a * 64 + b) (c * 64 + d) high low (omega arith) refl

pub low_part_is : (number count : ℕ) → count ≤ 24 → bit_and number (1 * 2 ^ count % 4294967296 - 1) ≡ number % 2 ^ count
low_part_is number count small = ap (λ m. bit_and number (m - 1)) (one_shl count 32 (omega arith)) ∙ and_mask number count

-- the bits behind are cut off by a shift, those before by a remainder
pub number_within : (body : List ℕ) (place word shift count rest : ℕ) → shift + count + rest ≡ 24 → word ≡ spelt_number body place 24
    → word / 2 ^ rest % 2 ^ count ≡ spelt_number body (place + shift) count
number_within body place word shift count rest sum is =
    let all : word ≡ spelt_number body place (shift + count) * 2 ^ rest + spelt_number body (place + (shift + count)) rest =
    is ∙ ap (spelt_number body place) (sym sum) ∙ number_split body place (shift + count) rest in
    let front : word / 2 ^ rest ≡ spelt_number body place (shift + count) =
    ap (λ x. x / 2 ^ rest) all ∙ shr_high _ rest _ (number_below body (place + (shift + count)) rest) in
    ap (λ x. x % 2 ^ count) (front ∙ number_split body place shift count)
    ∙ mod_low _ count _ (number_below body (place + shift) count)

-- a pair's bit
pub step_small : (body : List ℕ) (place k : ℕ) → spelt_number body place (k + 1) / 2 ^ k ≤ 1
step_small body place k =
    let all : spelt_number body place (1 + k) < 2 ^ (1 + k) = number_below body place (1 + k) in
    let e : k + 1 ≡ 1 + k = omega arith in
    let half : spelt_number body place (1 + k) / 2 ^ k < 2 ^ 1 = shr_below (spelt_number body place (1 + k)) 1 k all in
    rw e (omega (arith, half))
