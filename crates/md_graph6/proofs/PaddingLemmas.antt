-- The padding of a body stands in its last byte.
use Rattle.std.proofs.Common.{◌≡◌, ℕ, zero, suc, ◌+◌, ◌-◌, ◌*◌, ◌/◌, ◌%◌, ◌^◌, ◌<◌, ◌≤◌, ◌==◌, ◌||◌, false, not, List, length, get_or, ◌⊎◌, inl, inr, refl, sym, ◌∙◌, arith, add-one, add_comm}
use Rattle.std.specs.Int.{bit_at}
use Rattle.std.proofs.lemmas.Bool.{or_parts}
use Rattle.std.proofs.lemmas.Bool.Decides.{nat_tests, eqb_tells}
use Rattle.std.proofs.lemmas.Nat.{mod-pow-add}
use Rattle.std.proofs.lemmas.Nat.Bits.{bit_at-lt}
use Rattle.std.proofs.Math.Pow.{pow_mono}
use Rattle.std.proofs.Math.Nat.{mod-eq_of_lt, mod-one, one-le-pow}
use Rattle.std.proofs.lemmas.List.{get_or_default}
use Rattle.md_graph6.specs.Bits.{bit, group_count}
use Rattle.md_graph6.specs.Line.{some_bit, is_set_behind}

-- a number below 2 is 0 or 1
small_digit : (b : ℕ) → b < 2 → (b ≡ 0) ⊎ (b ≡ 1)
small_digit zero small = inl refl
small_digit (suc zero) small = inr refl
small_digit (suc (suc b)) small = absurd (omega arith)

-- a number made of a digit of weight w and a rest is 0 where both are
is_zero-digit : (b w r : ℕ) → b < 2 → 0 < w → not (b * w + r == 0) ≡ ((b == 1) || not (r == 0))
is_zero-digit b w r small some =
    elim (small_digit b small) [
      | inl zero_digit ↦ rw zero_digit (grind (arith, nat_tests))
      | inr one_digit ↦ rw one_digit (grind (arith, nat_tests))
    ]

-- one more of the lowest bits
is_set-suc : (x p : ℕ) → not (x % 2 ^ suc p == 0) ≡ ((bit_at x p == 1) || not (x % 2 ^ p == 0))
is_set-suc x p =
    let e : x % 2 ^ (1 + p) ≡ (x / 2 ^ p % 2 ^ 1) * 2 ^ p + x % 2 ^ p = mod-pow-add x 1 p in
    let low : bit_at x p < 2 = bit_at-lt x p in
    rw (← add-one p, add_comm p 1, e) (is_zero-digit (bit_at x p) (2 ^ p) (x % 2 ^ p) low (one-le-pow p 2 (omega arith)))

-- 2 ^ p, made by a shift of eight bits
pub shifted : (p : ℕ) → p < 6 → 1 * 2 ^ p % 256 ≡ 2 ^ p
shifted p h =
    let fits : 2 ^ p ≤ 2 ^ 5 = pow_mono {i = p} {j = 5} (omega arith) in
    let one : 1 * 2 ^ p ≡ 2 ^ p = omega arith in
    rw one (mod-eq_of_lt (omega arith))

-- some bit from `first` to the end, fewer than six, is 1 where the lowest bits of the last byte aren't all 0
some_bit-last : (body : List ℕ) (p first : ℕ) → p < 6 → first + p ≡ 6 * length body
    → some_bit body first p ≡ not ((get_or body (length body - 1) 63 - 63) % 2 ^ p == 0)
unfolding some_bit
some_bit-last body zero first h e = rw mod-one refl
some_bit-last body (suc p) first h e =
    let place : first / 6 ≡ length body - 1 = omega arith in
    let left : 5 - first % 6 ≡ p = omega arith in
    rw (place, left, some_bit-last body p (first + 1) (omega arith) (omega arith))
    (sym (is_set-suc (get_or body (length body - 1) 63 - 63) p))

is_set_behind-last : (body : List ℕ) (count : ℕ) → length body ≡ group_count count
    → is_set_behind body count ≡ not ((get_or body (length body - 1) 63 - 63) % 2 ^ (6 * length body - count) == 0)
is_set_behind-last body count e =
    rw (← e) (some_bit-last body (6 * length body - count) count (omega arith) (omega arith))

-- a body without bytes has no padding
pub is_set_behind-none : (body : List ℕ) (count : ℕ) → length body ≡ group_count count → length body < 1
    → false ≡ is_set_behind body count
is_set_behind-none body count e none =
    let nothing : 6 * length body - count ≡ 0 = omega arith in
    sym (is_set_behind-last body count e ∙ rw (nothing, mod-one) refl)

-- the test of the code
pub is_set_behind-shift : (body : List ℕ) (count : ℕ) → length body ≡ group_count count → 1 ≤ length body
    → not ((get_or body (length body - 1) 0 - 63) % (1 * 2 ^ (length body * 6 - count) % 256) == 0) ≡ is_set_behind body count
is_set_behind-shift body count e some =
    let width : length body * 6 - count ≡ 6 * length body - count = omega arith in
    let inside : length body - 1 < length body = omega arith in
    rw (width, shifted (6 * length body - count) (omega arith), get_or_default body (length body - 1) 0 63)
    (sym (is_set_behind-last body count e))

-- a bit is 0 or 1
bit-zero : (b : ℕ) → b < 2 → (b == 1) ≡ false → b ≡ 0
bit-zero b small e = grind (arith, nat_tests)

-- no bit is 1 where all are 0
some_bit-none : (body : List ℕ) (count first : ℕ) → ((k : ℕ) → first ≤ k → k < first + count → bit body k ≡ 0)
    → some_bit body first count ≡ false
unfolding some_bit
some_bit-none body zero first blank = refl
some_bit-none body (suc count) first blank =
    rw (blank first (omega arith) (omega arith))
    (some_bit-none body count (first + 1) (λ k low high. blank k (omega arith) (omega arith)))

-- and all are 0 where none is 1
some_bit-all : (body : List ℕ) (count first : ℕ) → some_bit body first count ≡ false
    → (k : ℕ) → first ≤ k → k < first + count → bit body k ≡ 0
unfolding some_bit
some_bit-all body zero first none k low high = absurd (omega arith)
some_bit-all body (suc count) first none k low high =
    let parts = or_parts (bit body first == 1) (some_bit body (first + 1) count) none in
    elim (eqb_tells k first) [
      | inl (test, is) ↦ rw is (bit-zero (bit body first) (bit_at-lt _ _) parts.0)
      | inr (test, other) ↦ some_bit-all body count (first + 1) parts.1 k (omega arith) (omega arith)
    ]

-- the bits of a body without padding, and the padding of a body whose other bits are 0
pub padding-none : (body : List ℕ) (count : ℕ) → ((k : ℕ) → count ≤ k → k < 6 * group_count count → bit body k ≡ 0)
    → is_set_behind body count ≡ false
padding-none body count blank =
    some_bit-none body (6 * group_count count - count) count (λ k low high. blank k low (omega arith))

pub padding-all : (body : List ℕ) (count : ℕ) → is_set_behind body count ≡ false
    → (k : ℕ) → count ≤ k → k < 6 * group_count count → bit body k ≡ 0
padding-all body count none k low high =
    some_bit-all body (6 * group_count count - count) count none k low (omega arith)
