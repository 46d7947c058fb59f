-- Words that hold bits of a body.
use Rattle.std.proofs.Common.{◌≡◌, ℕ, ◌+◌, ◌-◌, ◌*◌, ◌/◌, ◌%◌, ◌^◌, ◌<◌, ◌≤◌, Bool, true, false, ◌&&◌, eqb, ltb, List, length, get_or, rules, refl, sym, ap, ◌∙◌, arith, bit_and, bit_or, nat_lt, if◌then◌else◌, ⊎_elim}
use Rattle.std.specs.Int.{bit_at}
use Rattle.std.proofs.lemmas.Nat.{shr-shr, shr_split, shr_below, shl_whole, or_comm, or_shifted, and_mask, one_shl, mul-add-lt, pow-add, pow_pos, mod_below}
use Rattle.std.proofs.lemmas.Nat.Bits.{bit_at_or, bit_at_above, bit_at_cat_low, bit_at_cat_high, bit_at-zero}
use Rattle.std.proofs.lemmas.Bool.{cases_lt, and_parts, eqb-true, ltb-true, agree_below, agree_below_at}
use Rattle.md_graph.proofs.Transposing.{bit_at_shl}
use Rattle.md_graph6.specs.declared.body.TheConstants.{TURNED}
use Rattle.std.proofs.lemmas.List.{get_or_default}
use Rattle.md_graph6.specs.Bits.{bit}
use Rattle.md_graph6.specs.Window.{IsWindow}

-- `(a << n) | b`
pub or_joined : (low high n : ℕ) → low < 2 ^ n → high < 2 ^ 12 → n ≤ 52 → bit_or low (high * 2 ^ n % 2 ^ 64) ≡ high * 2 ^ n + low
or_joined low high n fits few room =
    ap (bit_or low) (shl_whole high 12 n 64 few (omega arith)) ∙ or_comm low (high * 2 ^ n) ∙ or_shifted high n low fits

-- a remainder by a power of two has the low bits
pub bit_at_mod : (n w k : ℕ) → k < w → bit_at (n % 2 ^ w) k ≡ bit_at n k
bit_at_mod n w k h =
    sym (bit_at_cat_low (n / 2 ^ w) w (n % 2 ^ w) k h) ∙ ap (λ x. bit_at x k) (shr_split n w)

pub bit_at_mod_above : (n w k : ℕ) → w ≤ k → bit_at (n % 2 ^ w) k ≡ 0
bit_at_mod_above n w k h = bit_at_above (n % 2 ^ w) w k (mod_below n (2 ^ w) (pow_pos w)) h

pub bit_at_shl_low : (n w k : ℕ) → k < w → bit_at (n * 2 ^ w) k ≡ 0
bit_at_shl_low n w k h =
    let e : n * 2 ^ w ≡ n * 2 ^ w + 0 = omega arith in
    ap (λ x. bit_at x k) e ∙ bit_at_cat_low n w 0 k h ∙ bit_at-zero k

-- the bits of `low` and those of `high` behind them
pub join_window : (body : List ℕ) (place n next m whole low high : ℕ)
    → IsWindow body place n low → IsWindow body next m high → next ≡ place + n → whole ≡ n + m
    → IsWindow body place whole (high * 2 ^ n + low)
join_window body place n next m whole low high first second follows sum = record {
  below =
      let p : high * 2 ^ n + low < 2 ^ n * 2 ^ m = mul-add-lt high (2 ^ n) low (2 ^ m) second.below first.below in
      rw (sum, pow-add 2 n m) p;
  bits = λ k h. ⊎_elim
      (λ (low_part : k < n). bit_at_cat_low high n low k low_part ∙ first.bits k low_part)
      (λ (high_part : n ≤ k).
      let e : next + (k - n) ≡ place + k = omega arith in
      bit_at_cat_high high n low k first.below high_part ∙ second.bits (k - n) (omega arith) ∙ ap (bit body) e)
      (cases_lt k n);
}

-- the six bits of byte k of a body
pub byte_bits : (body : List ℕ) (k r : ℕ) → r < 6 → bit body (6 * k + r) ≡ bit_at (get_or body k 63 - 63) (5 - r)
byte_bits body k r below =
    let at : (6 * k + r) / 6 ≡ k = omega (arith, below) in
    let rest : (6 * k + r) % 6 ≡ r = omega (arith, below) in
    rw (at, rest) refl

-- the same as a word
pub group_window : (body : List ℕ) (at group : ℕ) → group < 64
    → ((k : ℕ) → k < 6 → bit_at group k ≡ bit_at (get_or body at 63 - 63) (5 - k))
    → IsWindow body (6 * at) 6 group
group_window body at group small bits = record {
  below = small;
  bits = λ k h. bits k h ∙ sym (byte_bits body at k h);
}

-- 64 bits out of 72
pub shifted_window : (body : List ℕ) (place next low high shift k : ℕ)
    → IsWindow body place 60 low → IsWindow body next 12 high → next ≡ place + 60 → shift < 6 → k < 64
    → bit_at (bit_or (low / 2 ^ shift) (high * 2 ^ (60 - shift) % 2 ^ 64)) k ≡ bit body (place + shift + k)
shifted_window body place next low high shift k first second follows small inside =
    let whole = bit_at_or (low / 2 ^ shift) (high * 2 ^ (60 - shift) % 2 ^ 64) k in
    ⊎_elim
    (λ (low_part : k < 60 - shift).
    let e : place + (shift + k) ≡ place + shift + k = omega arith in
    let first_bit : bit_at (low / 2 ^ shift) k ≡ bit body (place + shift + k) =
    ap (λ x. x % 2) (shr-shr low shift k) ∙ first.bits (shift + k) (omega arith) ∙ ap (bit body) e in
    let no_bit = bit_at_mod (high * 2 ^ (60 - shift)) 64 k inside ∙ bit_at_shl_low high (60 - shift) k low_part in
    omega (arith, whole, first_bit, no_bit))
    (λ (high_part : 60 - shift ≤ k).
    let e : next + (k - (60 - shift)) ≡ place + shift + k = omega arith in
    let split : 60 - shift + shift ≡ 60 = omega arith in
    let fits : low < 2 ^ (60 - shift + shift) = rw split first.below in
    let no_bit = bit_at_above (low / 2 ^ shift) (60 - shift) k (shr_below low (60 - shift) shift fits) high_part in
    let its_bit = bit_at_shl high (60 - shift) k inside high_part ∙ second.bits (k - (60 - shift)) (omega arith) ∙ ap (bit body) e in
    omega (arith, whole, no_bit, its_bit))
    (cases_lt k (60 - shift))

-- `bits & ((1 << count) - 1)`
pub low_bits_at : (bits count k : ℕ) → count < 64
    → bit_at (bit_and bits (1 * 2 ^ count % 2 ^ 64 - 1)) k ≡ (if nat_lt k count then bit_at bits k else 0)
low_bits_at bits count k small =
    let e : bit_and bits (1 * 2 ^ count % 2 ^ 64 - 1) ≡ bits % 2 ^ count =
    ap (λ m. bit_and bits (m - 1)) (one_shl count 64 small) ∙ and_mask bits count in
    ap (λ x. bit_at x k) e ∙ ⊎_elim
    (λ (h : k < count). let t : nat_lt k count ≡ true = search rules in rw t (bit_at_mod bits count k h))
    (λ (h : count ≤ k). let t : nat_lt k count ≡ false = search rules in rw t (bit_at_mod_above bits count k h))
    (cases_lt k count)

-- the same with the joined word by its equation
pub joined_window : (body : List ℕ) (place n next m whole low high word : ℕ)
    → IsWindow body place n low → IsWindow body next m high → next ≡ place + n → whole ≡ n + m
    → word ≡ high * 2 ^ n + low → IsWindow body place whole word
joined_window body place n next m whole low high word first second follows sum e =
    rw e (join_window body place n next m whole low high first second follows sum)

-- the same from what indexing read
pub read_group : (body : List ℕ) (at group : ℕ) → at < length body → group < 64
    → ((k : ℕ) → k < 6 → bit_at group k ≡ bit_at (get_or body at 0 - 63) (5 - k))
    → IsWindow body (6 * at) 6 group
read_group body at group inside small bits =
    let e : get_or body at 0 ≡ get_or body at 63 = get_or_default body at 0 63 inside in
    group_window body at group small (λ k h. bits k h ∙ ap (λ x. bit_at (x - 63) (5 - k)) e)

-- whether number g of a table is g with its six bits turned round
abbrev pub is_turned : List ℕ → ℕ → Bool
is_turned table g = ltb (get_or table g 0) 64 && agree_below (λ k. eqb (bit_at (get_or table g 0) k) (bit_at g (5 - k))) (λ k. true) 6

pub turned_below : (g : ℕ) → g < 64 → get_or TURNED g 0 < 64
turned_below g h =
    let all : agree_below (is_turned TURNED) (λ g. true) 64 ≡ true = refl in
    ltb-true _ _ (and_parts _ _ (agree_below_at (is_turned TURNED) (λ g. true) 64 g all h)).0

pub turned_bits : (g : ℕ) → g < 64 → (k : ℕ) → k < 6 → bit_at (get_or TURNED g 0) k ≡ bit_at g (5 - k)
turned_bits g h k inside =
    let all : agree_below (is_turned TURNED) (λ g. true) 64 ≡ true = refl in
    let one = (and_parts _ _ (agree_below_at (is_turned TURNED) (λ g. true) 64 g all h)).1 in
    eqb-true _ _ (agree_below_at (λ k. eqb (bit_at (get_or TURNED g 0) k) (bit_at g (5 - k))) (λ k. true) 6 k one inside)
