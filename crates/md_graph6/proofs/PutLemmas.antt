-- Bytes of a body set to bits of a word.
use Rattle.std.proofs.Common.{◌≡◌, ℕ, ◌+◌, ◌-◌, ◌*◌, ◌/◌, ◌%◌, ◌^◌, ◌<◌, ◌≤◌, true, false, List, length, get_or, refl, sym, ap, ◌∙◌, arith, rules, add_comm, max, bit_and, bit_or, nat_lt, if◌then◌else◌, inl, inr, ⊎_elim}
use Rattle.std.specs.Int.{bit_at}
use Rattle.std.proofs.lemmas.Nat.{and_mask, mod_below, pow_pos}
use Rattle.std.proofs.lemmas.List.{get_or_past, get_or_default}
use Rattle.std.proofs.lemmas.Nat.Bits.{bit_at_or, bit_at_above, bit_at_cat_low, bit_at_cat_high, bit_at-zero}
use Rattle.std.proofs.lemmas.Bool.{cases_lt}
use Rattle.md_graph.proofs.Transposing.{bit_at_shl, bit_at_shr}
use Rattle.md_graph6.specs.Bits.{bit}
use Rattle.md_graph6.specs.Window.{AreGroups, IsPut}
use Rattle.md_graph6.proofs.BitLemmas.{bit_at_mod, bit_at_shl_low}

-- the lowest six bits
pub six_below : (bits : ℕ) → bit_and bits 63 < 64
six_below bits = let e : bit_and bits 63 ≡ bits % 64 = and_mask bits 6 in omega arith

-- the bits of a group that was turned round
pub turned_twice : (bits group k : ℕ) → k < 6 → ((k : ℕ) → k < 6 → bit_at group k ≡ bit_at (bit_and bits 63) (5 - k))
    → bit_at group (5 - k) ≡ bit_at bits k
turned_twice bits group k h is =
    let twice : 5 - (5 - k) ≡ k = omega arith in
    is (5 - k) (omega arith)
    ∙ ap (bit_at (bit_and bits 63)) twice
    ∙ ap (λ g. bit_at g k) (and_mask bits 6)
    ∙ bit_at_mod bits 6 k h

-- behind a body there is no bit
pub no_bit : (body : List ℕ) (k : ℕ) → 6 * length body ≤ k → bit body k ≡ 0
no_bit body k past =
    let e = get_or_past body (k / 6) 63 (omega arith) in
    rw e (bit_at-zero (5 - k % 6))

-- bytes behind bytes
pub put_more : (old mid new : List ℕ) (at n next m whole low high word : ℕ)
    → IsPut old mid at n low → IsPut mid new next m high → next ≡ at + n → whole ≡ n + m
    → ((i : ℕ) → i < 6 * n → bit_at low i ≡ bit_at word i)
    → ((i : ℕ) → i < 6 * m → bit_at high i ≡ bit_at word (6 * n + i))
    → IsPut old new at whole word
put_more old mid new at n next m whole low high word first second follows sum below above = record {
  length = second.length ∙ first.length;
  groups = second.groups;
  inside = λ i h. ⊎_elim
      (λ (l : i < 6 * n). second.before (6 * at + i) (omega arith) ∙ first.inside i l ∙ below i l)
      (λ (g : 6 * n ≤ i).
      let e : 6 * at + i ≡ 6 * next + (i - 6 * n) = omega arith in
      let f : 6 * n + (i - 6 * n) ≡ i = omega arith in
      ap (bit new) e ∙ second.inside (i - 6 * n) (omega arith) ∙ above (i - 6 * n) (omega arith) ∙ ap (bit_at word) f)
      (cases_lt i (6 * n));
  before = λ k h. second.before k (omega arith) ∙ first.before k h;
  behind = λ k h. second.behind k (omega arith) ∙ first.behind k (omega arith);
}

-- six more bits than n groups
pub put_two_more : (old mid new : List ℕ) (at n next whole bits : ℕ)
    → IsPut old mid at n bits → IsPut mid new next 2 (bits / 2 ^ (6 * n)) → next ≡ at + n → whole ≡ n + 2
    → IsPut old new at whole bits
put_two_more old mid new at n next whole bits first second follows sum =
    put_more old mid new at n next 2 whole _ _ bits first second follows sum (λ i h. refl) (λ i h. bit_at_shr bits (6 * n) i ∙ ap (bit_at bits) (add_comm i (6 * n)))

-- sixty bits and twelve
pub put_twelve : (old mid new : List ℕ) (at low high : ℕ)
    → IsPut old mid at 10 low → IsPut mid new (at + 10) 2 high
    → IsPut old new at 12 (high * 2 ^ 60 + low % 2 ^ 60)
put_twelve old mid new at low high first second =
    put_more old mid new at 10 (at + 10) 2 12 low high (high * 2 ^ 60 + low % 2 ^ 60) first second refl refl
    (λ i h. sym (bit_at_mod low 60 i h) ∙ sym (bit_at_cat_low high 60 (low % 2 ^ 60) i h))
    (λ i h.
    let e : 60 + i - 60 ≡ i = omega arith in
    sym (bit_at_cat_high high 60 (low % 2 ^ 60) (60 + i) (mod_below low (2 ^ 60) (pow_pos 60)) (omega arith) ∙ ap (bit_at high) e))

-- ---- the last bytes

pub put_end : (old new none twelve : List ℕ) (at word : ℕ) → length new ≡ length old → AreGroups old → IsPut none twelve 0 12 word
    → at < length old → length old ≤ at + 12 → length twelve ≡ 12
    → ((i : ℕ) → 6 * length old ≤ 6 * at + i → bit_at word i ≡ 0)
    → ((k : ℕ) → k < at → get_or new k 63 ≡ get_or old k 63)
    → ((k : ℕ) → at + k < length old → get_or new (at + k) 63 ≡ get_or twelve k 63)
    → IsPut old new at 12 word
put_end old new none twelve at word same are put inside end long room before from = record {
  length = same;
  groups = record {
    low = λ k h. each (λ x. 63 ≤ x) k h (λ b. are.low k (omega arith)) (λ g. put.groups.low (k - at) (omega arith));
    high = λ k h. each (λ x. x < 127) k h (λ b. are.high k (omega arith)) (λ g. put.groups.high (k - at) (omega arith));
  };
  inside = λ i h. ⊎_elim
      (λ (here : 6 * at + i < 6 * length old).
      let e : (6 * at + i) / 6 ≡ at + i / 6 = omega arith in
      let f : (6 * at + i) % 6 ≡ i % 6 = omega arith in
      let g = from (i / 6) (omega arith) in
      let z : 0 + i ≡ i = omega arith in
      rw (e, f, g) (ap (bit twelve) (sym z) ∙ put.inside i h))
      (λ (past : 6 * length old ≤ 6 * at + i). no_bit new (6 * at + i) (omega arith) ∙ sym (room i past))
      (cases_lt (6 * at + i) (6 * length old));
  before = λ k h. let e = before (k / 6) (omega arith) in rw e refl;
  behind = λ k h. no_bit new k (omega arith) ∙ sym (no_bit old k (omega arith));
}
  where
    each : (P : ℕ → Type 0) (k : ℕ) → k < length new → (k < at → P (get_or old k 63)) → (at ≤ k → P (get_or twelve (k - at) 63)) → P (get_or new k 63)
    each P k h first second =
        elim (cases_lt k at) [
          | inl b ↦ rw (before k b) (first b)
          | inr g ↦
              let e : at + (k - at) ≡ k = omega arith in
              let f = ap (λ x. get_or new x 63) (sym e) ∙ from (k - at) (omega arith) in
              rw f (second g)
        ]

-- ---- 64 bits from a place on

-- the twelve bytes at the place: the bits of its first byte that stand there, and those of the word behind them
abbrev pub placed : ℕ → ℕ → ℕ → ℕ
placed there bits shift = bits / 2 ^ (60 - shift) * 2 ^ 60 + bit_or there (bits * 2 ^ shift % 2 ^ 64) % 2 ^ 60

placed_low : (there bits shift i : ℕ) → i < 60 → bit_at (placed there bits shift) i ≡ max (bit_at there i) (bit_at (bits * 2 ^ shift % 2 ^ 64) i)
placed_low there bits shift i h =
    bit_at_cat_low (bits / 2 ^ (60 - shift)) 60 (bit_or there (bits * 2 ^ shift % 2 ^ 64) % 2 ^ 60) i h
    ∙ bit_at_mod (bit_or there (bits * 2 ^ shift % 2 ^ 64)) 60 i h
    ∙ bit_at_or there (bits * 2 ^ shift % 2 ^ 64) i

pub placed_before : (there bits shift i : ℕ) → shift < 6 → i < shift → bit_at (placed there bits shift) i ≡ bit_at there i
placed_before there bits shift i small h =
    let e = placed_low there bits shift i (omega arith) in
    let f = bit_at_mod (bits * 2 ^ shift) 64 i (omega arith) ∙ bit_at_shl_low bits shift i h in
    omega (arith, e, f)

pub placed_from : (there bits shift i : ℕ) → shift < 6 → shift ≤ i → bit_at there i ≡ 0 → bit_at (placed there bits shift) i ≡ bit_at bits (i - shift)
placed_from there bits shift i small h none = ⊎_elim
    (λ (low : i < 60).
    let e = placed_low there bits shift i low in
    let f = bit_at_shl bits shift i (omega arith) h in
    omega (arith, e, f, none))
    (λ (high : 60 ≤ i).
    let e : i - 60 + (60 - shift) ≡ i - shift = omega arith in
    bit_at_cat_high (bits / 2 ^ (60 - shift)) 60 (bit_or there (bits * 2 ^ shift % 2 ^ 64) % 2 ^ 60) i (mod_below _ (2 ^ 60) (pow_pos 60)) high
    ∙ bit_at_shr bits (60 - shift) (i - 60)
    ∙ ap (bit_at bits) e)
    (cases_lt i 60)

-- what stands in the first byte from the place on is nothing
there_none : (body : List ℕ) (place at shift there i : ℕ) → place ≡ 6 * at + shift → there < 64
    → ((k : ℕ) → k < 6 → bit_at there k ≡ bit body (6 * at + k))
    → ((k : ℕ) → place ≤ k → bit body k ≡ 0) → shift ≤ i → bit_at there i ≡ 0
there_none body place at shift there i where_ small is blank h = ⊎_elim
    (λ (here : i < 6). is i here ∙ blank (6 * at + i) (omega arith))
    (λ (past : 6 ≤ i). bit_at_above there 6 i small past)
    (cases_lt i 6)

module _ (body : List ℕ) (place at shift there bits : ℕ) (place_is : place ≡ 6 * at + shift) (shift_small : shift < 6) (there_small : there < 64)
    (there_is : (k : ℕ) → k < 6 → bit_at there k ≡ bit body (6 * at + k))
    (blank : (k : ℕ) → place ≤ k → bit body k ≡ 0) where
  pub placed_room : ((k : ℕ) → 6 * length body ≤ place + k → bit_at bits k ≡ 0) → at < length body
      → (i : ℕ) → 6 * length body ≤ 6 * at + i → bit_at (placed there bits shift) i ≡ 0
  placed_room room inside i h =
      placed_from there bits shift i shift_small (omega arith) (there_none body place at shift there i place_is there_small there_is blank (omega arith))
      ∙ room (i - shift) (omega arith)

  pub placed_bits : (new : List ℕ) → IsPut body new at 12 (placed there bits shift) → bits < 2 ^ 64
      → (k : ℕ) → bit new k ≡ (if nat_lt k place then bit body k else bit_at bits (k - place))
  placed_bits new put fits k =
      elim (cases_lt k place) [
        | inl before ↦
            let t : nat_lt k place ≡ true = search rules in
            rw t (⊎_elim
            (λ (earlier : k < 6 * at). put.before k earlier)
            (λ (here : 6 * at ≤ k).
            let e : 6 * at + (k - 6 * at) ≡ k = omega arith in
            ap (bit new) (sym e) ∙ put.inside (k - 6 * at) (omega arith)
            ∙ placed_before there bits shift (k - 6 * at) shift_small (omega arith)
            ∙ there_is (k - 6 * at) (omega arith) ∙ ap (bit body) e)
            (cases_lt k (6 * at)))
        | inr from ↦
            let f : nat_lt k place ≡ false = search rules in
            rw f (⊎_elim
            (λ (here : k < 6 * at + 72).
            let e : 6 * at + (k - 6 * at) ≡ k = omega arith in
            let d : k - 6 * at - shift ≡ k - place = omega arith in
            ap (bit new) (sym e) ∙ put.inside (k - 6 * at) (omega arith)
            ∙ placed_from there bits shift (k - 6 * at) shift_small (omega arith) (there_none body place at shift there (k - 6 * at) place_is there_small there_is blank (omega arith))
            ∙ ap (bit_at bits) d)
            (λ (past : 6 * at + 72 ≤ k).
            put.behind k past ∙ blank k from ∙ sym (bit_at_above bits 64 (k - place) fits (omega arith)))
            (cases_lt k (6 * at + 72)))
      ]

-- the bits of a byte that indexing read
pub there_bits : (body : List ℕ) (at there : ℕ) → at < length body
    → ((k : ℕ) → k < 6 → bit_at there k ≡ bit_at (get_or body at 0 - 63) (5 - k))
    → (k : ℕ) → k < 6 → bit_at there k ≡ bit body (6 * at + k)
there_bits body at there inside is k h =
    let e : (6 * at + k) / 6 ≡ at = omega arith in
    let f : (6 * at + k) % 6 ≡ k = omega arith in
    let d : get_or body at 0 ≡ get_or body at 63 = get_or_default body at 0 63 inside in
    rw (e, f) (is k h ∙ ap (λ x. bit_at (x - 63) (5 - k)) d)
