-- The six rounds of a transposition.
use Rattle.std.proofs.Common.{◌≡◌, ℕ, zero, suc, ◌+◌, ◌-◌, ◌*◌, ◌/◌, ◌%◌, ◌^◌, ◌<◌, ◌≤◌, ◌≢◌, true, eqb, eqb-true, min, max, bit_and, bit_or, List, length, length-set, get_or, get_or-set_same, get_or-set_other, set as set_at, refl, sym, ap, ap₂, ◌∙◌, add-zero, arith, ⊎_elim}
use Rattle.std.specs.Int.{bit_at, bit_not, w64}
use Rattle.std.proofs.Math.Nat.{div-eq_of_lt}
use Rattle.std.proofs.lemmas.Nat.{shr-shr, shr_split, pow_pos}
use Rattle.std.proofs.lemmas.Nat.Bits.{bit_at-lt, bit_at_or, bit_at_and, bit_at_not, bit_at_cat_low, bit_at_cat_high}
use Rattle.std.proofs.lemmas.Bool.{cases_lt, agree_below, agree_below_at}
use Rattle.md_graph.specs.Blocks.{IsFirstHalf, IsRound}

-- ---- bits of shifted words

pub bit_at_shl : (n w k : ℕ) → k < 64 → w ≤ k → bit_at (n * 2 ^ w % 2 ^ 64) k ≡ bit_at n (k - w)
bit_at_shl n w k h low =
    let whole : n * 2 ^ w ≡ n * 2 ^ w + 0 = omega arith in
    sym (bit_at_cat_low (n * 2 ^ w / 2 ^ 64) 64 (n * 2 ^ w % 2 ^ 64) k h)
    ∙ ap (λ x. bit_at x k) (shr_split (n * 2 ^ w) 64 ∙ whole)
    ∙ bit_at_cat_high n w 0 k (pow_pos w) low

pub bit_at_shr : (n w k : ℕ) → bit_at (n / 2 ^ w) k ≡ bit_at n (k + w)
bit_at_shr n w k = let place : w + k ≡ k + w = omega arith in ap (λ x. x % 2) (shr-shr n w k ∙ ap (λ j. n / 2 ^ j) place)

-- ---- one word of a round

first_part : (a m x p : ℕ) → a < 2 → m ≡ 1 → p ≡ 1 - m → max (min a m) (min x p) ≡ a
first_part a m x p two e f = omega arith

second_part : (a m x p : ℕ) → x < 2 → m ≡ 0 → p ≡ 1 - m → max (min a m) (min x p) ≡ x
second_part a m x p two e f = omega arith

-- a bit of weight width makes a number of at least width
weight_le : (k width : ℕ) → k / width % 2 ≡ 1 → width ≤ k
weight_le k width one =
    ⊎_elim (λ (less : k < width). let none = div-eq_of_lt less in absurd (omega arith)) (λ (le : width ≤ k). le) (cases_lt k width)

bit_cases : (P : Type 0) (q : ℕ) → q < 2 → (q ≡ 0 → P) → (q ≡ 1 → P) → P
bit_cases P zero h none one = none refl
bit_cases P (suc zero) h none one = one refl
bit_cases P (suc (suc q)) h none one = absurd (omega arith)

at_zero : (words : List ℕ) (i k q width extra : ℕ) → q ≡ 0 → bit_at (get_or words i 0) (k + extra) ≡ bit_at (get_or words (i + 32 * q) 0) (k - width * q + extra)
at_zero words i k q width extra e = rw e (let same : i + 0 ≡ i = omega arith in let no : k - width * 0 ≡ k = omega arith in rw (same, no) refl)

at_one : (words : List ℕ) (i k q width extra : ℕ) → q ≡ 1 → bit_at (get_or words (i + 32) 0) (k - width + extra) ≡ bit_at (get_or words (i + 32 * q) 0) (k - width * q + extra)
at_one words i k q width extra e = rw e (let all : width * 1 ≡ width = omega arith in rw all refl)

bits_of_or : (a m x p k : ℕ) → bit_at (bit_or (bit_and a m) (bit_and x p)) k ≡ max (min (bit_at a k) (bit_at m k)) (min (bit_at x k) (bit_at p k))
bits_of_or a m x p k = bit_at_or (bit_and a m) (bit_and x p) k ∙ ap₂ max (bit_at_and a m k) (bit_at_and x p k)

pub first_halves_at : (words : List ℕ) (i width firsts k : ℕ) → 0 < width → k < 64 → firsts < 2 ^ 64 → bit_at firsts k ≡ 1 - k / width % 2
    → bit_at (bit_or (bit_and (get_or words i 0) firsts) (bit_and (get_or words (i + 32) 0 * 2 ^ width % 2 ^ 64) (bit_not w64 firsts))) k ≡ bit_at (get_or words (i + 32 * (k / width % 2)) 0) (k - width * (k / width % 2))
first_halves_at words i width firsts k some h fits half =
    let others = bit_at_not w64 firsts k fits h in
    bits_of_or _ firsts _ (bit_not w64 firsts) k
    ∙ bit_cases _ (k / width % 2) (omega arith)
    (λ e. first_part _ _ _ _ (bit_at-lt _ _) (omega arith) others ∙ ap (bit_at (get_or words i 0)) (sym (add-zero k)) ∙ at_zero words i k (k / width % 2) width 0 e ∙ ap (bit_at (get_or words (i + 32 * (k / width % 2)) 0)) (add-zero _))
    (λ e. second_part _ _ _ _ (bit_at-lt _ _) (omega arith) others ∙ bit_at_shl (get_or words (i + 32) 0) width k h (weight_le k width e) ∙ ap (bit_at (get_or words (i + 32) 0)) (sym (add-zero (k - width))) ∙ at_one words i k (k / width % 2) width 0 e ∙ ap (bit_at (get_or words (i + 32 * (k / width % 2)) 0)) (add-zero _))

pub second_halves_at : (words : List ℕ) (i width firsts k : ℕ) → 0 < width → k < 64 → firsts < 2 ^ 64 → bit_at firsts k ≡ 1 - k / width % 2
    → bit_at (bit_or (bit_and (get_or words i 0 / 2 ^ width) firsts) (bit_and (get_or words (i + 32) 0) (bit_not w64 firsts))) k ≡ bit_at (get_or words (i + 32 * (k / width % 2)) 0) (k - width * (k / width % 2) + width)
second_halves_at words i width firsts k some h fits half =
    let others = bit_at_not w64 firsts k fits h in
    bits_of_or _ firsts _ (bit_not w64 firsts) k
    ∙ bit_cases _ (k / width % 2) (omega arith)
    (λ e. first_part _ _ _ _ (bit_at-lt _ _) (omega arith) others ∙ bit_at_shr (get_or words i 0) width k ∙ at_zero words i k (k / width % 2) width width e)
    (λ e. let back : k ≡ k - width + width = (let le = weight_le k width e in omega arith) in
    second_part _ _ _ _ (bit_at-lt _ _) (omega arith) others ∙ ap (bit_at (get_or words (i + 32) 0)) back ∙ at_one words i k (k / width % 2) width width e)

-- ---- the words of a round

-- the words below n are done
abbrev pub IsDone : ℕ → List ℕ → List ℕ → ℕ → Type 0
IsDone width old new n =
    (r k : ℕ) → r < n → k < 64 → bit_at (get_or new r 0) k ≡ bit_at (get_or old (r / 2 + 32 * (k / width % 2)) 0) (k - width * (k / width % 2) + width * (r % 2))

pub done_pair : (width : ℕ) (old new : List ℕ) (i even odd : ℕ) → 2 * i + 1 < length new → IsDone width old new (2 * i)
    → ((k : ℕ) → k < 64 → bit_at even k ≡ bit_at (get_or old (i + 32 * (k / width % 2)) 0) (k - width * (k / width % 2)))
    → ((k : ℕ) → k < 64 → bit_at odd k ≡ bit_at (get_or old (i + 32 * (k / width % 2)) 0) (k - width * (k / width % 2) + width))
    → IsDone width old (set_at (set_at new (2 * i) even) (2 * i + 1) odd) (2 * (i + 1))
done_pair width old new i even odd inside done first second r k hr hk =
    let size = length-set new (2 * i) even in
    ⊎_elim
    (λ (less : r < 2 * i).
    let not_odd : r ≢ 2 * i + 1 = omega arith in
    let not_even : r ≢ 2 * i = omega arith in
    rw (get_or-set_other (set_at new (2 * i) even) (2 * i + 1) r odd 0 not_odd, get_or-set_other new (2 * i) r even 0 not_even) (done r k less hk))
    (λ (le : 2 * i ≤ r). ⊎_elim
    (λ (last : r < 2 * i + 1).
    let is : r ≡ 2 * i = omega arith in
    let not_odd : r ≢ 2 * i + 1 = omega arith in
    let half : i ≡ r / 2 = omega arith in
    let rest : k - width * (k / width % 2) ≡ k - width * (k / width % 2) + width * (r % 2) = (let none : r % 2 ≡ 0 = omega arith in rw none (omega arith)) in
    rw (get_or-set_other (set_at new (2 * i) even) (2 * i + 1) r odd 0 not_odd) (ap (λ x. bit_at (get_or (set_at new (2 * i) even) x 0) k) is ∙ ap (λ x. bit_at x k) (get_or-set_same new (2 * i) even 0 (omega arith)) ∙ first k hk ∙ ap₂ (λ a b. bit_at (get_or old (a + 32 * (k / width % 2)) 0) b) half rest))
    (λ (past : 2 * i + 1 ≤ r).
    let is : r ≡ 2 * i + 1 = omega arith in
    let half : i ≡ r / 2 = omega arith in
    let rest : k - width * (k / width % 2) + width ≡ k - width * (k / width % 2) + width * (r % 2) = (let one : r % 2 ≡ 1 = omega arith in rw one (omega arith)) in
    ap (λ x. bit_at (get_or (set_at (set_at new (2 * i) even) (2 * i + 1) odd) x 0) k) is ∙ ap (λ x. bit_at x k) (get_or-set_same (set_at new (2 * i) even) (2 * i + 1) odd 0 (omega arith)) ∙ second k hk ∙ ap₂ (λ a b. bit_at (get_or old (a + 32 * (k / width % 2)) 0) b) half rest)
    (cases_lt r (2 * i + 1)))
    (cases_lt r (2 * i))

-- ---- the constants of the rounds, by computing

half_by : (width firsts : ℕ) → agree_below (λ k. eqb (bit_at firsts k) (1 - k / width % 2)) (λ k. true) 64 ≡ true → IsFirstHalf width firsts
half_by width firsts all k h = eqb-true _ _ (agree_below_at (λ k. eqb (bit_at firsts k) (1 - k / width % 2)) (λ k. true) 64 k all h)

pub half_32 : IsFirstHalf 32 4294967295
half_32 = half_by 32 4294967295 refl

pub half_16 : IsFirstHalf 16 281470681808895
half_16 = half_by 16 281470681808895 refl

pub half_8 : IsFirstHalf 8 71777214294589695
half_8 = half_by 8 71777214294589695 refl

pub half_4 : IsFirstHalf 4 1085102592571150095
half_4 = half_by 4 1085102592571150095 refl

pub half_2 : IsFirstHalf 2 3689348814741910323
half_2 = half_by 2 3689348814741910323 refl

pub half_1 : IsFirstHalf 1 6148914691236517205
half_1 = half_by 1 6148914691236517205 refl

-- ---- the rounds together

turn_32 : (old new : List ℕ) → IsRound 32 old new → (r k r' k' : ℕ) → r < 64 → k < 64 → r' ≡ r / 2 + 32 * (k / 32 % 2) → k' ≡ k - 32 * (k / 32 % 2) + 32 * (r % 2) → bit_at (get_or new r 0) k ≡ bit_at (get_or old r' 0) k'
turn_32 old new is r k r' k' hr hk er ek = is r k hr hk ∙ ap₂ (λ a b. bit_at (get_or old a 0) b) (sym er) (sym ek)

turn_16 : (old new : List ℕ) → IsRound 16 old new → (r k r' k' : ℕ) → r < 64 → k < 64 → r' ≡ r / 2 + 32 * (k / 16 % 2) → k' ≡ k - 16 * (k / 16 % 2) + 16 * (r % 2) → bit_at (get_or new r 0) k ≡ bit_at (get_or old r' 0) k'
turn_16 old new is r k r' k' hr hk er ek = is r k hr hk ∙ ap₂ (λ a b. bit_at (get_or old a 0) b) (sym er) (sym ek)

turn_8 : (old new : List ℕ) → IsRound 8 old new → (r k r' k' : ℕ) → r < 64 → k < 64 → r' ≡ r / 2 + 32 * (k / 8 % 2) → k' ≡ k - 8 * (k / 8 % 2) + 8 * (r % 2) → bit_at (get_or new r 0) k ≡ bit_at (get_or old r' 0) k'
turn_8 old new is r k r' k' hr hk er ek = is r k hr hk ∙ ap₂ (λ a b. bit_at (get_or old a 0) b) (sym er) (sym ek)

turn_4 : (old new : List ℕ) → IsRound 4 old new → (r k r' k' : ℕ) → r < 64 → k < 64 → r' ≡ r / 2 + 32 * (k / 4 % 2) → k' ≡ k - 4 * (k / 4 % 2) + 4 * (r % 2) → bit_at (get_or new r 0) k ≡ bit_at (get_or old r' 0) k'
turn_4 old new is r k r' k' hr hk er ek = is r k hr hk ∙ ap₂ (λ a b. bit_at (get_or old a 0) b) (sym er) (sym ek)

turn_2 : (old new : List ℕ) → IsRound 2 old new → (r k r' k' : ℕ) → r < 64 → k < 64 → r' ≡ r / 2 + 32 * (k / 2 % 2) → k' ≡ k - 2 * (k / 2 % 2) + 2 * (r % 2) → bit_at (get_or new r 0) k ≡ bit_at (get_or old r' 0) k'
turn_2 old new is r k r' k' hr hk er ek = is r k hr hk ∙ ap₂ (λ a b. bit_at (get_or old a 0) b) (sym er) (sym ek)

turn_1 : (old new : List ℕ) → IsRound 1 old new → (r k r' k' : ℕ) → r < 64 → k < 64 → r' ≡ r / 2 + 32 * (k / 1 % 2) → k' ≡ k - 1 * (k / 1 % 2) + 1 * (r % 2) → bit_at (get_or new r 0) k ≡ bit_at (get_or old r' 0) k'
turn_1 old new is r k r' k' hr hk er ek = is r k hr hk ∙ ap₂ (λ a b. bit_at (get_or old a 0) b) (sym er) (sym ek)

in_0 : (r k : ℕ) → r < 64 → k < 64 → (r < 64) × (k < 64)
in_0 r k hr hk = (omega arith, omega arith)

go_0 : (r k : ℕ) → r < 64 → k < 64 → ((r / 2 + 32 * (k % 2)) ≡ r / 2 + 32 * (k / 1 % 2)) × ((k / 2 * 2 + r % 2) ≡ k - 1 * (k / 1 % 2) + 1 * (r % 2))
go_0 r k hr hk = (omega arith, omega arith)

in_1 : (r k : ℕ) → r < 64 → k < 64 → ((r / 2 + 32 * (k % 2)) < 64) × ((k / 2 * 2 + r % 2) < 64)
in_1 r k hr hk = (omega arith, omega arith)

go_1 : (r k : ℕ) → r < 64 → k < 64 → ((r / 4 + 16 * (k % 4)) ≡ (r / 2 + 32 * (k % 2)) / 2 + 32 * ((k / 2 * 2 + r % 2) / 2 % 2)) × ((k / 4 * 4 + r % 4) ≡ (k / 2 * 2 + r % 2) - 2 * ((k / 2 * 2 + r % 2) / 2 % 2) + 2 * ((r / 2 + 32 * (k % 2)) % 2))
go_1 r k hr hk = (omega arith, omega arith)

in_2 : (r k : ℕ) → r < 64 → k < 64 → ((r / 4 + 16 * (k % 4)) < 64) × ((k / 4 * 4 + r % 4) < 64)
in_2 r k hr hk = (omega arith, omega arith)

go_2 : (r k : ℕ) → r < 64 → k < 64 → ((r / 8 + 8 * (k % 8)) ≡ (r / 4 + 16 * (k % 4)) / 2 + 32 * ((k / 4 * 4 + r % 4) / 4 % 2)) × ((k / 8 * 8 + r % 8) ≡ (k / 4 * 4 + r % 4) - 4 * ((k / 4 * 4 + r % 4) / 4 % 2) + 4 * ((r / 4 + 16 * (k % 4)) % 2))
go_2 r k hr hk = (omega arith, omega arith)

in_3 : (r k : ℕ) → r < 64 → k < 64 → ((r / 8 + 8 * (k % 8)) < 64) × ((k / 8 * 8 + r % 8) < 64)
in_3 r k hr hk = (omega arith, omega arith)

go_3 : (r k : ℕ) → r < 64 → k < 64 → ((r / 16 + 4 * (k % 16)) ≡ (r / 8 + 8 * (k % 8)) / 2 + 32 * ((k / 8 * 8 + r % 8) / 8 % 2)) × ((k / 16 * 16 + r % 16) ≡ (k / 8 * 8 + r % 8) - 8 * ((k / 8 * 8 + r % 8) / 8 % 2) + 8 * ((r / 8 + 8 * (k % 8)) % 2))
go_3 r k hr hk = (omega arith, omega arith)

in_4 : (r k : ℕ) → r < 64 → k < 64 → ((r / 16 + 4 * (k % 16)) < 64) × ((k / 16 * 16 + r % 16) < 64)
in_4 r k hr hk = (omega arith, omega arith)

go_4 : (r k : ℕ) → r < 64 → k < 64 → ((r / 32 + 2 * (k % 32)) ≡ (r / 16 + 4 * (k % 16)) / 2 + 32 * ((k / 16 * 16 + r % 16) / 16 % 2)) × ((k / 32 * 32 + r % 32) ≡ (k / 16 * 16 + r % 16) - 16 * ((k / 16 * 16 + r % 16) / 16 % 2) + 16 * ((r / 16 + 4 * (k % 16)) % 2))
go_4 r k hr hk = (omega arith, omega arith)

in_5 : (r k : ℕ) → r < 64 → k < 64 → ((r / 32 + 2 * (k % 32)) < 64) × ((k / 32 * 32 + r % 32) < 64)
in_5 r k hr hk = (omega arith, omega arith)

go_5 : (r k : ℕ) → r < 64 → k < 64 → ((r / 64 + 1 * (k % 64)) ≡ (r / 32 + 2 * (k % 32)) / 2 + 32 * ((k / 32 * 32 + r % 32) / 32 % 2)) × ((k / 64 * 64 + r % 64) ≡ (k / 32 * 32 + r % 32) - 32 * ((k / 32 * 32 + r % 32) / 32 % 2) + 32 * ((r / 32 + 2 * (k % 32)) % 2))
go_5 r k hr hk = (omega arith, omega arith)

transposed_pair : (r k : ℕ) → r < 64 → k < 64 → ((r / 64 + 1 * (k % 64)) ≡ k) × ((k / 64 * 64 + r % 64) ≡ r)
transposed_pair r k hr hk = (omega arith, omega arith)

pub six_rounds : (w0 w1 w2 w3 w4 w5 w6 : List ℕ) → IsRound 32 w0 w1 → IsRound 16 w1 w2 → IsRound 8 w2 w3 → IsRound 4 w3 w4 → IsRound 2 w4 w5 → IsRound 1 w5 w6
    → (r k : ℕ) → r < 64 → k < 64 → bit_at (get_or w6 r 0) k ≡ bit_at (get_or w0 k 0) r
six_rounds w0 w1 w2 w3 w4 w5 w6 e1 e2 e3 e4 e5 e6 r k hr hk =
    turn_1 w5 w6 e6 r k (r / 2 + 32 * (k % 2)) (k / 2 * 2 + r % 2) (in_0 r k hr hk).0 (in_0 r k hr hk).1 (go_0 r k hr hk).0 (go_0 r k hr hk).1
    ∙ turn_2 w4 w5 e5 (r / 2 + 32 * (k % 2)) (k / 2 * 2 + r % 2) (r / 4 + 16 * (k % 4)) (k / 4 * 4 + r % 4) (in_1 r k hr hk).0 (in_1 r k hr hk).1 (go_1 r k hr hk).0 (go_1 r k hr hk).1
    ∙ turn_4 w3 w4 e4 (r / 4 + 16 * (k % 4)) (k / 4 * 4 + r % 4) (r / 8 + 8 * (k % 8)) (k / 8 * 8 + r % 8) (in_2 r k hr hk).0 (in_2 r k hr hk).1 (go_2 r k hr hk).0 (go_2 r k hr hk).1
    ∙ turn_8 w2 w3 e3 (r / 8 + 8 * (k % 8)) (k / 8 * 8 + r % 8) (r / 16 + 4 * (k % 16)) (k / 16 * 16 + r % 16) (in_3 r k hr hk).0 (in_3 r k hr hk).1 (go_3 r k hr hk).0 (go_3 r k hr hk).1
    ∙ turn_16 w1 w2 e2 (r / 16 + 4 * (k % 16)) (k / 16 * 16 + r % 16) (r / 32 + 2 * (k % 32)) (k / 32 * 32 + r % 32) (in_4 r k hr hk).0 (in_4 r k hr hk).1 (go_4 r k hr hk).0 (go_4 r k hr hk).1
    ∙ turn_32 w0 w1 e1 (r / 32 + 2 * (k % 32)) (k / 32 * 32 + r % 32) (r / 64 + 1 * (k % 64)) (k / 64 * 64 + r % 64) (in_5 r k hr hk).0 (in_5 r k hr hk).1 (go_5 r k hr hk).0 (go_5 r k hr hk).1
    ∙ ap₂ (λ a b. bit_at (get_or w0 a 0) b) (transposed_pair r k hr hk).0 (transposed_pair r k hr hk).1
