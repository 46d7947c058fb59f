-- Bytes and numbers at the beginning of a text.
use Rattle.std.proofs.Common.{◌≡◌, ℕ, suc, ◌+◌, ◌-◌, ◌*◌, ◌/◌, ◌%◌, ◌^◌, ◌<◌, ◌≤◌, ◌⊎◌, List, [], ◌∷◌, ◌++◌, length, get_or, All, append_assoc, length-append, refl, sym, ◌∙◌, ap, subst, inl, inr, arith}
use Rattle.std.specs.Prelude.{⊤}
use Rattle.std.proofs.lemmas.Bool.{cases_lt}
use Rattle.std.proofs.lemmas.Grind.{pow_more}
use Rattle.std.proofs.Math.Nat.{pow-le-pow_right}
use Rattle.md_text.specs.Numbers.{decimal}
use Rattle.md_text.specs.Fronts.{IsDigit, IsPastDigits, IsNumberSplit, LacksNumber, LacksFirst}
use Rattle.md_text.proofs.NumberLemmas.{decimal_digit, decimal_step, decimal_is_canonical, decimal_injective, decimal_is_digits}

-- ---- a byte

pub shorter_tail : (b : ℕ) (text tail : List ℕ) → text ≡ b ∷ tail → length tail < length text
shorter_tail b text tail e = grind (arith, ap length e)

pub empty_lacks_first : (b : ℕ) (x : List ℕ) → length x ≡ 0 → LacksFirst b x
empty_lacks_first b x none y e = let l : length x ≡ suc (length y) = ap length e in omega arith

pub other_first : (b c : ℕ) (x tail : List ℕ) → x ≡ c ∷ tail → (c ≡ b → ⊥) → LacksFirst b x
other_first b c x tail e n y f = let g : c ∷ tail ≡ b ∷ y = sym e ∙ f in let h : c ≡ b = cc in n h

-- ---- a number, and what stands behind it

abbrev AllDigits : List ℕ → Type 0
AllDigits [] = ⊤
AllDigits (b ∷ r) = IsDigit b × AllDigits r

to_digits : (xs : List ℕ) → All IsDigit xs → AllDigits xs
to_digits [] all = tt
to_digits (x ∷ xs) all = (
  all 0 0 (let b : 0 < suc (length xs) = omega arith in b),
  to_digits xs (λ k d h. all (suc k) d (let b : k < length xs = h in let c : suc k < suc (length xs) = omega arith in c)),
)

digits_of : (n : ℕ) → AllDigits (decimal n)
digits_of n = to_digits (decimal n) (decimal_is_digits n)

-- digits before what is no digit
same_digits : (xs ys r s : List ℕ) → AllDigits xs → AllDigits ys → IsPastDigits r → IsPastDigits s → xs ++ r ≡ ys ++ s → (xs ≡ ys) × (r ≡ s)
same_digits [] [] r s a b p q e = (refl, e)
same_digits [] (y ∷ ys) [] s a b p q e = let f : [] ≡ y ∷ (ys ++ s) = e in cc
same_digits [] (y ∷ ys) (c ∷ r) s a b p q e =
    let f : c ∷ r ≡ y ∷ (ys ++ s) = e in
    let g : c ≡ y = cc in
    absurd (p (subst IsDigit (sym g) b.0))
same_digits (x ∷ xs) [] r [] a b p q e = let f : x ∷ (xs ++ r) ≡ [] = e in cc
same_digits (x ∷ xs) [] r (c ∷ s) a b p q e =
    let f : x ∷ (xs ++ r) ≡ c ∷ s = e in
    let g : x ≡ c = cc in
    absurd (q (subst IsDigit g a.0))
same_digits (x ∷ xs) (y ∷ ys) r s a b p q e =
    let f : x ∷ (xs ++ r) ≡ y ∷ (ys ++ s) = e in
    let g : x ≡ y = cc in
    let h : xs ++ r ≡ ys ++ s = cc in
    let i : (xs ≡ ys) × (r ≡ s) = same_digits xs ys r s a.1 b.1 p q h in
    let j : xs ≡ ys = i.0 in
    (cc, i.1)

pub same_number : (m n : ℕ) (r s : List ℕ) → IsPastDigits r → IsPastDigits s → decimal m ++ r ≡ decimal n ++ s → (m ≡ n) × (r ≡ s)
same_number m n r s p q e =
    let i : (decimal m ≡ decimal n) × (r ≡ s) = same_digits (decimal m) (decimal n) r s (digits_of m) (digits_of n) p q e in
    (decimal_injective m n i.0, i.1)

-- digits before a text, where the first byte is another one
first_digit : (xs r : List ℕ) (b : ℕ) (s : List ℕ) → 0 < length xs → AllDigits xs → xs ++ r ≡ b ∷ s → IsDigit b
first_digit [] r b s some a e = let l : 0 < 0 = some in absurd (omega arith)
first_digit (x ∷ xs) r b s some a e =
    let f : x ∷ (xs ++ r) ≡ b ∷ s = e in
    let g : x ≡ b = cc in
    subst IsDigit g a.0

pub number_first : (n : ℕ) (r : List ℕ) (b : ℕ) (s : List ℕ) → decimal n ++ r ≡ b ∷ s → IsDigit b
number_first n r b s e = first_digit (decimal n) r b s (decimal_is_canonical n).0.some_digit (digits_of n) e

pub stops_at : (b : ℕ) (r : List ℕ) → (b < 48) ⊎ (57 < b) → IsPastDigits (b ∷ r)
stops_at b r (inl l) d = let p : 48 ≤ b = d.0 in omega arith
stops_at b r (inr l) d = let p : b ≤ 57 = d.1 in omega arith

digits_before : (ds behind x : List ℕ) → 0 < length ds → (get_or ds 0 0 ≡ 48 → length ds ≡ 1) → ds ++ behind ≡ 48 ∷ x → behind ≡ x
digits_before [] behind x some alone e = absurd (omega arith)
digits_before (d ∷ []) behind x some alone e = let f : d ∷ behind ≡ 48 ∷ x = e in cc
digits_before (d ∷ c ∷ ds) behind x some alone e =
    let f : d ∷ c ∷ (ds ++ behind) ≡ 48 ∷ x = e in
    let g : d ≡ 48 = cc in
    let l : suc (suc (length ds)) ≡ 1 = alone g in
    absurd (omega arith)

pub zero_alone : (n : ℕ) (behind x : List ℕ) → IsPastDigits behind → decimal n ++ behind ≡ 48 ∷ x → IsPastDigits x
zero_alone n behind x s e =
    let c = (decimal_is_canonical n).0 in
    subst IsPastDigits (digits_before (decimal n) behind x c.some_digit c.no_leading_zero e) s

pub number_no_stop : (n : ℕ) (behind x : List ℕ) → x ≡ decimal n ++ behind → IsPastDigits x → ⊥
number_no_stop n behind [] e s =
    let l : 0 ≡ length (decimal n) + length behind = ap length e ∙ length-append (decimal n) behind in
    let c = (decimal_is_canonical n).0.some_digit in
    absurd (omega arith)
number_no_stop n behind (b ∷ x) e s = s (number_first n behind b x (sym e))

-- ---- a number, digit by digit

-- one digit more
pub digit_more : (text rest tail : List ℕ) (v d : ℕ) → 0 < v → d < 10 → text ≡ decimal v ++ rest → rest ≡ (48 + d) ∷ tail → text ≡ decimal (v * 10 + d) ++ tail
digit_more text rest tail v d above small e f =
    let front : (v * 10 + d) / 10 ≡ v = omega arith in
    let last : (v * 10 + d) % 10 ≡ d = omega arith in
    e ∙ ap (λ w. decimal v ++ w) f ∙ sym (append_assoc (decimal v) ((48 + d) ∷ []) tail)
    ∙ ap (λ w. w ++ tail) (ap (λ n. decimal n ++ (48 + d) ∷ []) (sym front) ∙ ap (λ n. decimal ((v * 10 + d) / 10) ++ (48 + n) ∷ []) (sym last) ∙ sym (decimal_step (v * 10 + d) (omega arith)))

pub digit_first : (text tail : List ℕ) (d : ℕ) → d < 10 → text ≡ (48 + d) ∷ tail → text ≡ decimal d ++ tail
digit_first text tail d small e = e ∙ ap (λ w. w ++ tail) (sym (decimal_digit d small))

-- a number whose first digits are those of v is at least v
digits_grow : (text rest : List ℕ) (v n : ℕ) (tail : List ℕ) → 0 < v → text ≡ decimal v ++ rest → IsPastDigits tail → text ≡ decimal n ++ tail → v ≤ n
digits_grow text [] v n tail above e s f = let same : (v ≡ n) × ([] ≡ tail) = same_number v n [] tail tt s (sym e ∙ f) in omega (arith, same.0)
digits_grow text (b ∷ rest) v n tail above e s f = elim (cases_lt b 48) [
  | inl low ↦ (let same : (v ≡ n) × (b ∷ rest ≡ tail) = same_number v n (b ∷ rest) tail (stops_at b rest (inl low)) s (sym e ∙ f) in omega (arith, same.0))
  | inr from ↦ elim (cases_lt 57 b) [
    | inl high ↦ (let same : (v ≡ n) × (b ∷ rest ≡ tail) = same_number v n (b ∷ rest) tail (stops_at b rest (inr high)) s (sym e ∙ f) in omega (arith, same.0))
    | inr to ↦ (
        let is : b ≡ 48 + (b - 48) = omega arith in
        let g : v * 10 + (b - 48) ≤ n = digits_grow text rest (v * 10 + (b - 48)) n tail (omega arith) (digit_more text (b ∷ rest) rest v (b - 48) above (omega arith) e (ap (λ w. w ∷ rest) is)) s f in
        omega arith)
  ]
]

pub too_long : (text rest tail : List ℕ) (v d : ℕ) → 10000 ≤ v → d < 10 → text ≡ decimal v ++ rest → rest ≡ (48 + d) ∷ tail → LacksNumber text
too_long text rest tail v d large small e f n behind below s g =
    let grown : v * 10 + d ≤ n = digits_grow text tail (v * 10 + d) n behind (omega arith) (digit_more text rest tail v d (omega arith) small e f) s g in
    omega arith

pub no_digit_lacks : (text : List ℕ) → IsPastDigits text → LacksNumber text
no_digit_lacks text s n tail below t e = number_no_stop n tail text e s

pub zero_lacks : (text behind tail : List ℕ) (d : ℕ) → d < 10 → text ≡ 48 ∷ behind → behind ≡ (48 + d) ∷ tail → LacksNumber text
zero_lacks text behind tail d small e f n t below s g =
    let stop : IsPastDigits behind = zero_alone n t behind s (sym g ∙ e) in
    let no : ¬ (IsDigit (48 + d)) = subst IsPastDigits f stop in
    no (omega arith, omega arith)

-- what the loop over digits knows
pub more_from : (v d i : ℕ) → 1 ≤ i → 10 ^ (i - 1) ≤ v → 10 ^ (i + 1 - 1) ≤ v * 10 + d
more_from v d i some from =
    let e : i + 1 - 1 ≡ (i - 1) + 1 = omega arith in
    omega (arith, pow_more 10 (i - 1), ap (λ n. 10 ^ n) e)

pub number_shorter : (text tail : List ℕ) (n : ℕ) → IsNumberSplit text n tail → length tail < length text
number_shorter text tail n s =
    let a : length text ≡ length (decimal n) + length tail = ap length s.0 ∙ length-append (decimal n) tail in
    let b = (decimal_is_canonical n).0.some_digit in
    omega arith

pub pow_some : (i : ℕ) → 1 ≤ 10 ^ i
pow_some i = let a : 10 ^ 0 ≤ 10 ^ i = pow-le-pow_right {n = 10} (omega arith) {i = 0} {j = i} (omega arith) in a

pub large_after : (v i : ℕ) → 5 ≤ i → 10 ^ (i - 1) ≤ v → 10000 ≤ v
large_after v i last from = let a : 10 ^ 4 ≤ 10 ^ (i - 1) = pow-le-pow_right {n = 10} (omega arith) {i = 4} {j = i - 1} (omega arith) in omega arith

pub small_still : (v i : ℕ) → i ≤ 5 → v < 10 ^ i → v < 100000
small_still v i few below = let a : 10 ^ i ≤ 10 ^ 5 = pow-le-pow_right {n = 10} (omega arith) {i = i} {j = 5} (omega arith) in omega arith
