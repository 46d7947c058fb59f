-- The laws of numbers and their digits.
use Rattle.std.proofs.Common.{◌≡◌, ℕ, ◌+◌, ◌-◌, ◌*◌, ◌/◌, ◌%◌, ◌^◌, ◌<◌, ◌≤◌, zero, suc, Bool, true, false, ◌&&◌, eqb, List, [], ◌∷◌, ◌++◌, length, get_or, take, drop, map, Option, Some, None, refl, sym, ap, ◌∙◌, ⊎_elim, subst, arith, leb}
use Rattle.std.specs.Char.{is_ascii_digit}
use Rattle.std.specs.Int.Digits.{digits_of}
use Rattle.std.specs.Fmt.{decimal as displayed}
use Rattle.std.specs.List.{All, AllPass, list_all}
use Rattle.std.proofs.lemmas.Bool.{cases_lt, eqb-true, lt-ltb, le-leb, leb-true, and_from, and_parts, or_from, ne_eqb, cond-true}
use Rattle.std.proofs.lemmas.Fmt.{decimal_digit as displayed_digit, decimal-digits_of as displayed-digits_of}
use Rattle.std.proofs.lemmas.Grind.{fold-append, pow_more}
use Rattle.std.proofs.lemmas.Int.Digits.{digits_of_step, length-digits_of-le}
use Rattle.std.proofs.lemmas.List.{append_assoc, append-nil, map-append, length-map, length-append, length-take-le, get_or-take, take_more, get_or_append_left}
use Rattle.std.proofs.lemmas.List.Elements.{All-nil, All-cons, All-head, All-tail, All-push, All-weaker}
use Rattle.std.proofs.Math.Nat.{pow-le-pow_right}
use Rattle.md_text.specs.declared.digits.TheConstants.{DIGITS, PAIRS}
use Rattle.md_text.specs.Fields.{fields, is_blank, IsWord}
use Rattle.md_text.specs.Numbers.{value, decimal, is_number, number_of, BeginsWithNumber, IsCanonical}
use Rattle.md_text.proofs.FieldLemmas.{BeginsAt, IsFirstField, field_cut}

abbrev IsDigit : ℕ → Type 0
IsDigit byte = is_ascii_digit byte ≡ true

-- a digit, by its bounds
pub digit_bounds : (byte : ℕ) → is_ascii_digit byte ≡ true → (48 ≤ byte) × (byte ≤ 57)
digit_bounds byte is =
    let parts = and_parts (leb 48 byte) (leb byte 57) is in
    (leb-true 48 byte parts.0, leb-true byte 57 parts.1)

pub digit_within : (byte : ℕ) → 48 ≤ byte → byte ≤ 57 → is_ascii_digit byte ≡ true
digit_within byte low high = and_from (leb 48 byte) (leb byte 57) (le-leb 48 byte low) (le-leb byte 57 high)

pub value-nil : value [] ≡ 0
unfolding value
value-nil = refl

pub value-push : (digits : List ℕ) (digit : ℕ) → value (digits ++ digit ∷ []) ≡ value digits * 10 + (digit - 48)
unfolding value
value-push digits digit = fold-append (λ (number : ℕ) (d : ℕ). number * 10 + (d - 48)) 0 digits (digit ∷ [])

-- the digits of a number above 0
decimal_above : (n : ℕ) → 0 < n → decimal n ≡ map (λ digit. 48 + digit) (digits_of 10 n)
unfolding decimal
decimal_above zero above = absurd (omega arith)
decimal_above (suc n) above = refl

decimal-zero : decimal 0 ≡ 48 ∷ []
unfolding decimal
decimal-zero = refl

pub decimal_step : (n : ℕ) → 10 ≤ n → decimal n ≡ decimal (n / 10) ++ (48 + n % 10) ∷ []
decimal_step n large =
    decimal_above n (omega arith) ∙ ap (map (λ (digit : ℕ). 48 + digit)) (digits_of_step 10 n (omega arith) (omega arith))
    ∙ map-append (λ (digit : ℕ). 48 + digit) (digits_of 10 (n / 10)) (n % 10 ∷ [])
    ∙ ap (λ (front : List ℕ). front ++ (48 + n % 10) ∷ []) (sym (decimal_above (n / 10) (omega arith)))

pub decimal_digit : (n : ℕ) → n < 10 → decimal n ≡ (48 + n) ∷ []
decimal_digit zero small = decimal-zero
decimal_digit (suc n) small =
    let none : suc n / 10 ≡ 0 = omega arith in
    let all : suc n % 10 ≡ suc n = omega arith in
    decimal_above (suc n) (omega arith) ∙ ap (map (λ (digit : ℕ). 48 + digit)) (digits_of_step 10 (suc n) (omega arith) (omega arith))
    ∙ ap (λ (m : ℕ). map (λ (digit : ℕ). 48 + digit) (digits_of 10 m ++ suc n % 10 ∷ [])) none
    ∙ ap (λ (m : ℕ). (48 + m) ∷ []) all

-- what holds of one digit, and with one digit more, holds of the digits of each number
decimal_within : (P : ℕ → List ℕ → Type 0) (one : (n : ℕ) → n < 10 → P n ((48 + n) ∷ [])) (more : (n : ℕ) (front : List ℕ) → 10 ≤ n → P (n / 10) front → P n (front ++ (48 + n % 10) ∷ [])) → (turns n : ℕ) → n ≤ turns → P n (decimal n)
decimal_within P one more zero n within = subst (P n) (sym (decimal_digit n (omega arith))) (one n (omega arith))
decimal_within P one more (suc turns) n within = ⊎_elim
    (λ (small : n < 10). subst (P n) (sym (decimal_digit n small)) (one n small))
    (λ (large : 10 ≤ n). subst (P n) (sym (decimal_step n large)) (more n (decimal (n / 10)) large (decimal_within P one more turns (n / 10) (omega arith))))
    (cases_lt n 10)

pub decimal_by_steps : (P : ℕ → List ℕ → Type 0) (one : (n : ℕ) → n < 10 → P n ((48 + n) ∷ [])) (more : (n : ℕ) (front : List ℕ) → 10 ≤ n → P (n / 10) front → P n (front ++ (48 + n % 10) ∷ [])) → (n : ℕ) → P n (decimal n)
decimal_by_steps P one more n = decimal_within P one more n n (omega arith)

-- the canonical digits of n
record Spells (n : ℕ) (digits : List ℕ) : Type 0 where
  some : 0 < length digits
  digits_all : All IsDigit digits
  leads : 0 < n → 48 < get_or digits 0 0
  zero_alone : n ≡ 0 → length digits ≡ 1
  is_value : value digits ≡ n

spells_digit : (n : ℕ) → n < 10 → Spells n ((48 + n) ∷ [])
spells_digit n small = record {
  some = omega arith;
  digits_all = All-cons IsDigit (48 + n) [] (digit_within (48 + n) (omega arith) (omega arith)) (All-nil IsDigit);
  leads = λ above. omega arith;
  zero_alone = λ none. refl;
  is_value = value-push [] (48 + n) ∙ (let none = value-nil in omega arith);
}

spells_more : (n : ℕ) (front : List ℕ) → 10 ≤ n → Spells (n / 10) front → Spells n (front ++ (48 + n % 10) ∷ [])
spells_more n front large s = record {
  some = omega (arith, length-append front ((48 + n % 10) ∷ []));
  digits_all = All-push IsDigit front (48 + n % 10) s.digits_all (digit_within (48 + n % 10) (omega arith) (omega arith));
  leads = λ above. subst (λ (head : ℕ). 48 < head) (sym (get_or_append_left front ((48 + n % 10) ∷ []) 0 0 s.some)) (s.leads (omega arith));
  zero_alone = λ none. absurd (omega arith);
  is_value = value-push front (48 + n % 10) ∙ (let front_is = s.is_value in omega arith);
}

spells_decimal : (n : ℕ) → Spells n (decimal n)
spells_decimal = decimal_by_steps Spells spells_digit spells_more

canonical_of : (n : ℕ) (digits : List ℕ) → Spells n digits → IsCanonical digits
canonical_of n digits s = record {
  some_digit = s.some;
  all_digits = s.digits_all;
  no_leading_zero = λ is_zero. ⊎_elim (λ (above : 0 < n). absurd (let leads = s.leads above in omega arith)) (λ (none : n ≤ 0). s.zero_alone (omega arith)) (cases_lt 0 n);
}

pub decimal_is_canonical : (n : ℕ) → IsCanonical (decimal n) × (value (decimal n) ≡ n)
decimal_is_canonical n = (canonical_of n (decimal n) (spells_decimal n), (spells_decimal n).is_value)

pub decimal_injective : (m n : ℕ) → decimal m ≡ decimal n → m ≡ n
decimal_injective m n same = sym (decimal_is_canonical m).1 ∙ ap value same ∙ (decimal_is_canonical n).1

-- the value of digits that don't begin with 0 isn't 0
value_above : (front : List ℕ) → 48 < get_or front 0 0 → decimal (value front) ≡ front → 0 < value front
value_above front leads so_far = ⊎_elim
    (λ (above : 0 < value front). above)
    (λ (none : value front ≤ 0).
    let is_zero : value front ≡ 0 = omega arith in
    let head = ap (λ (digits : List ℕ). get_or digits 0 0) (sym so_far ∙ ap decimal is_zero ∙ decimal-zero) in
    absurd (omega arith))
    (cases_lt 0 (value front))

-- canonical digits with one digit more behind them
spelling_push : (front : List ℕ) (digit : ℕ) → 48 < get_or front 0 0 → IsDigit digit → decimal (value front) ≡ front → decimal (value (front ++ digit ∷ [])) ≡ front ++ digit ∷ []
spelling_push front digit leads is so_far =
    let bounds = digit_bounds digit is in
    let above = value_above front leads so_far in
    let whole = value-push front digit in
    let tenth : value (front ++ digit ∷ []) / 10 ≡ value front = omega arith in
    let last : 48 + value (front ++ digit ∷ []) % 10 ≡ digit = omega arith in
    decimal_step (value (front ++ digit ∷ [])) (omega arith)
    ∙ ap (λ (n : ℕ). decimal n ++ (48 + value (front ++ digit ∷ []) % 10) ∷ []) tenth
    ∙ ap (λ (digits : List ℕ). digits ++ (48 + value (front ++ digit ∷ []) % 10) ∷ []) so_far
    ∙ ap (λ (n : ℕ). front ++ n ∷ []) last

-- and with any digits behind them
spelling_append : (front digits : List ℕ) → 0 < length front → 48 < get_or front 0 0 → All IsDigit digits → decimal (value front) ≡ front → decimal (value (front ++ digits)) ≡ front ++ digits
spelling_append front [] some leads all so_far = subst (λ (w : List ℕ). decimal (value w) ≡ w) (sym (append-nil front)) so_far
spelling_append front (digit ∷ digits) some leads all so_far =
    let longer = spelling_push front digit leads (All-head IsDigit digit digits all) so_far in
    let head = get_or_append_left front (digit ∷ []) 0 0 some in
    subst (λ (w : List ℕ). decimal (value w) ≡ w) (append_assoc front (digit ∷ []) digits) (spelling_append (front ++ digit ∷ []) digits (omega (arith, length-append front (digit ∷ []))) (omega arith) (All-tail IsDigit digit digits all) longer)

spelling_digit : (digit : ℕ) → IsDigit digit → decimal (value (digit ∷ [])) ≡ digit ∷ []
spelling_digit digit is =
    let bounds = digit_bounds digit is in
    let whole = value-push [] digit in
    let none = value-nil in
    let below : value (digit ∷ []) < 10 = omega arith in
    let same : 48 + value (digit ∷ []) ≡ digit = omega arith in
    decimal_digit (value (digit ∷ [])) below ∙ ap (λ (n : ℕ). n ∷ []) same

pub decimal-value : (digits : List ℕ) → IsCanonical digits → decimal (value digits) ≡ digits
decimal-value [] c = absurd (let some = c.some_digit in omega arith)
decimal-value (digit ∷ []) c = spelling_digit digit (All-head IsDigit digit [] c.all_digits)
decimal-value (digit ∷ next ∷ digits) c =
    let is = All-head IsDigit digit (next ∷ digits) c.all_digits in
    let bounds = digit_bounds digit is in
    let leads : 48 < digit = ⊎_elim (λ (above : 48 < digit). above) (λ (low : digit ≤ 48). let alone = c.no_leading_zero (omega arith) in absurd (omega arith)) (cases_lt 48 digit) in
    spelling_append (digit ∷ []) (next ∷ digits) (omega arith) leads (All-tail IsDigit digit (next ∷ digits) c.all_digits) (spelling_digit digit is)

pub length-decimal-le : (k n : ℕ) → 0 < k → n < 10 ^ k → length (decimal n) ≤ k
length-decimal-le k zero some below = omega (arith, ap length decimal-zero)
length-decimal-le k (suc n) some below =
    omega (arith, ap length (decimal_above (suc n) (omega arith)), length-map (digits_of 10 (suc n)) (λ (digit : ℕ). 48 + digit), length-digits_of-le 10 k (suc n) (omega arith) below)

pub decimal_is_digits : (n : ℕ) → All (λ byte. (48 ≤ byte) × (byte ≤ 57)) (decimal n)
decimal_is_digits n = All-weaker IsDigit (λ byte. (48 ≤ byte) × (byte ≤ 57)) digit_bounds (decimal n) (spells_decimal n).digits_all

-- a digit is no blank
digit_no_blank : (byte : ℕ) → is_ascii_digit byte ≡ true → is_blank byte ≡ false
digit_no_blank byte is =
    let bounds = digit_bounds byte is in
    or_from _ _ (ne_eqb byte 32 (λ e. omega arith)) (ne_eqb byte 9 (λ e. omega arith))

pub decimal_is_word : (n : ℕ) → IsWord (decimal n)
decimal_is_word n = record {
  some_byte = (spells_decimal n).some;
  no_blank = All-weaker IsDigit (λ byte. is_blank byte ≡ false) digit_no_blank (decimal n) (spells_decimal n).digits_all;
}

pub list_all-from_AllPass : (digits : List ℕ) → AllPass is_ascii_digit digits → list_all is_ascii_digit digits ≡ true
list_all-from_AllPass [] all = refl
list_all-from_AllPass (digit ∷ digits) all =
    and_from (is_ascii_digit digit) (list_all is_ascii_digit digits) (All-head IsDigit digit digits all) (list_all-from_AllPass digits (All-tail IsDigit digit digits all))

pub AllPass-from_list_all : (digits : List ℕ) → list_all is_ascii_digit digits ≡ true → AllPass is_ascii_digit digits
AllPass-from_list_all [] all = All-nil IsDigit
AllPass-from_list_all (digit ∷ digits) all =
    let parts = and_parts (is_ascii_digit digit) (list_all is_ascii_digit digits) all in
    All-cons IsDigit digit digits parts.0 (AllPass-from_list_all digits parts.1)

pub number_of-tested : (digits : List ℕ) → 0 < length digits → length digits ≤ DIGITS → list_all is_ascii_digit digits ≡ true → number_of digits ≡ Some (value digits)
number_of-tested digits some short all =
    cond-true (is_number digits) (Some (value digits)) None (and_from _ _ (lt-ltb 0 (length digits) some) (and_from _ _ (le-leb (length digits) DIGITS short) all))

pub number_of-digits : (digits : List ℕ) → 0 < length digits → length digits ≤ DIGITS → AllPass is_ascii_digit digits → number_of digits ≡ Some (value digits)
number_of-digits digits some short all = number_of-tested digits some short (list_all-from_AllPass digits all)

pub number_of-decimal : (n : ℕ) → n < 10 ^ DIGITS → number_of (decimal n) ≡ Some n
number_of-decimal n below =
    number_of-digits (decimal n) (spells_decimal n).some (length-decimal-le DIGITS n (omega arith) below) (spells_decimal n).digits_all ∙ ap Some (spells_decimal n).is_value

pub displayed-decimal : (n : ℕ) → n < 2 ^ 64 → displayed n ≡ decimal n
displayed-decimal zero small = displayed_digit 0 (omega arith) ∙ sym decimal-zero
displayed-decimal (suc n) small = displayed-digits_of (suc n) (omega arith) small ∙ sym (decimal_above (suc n) (omega arith))

-- one more digit of a list that is read from the front
pub value_more : (digits : List ℕ) (i : ℕ) → i < length digits → value (take (i + 1) digits) ≡ value (take i digits) * 10 + (get_or digits i 0 - 48)
value_more digits i below = ap value (take_more digits i 0 below) ∙ value-push (take i digits) (get_or digits i 0)

-- a number of fewer than DIGITS digits has room for one digit more
pub number_room : (n i : ℕ) → n < 10 ^ i → i < DIGITS → n * 10 + 9 < 10 ^ DIGITS
number_room n i below short = omega (arith, pow-le-pow_right {n = 10} (omega arith) {i = i} {j = 17} (omega arith))

pub number_grows : (n i digit : ℕ) → n < 10 ^ i → digit ≤ 9 → n * 10 + digit < 10 ^ (i + 1)
number_grows n i digit below small = omega (arith, pow_more 10 i)

-- the two digits of a number below 100
abbrev pub pair : ℕ → List ℕ
pair n = (48 + n / 10) ∷ (48 + n % 10) ∷ []

pub decimal_two : (n : ℕ) → 10 ≤ n → n < 100 → decimal n ≡ pair n
decimal_two n large small = rw (decimal_step n large, decimal_digit (n / 10) (omega arith))

pub decimal_pair : (n : ℕ) → 100 ≤ n → decimal n ≡ decimal (n / 100) ++ pair (n % 100)
decimal_pair n large =
    let front : n / 10 / 10 ≡ n / 100 = omega arith in
    let tens : n / 10 % 10 ≡ n % 100 / 10 = omega arith in
    let ones : n % 10 ≡ n % 100 % 10 = omega arith in
    rw (decimal_step n (omega arith), decimal_step (n / 10) (omega arith), append_assoc, front, tens, ← ones)

pub decimal_four : (n : ℕ) → 10000 ≤ n → decimal n ≡ decimal (n / 10000) ++ (pair (n % 10000 / 100) ++ pair (n % 100))
decimal_four n large =
    let front : n / 100 / 100 ≡ n / 10000 = omega arith in
    let middle : n / 100 % 100 ≡ n % 10000 / 100 = omega arith in
    rw (decimal_pair n (omega arith), decimal_pair (n / 100) (omega arith), append_assoc, front, middle)

pub length-decimal_digit : (n : ℕ) → n < 10 → length (decimal n) ≡ 1
length-decimal_digit n small = ap length (decimal_digit n small)

pub length-decimal_two : (n : ℕ) → 10 ≤ n → n < 100 → length (decimal n) ≡ 2
length-decimal_two n large small = ap length (decimal_two n large small)

pub length-decimal_pair : (n : ℕ) → 100 ≤ n → length (decimal n) ≡ length (decimal (n / 100)) + 2
length-decimal_pair n large = ap length (decimal_pair n large) ∙ length-append (decimal (n / 100)) (pair (n % 100))

pub length-decimal_four : (n : ℕ) → 10000 ≤ n → length (decimal n) ≡ length (decimal (n / 10000)) + 4
length-decimal_four n large = ap length (decimal_four n large) ∙ length-append (decimal (n / 10000)) (pair (n % 10000 / 100) ++ pair (n % 100))

-- the table of two digits, place by place
abbrev are_pairs : ℕ → Bool
are_pairs zero = true
are_pairs (suc n) = (eqb (get_or PAIRS (n * 2) 0) (48 + n / 10) && eqb (get_or PAIRS (n * 2 + 1) 0) (48 + n % 10)) && are_pairs n

pairs_below : (turns n : ℕ) → are_pairs turns ≡ true → n < turns → (get_or PAIRS (n * 2) 0 ≡ 48 + n / 10) × (get_or PAIRS (n * 2 + 1) 0 ≡ 48 + n % 10)
pairs_below zero n all below = absurd (omega arith)
pairs_below (suc turns) n all below =
    let parts = and_parts (eqb (get_or PAIRS (turns * 2) 0) (48 + turns / 10) && eqb (get_or PAIRS (turns * 2 + 1) 0) (48 + turns % 10)) (are_pairs turns) all in
    let both = and_parts (eqb (get_or PAIRS (turns * 2) 0) (48 + turns / 10)) (eqb (get_or PAIRS (turns * 2 + 1) 0) (48 + turns % 10)) parts.0 in
    ⊎_elim
    (λ (less : n < turns). pairs_below turns n parts.1 less)
    (λ (more : turns ≤ n). let same : n ≡ turns = omega arith in rw same (eqb-true _ _ both.0, eqb-true _ _ both.1))
    (cases_lt n turns)

pub PAIRS_at : (n : ℕ) → n < 100 → (get_or PAIRS (n * 2) 0 ≡ 48 + n / 10) × (get_or PAIRS (n * 2 + 1) 0 ≡ 48 + n % 10)
PAIRS_at n below = pairs_below 100 n refl below

pub ruleset digit_steps = (decimal_digit, decimal_two, decimal_pair, decimal_four, length-decimal_digit, length-decimal_two, length-decimal_pair, length-decimal_four)

-- a text after its digits are pushed, two by two
pub pushed_pair : (old front all : List ℕ) (a b x y : ℕ) → front ≡ old ++ a ∷ [] → all ≡ front ++ b ∷ [] → a ≡ x → b ≡ y → all ≡ old ++ x ∷ y ∷ []
pushed_pair old front all a b x y is_front is_all is_x is_y =
    let regroup = append_assoc old (a ∷ []) (b ∷ []) in cc

pub pushed_short : (old front all : List ℕ) (n : ℕ) → 100 ≤ n → front ≡ old ++ decimal (n / 100) → all ≡ front ++ pair (n % 100) → all ≡ old ++ decimal n
pushed_short old front all n large is_front is_all =
    let regroup = append_assoc old (decimal (n / 100)) (pair (n % 100)) in
    let digits = decimal_pair n large in
    cc

pub pushed_long : (old front next all : List ℕ) (n : ℕ) → 10000 ≤ n → front ≡ old ++ decimal (n / 10000) → next ≡ front ++ pair (n % 10000 / 100) → all ≡ next ++ pair (n % 100) → all ≡ old ++ decimal n
pushed_long old front next all n large is_front is_next is_all =
    let regroup = append_assoc old (decimal (n / 10000)) (pair (n % 10000 / 100) ++ pair (n % 100)) in
    let before = append_assoc (old ++ decimal (n / 10000)) (pair (n % 10000 / 100)) (pair (n % 100)) in
    let digits = decimal_four n large in
    cc

-- the room that any `u64` needs
pub decimal_fits_20 : (n : ℕ) → n < 2 ^ 64 → length (decimal n) ≤ 20
decimal_fits_20 n small = length-decimal-le 20 n (omega arith) (omega arith)

-- digits that a field begins with are no blanks
digits_no_blank : (text : List ℕ) (count : ℕ) → count ≤ length text → list_all is_ascii_digit (take count text) ≡ true → (k : ℕ) → k < count → is_blank (get_or text k 0) ≡ false
digits_no_blank text count within all k below =
    let is = AllPass-from_list_all (take count text) all k 0 (omega (arith, length-take-le count text within)) in
    digit_no_blank (get_or text k 0) (ap is_ascii_digit (sym (get_or-take count text k 0 below)) ∙ is)

-- what a reader knows of a field that begins at `start`, of which the first `count` bytes are digits
pub record IsFirstNumber (line rest : List ℕ) (start count : ℕ) : Type 0 where
  pub front : BeginsAt line rest start
  pub some : 0 < count
  pub within : count ≤ length rest
  pub at_most : count ≤ DIGITS
  pub digits : list_all is_ascii_digit (take count rest) ≡ true
  pub found : count < length rest → is_blank (get_or rest count 0) ≡ true

pub number_begins : (line rest behind : List ℕ) (start count number : ℕ) → IsFirstNumber line rest start count → number ≡ value (take count rest) → behind ≡ drop count rest → BeginsWithNumber line (Some number) behind
number_begins line rest behind start count number f is_value is_behind = record {
  field = take count rest;
  is_first = field_cut line rest start count (record {
    front = f.front;
    within = f.within;
    others = digits_no_blank rest count f.within f.digits;
    found = f.found;
  }) ∙ ap (λ (tail : List ℕ). take count rest ∷ fields tail) (sym is_behind);
  is_number = ap Some is_value ∙ sym (number_of-tested (take count rest) (let some = f.some in omega (arith, length-take-le count rest f.within)) (let at_most = f.at_most in omega (arith, length-take-le count rest f.within)) f.digits);
}

pub field_begins : (line rest field behind : List ℕ) (start end : ℕ) (number : Option ℕ) → IsFirstField line rest start end → field ≡ take end rest → behind ≡ drop end rest → number ≡ number_of field → BeginsWithNumber line number behind
field_begins line rest field behind start end number f is_field is_behind is_number = record {
  field = field;
  is_first = field_cut line rest start end f ∙ cc;
  is_number = is_number;
}
