-- The members that an iterator over words has left.
use Rattle.std.proofs.Common.{ltb, ◌&&◌, append-nil, mod-eq_of_lt, add-zero, leb-true, leb-false, le-leb, shr-shr, ◌≡◌, ℕ, zero, suc, ◌+◌, ◌-◌, ◌*◌, ◌/◌, ◌%◌, ◌^◌, ◌<◌, ◌≤◌, ◌≢◌, min, bit_and, Bool, true, false, if◌then◌else◌, ◌==◌, nat_le, List, [], ◌∷◌, ◌++◌, length, get_or, append_assoc, refl, arith, ap, sym, ◌∙◌, mod-lt, pow_pos, suc-mul, subst}
use Rattle.std.proofs.lemmas.Bool.Decides.{nat_tests}
use Rattle.std.specs.Int.{bit_at, w64, trailing_zeros}
use Rattle.std.proofs.lemmas.Bool.{lt-leb}
use Rattle.std.proofs.lemmas.Nat.{shr_split}
use Rattle.std.proofs.lemmas.Nat.Bits.{bit_at-zero, bit_at_and, bit_at-trailing_zeros, same_from_bits_below, bit_at-suc, bit_at_lowest, bit_at_cat_low, bit_at_cat_high}
use Rattle.md_graph.specs.Sets.{NameSet}
use Rattle.md_graph.specs.NameSet.{AllBelow, ascending, ascending_between, ascending_from}
use Rattle.md_graph.specs.declared.TheConstants.{NAMES, WORDS}
use Rattle.md_graph.proofs.Limits.{words_few}
use Rattle.std.proofs.lemmas.Bool.{false_from_ne_true}
use Rattle.md_graph.specs.Words.{bit_of, names_below, bits_between, names_of_words, members_left}
use Rattle.md_graph.proofs.NameLemmas.{few_below, not_both, ascending_none}
use Rattle.md_graph.proofs.BitWords.{InUse, contains-names_below, zero_bit}
use Rattle.std.specs.FinSet as set

-- ---- the bits of one word

pub no_bits : (first a n : ℕ) → ((k : ℕ) → k < n → bit_at a k ≡ 0) → bits_between first a n ≡ []
unfolding bits_between
no_bits first a zero none = refl
no_bits first a (suc n) none =
    let here = none n (omega arith) in
    let before = no_bits first a n (λ k h. none k (omega arith)) in
    rw (before, here) refl

pub no_bits_of_zero : (first n : ℕ) → bits_between first 0 n ≡ []
no_bits_of_zero first n = no_bits first 0 n (λ k _. bit_at-zero k)

-- a has its lowest bit at t, and b is a without it
record IsLowest (a b t : ℕ) : Type 0 where
  below : (k : ℕ) → k < t → bit_at a k ≡ 0
  here : bit_at a t ≡ 1
  below_too : (k : ℕ) → k < t → bit_at b k ≡ 0
  gone : bit_at b t ≡ 0
  above : (k : ℕ) → t < k → bit_at b k ≡ bit_at a k

lowest_first : (first a b t n : ℕ) → IsLowest a b t → bits_between first a (t + 1 + n) ≡ (first + t) ∷ bits_between first b (t + 1 + n)
unfolding bits_between
lowest_first first a b t zero is =
    let bound : t + 1 + 0 ≡ suc t = omega arith in
    rw (bound, no_bits first a t is.below, no_bits first b t is.below_too, is.here, is.gone) refl
lowest_first first a b t (suc n) is =
    let bound : t + 1 + suc n ≡ suc (t + 1 + n) = omega arith in
    rw (bound, lowest_first first a b t n is, is.above (t + 1 + n) (omega arith)) refl

-- a number whose bits below t are 0
low_part : (a t : ℕ) → ((i : ℕ) → i < t → bit_at a i ≡ 0) → a % 2 ^ t ≡ 0
low_part a t none =
    same_from_bits_below t (a % 2 ^ t) 0 (mod-lt _ (pow_pos t)) (pow_pos t) (λ i h.
    sym (bit_at_cat_low (a / 2 ^ t) t (a % 2 ^ t) i h) ∙ ap (λ x. bit_at x i) (shr_split a t) ∙ none i h ∙ sym (bit_at-zero i))

least : (x y z : ℕ) → z ≡ min x y → x ≡ 0 → z ≡ 0
least x y z is none = omega arith

least_right : (x y z : ℕ) → z ≡ min x y → y ≡ 0 → z ≡ 0
least_right x y z is none = omega arith

least_same : (x y z : ℕ) → z ≡ min x y → y ≡ x → z ≡ x
least_same x y z is same = omega arith

-- `a - 1` ends in t ones where a ends in a one and t zeros
less_one : (a h p : ℕ) → a ≡ h * p → 0 < p → 0 < h → a - 1 ≡ (h - 1) * p + (p - 1)
less_one a h p is pos here =
    let more : (h - 1) * p + p ≡ h * p = sym (suc-mul (h - 1) p) ∙ ap (λ x. x * p) (let e : suc (h - 1) ≡ h = omega arith in e) in
    omega arith

next_bits : (h j : ℕ) → h % 2 ≡ 1 → 0 < j → bit_at (h - 1) j ≡ bit_at h j
next_bits h j odd above =
    let place : j ≡ suc (j - 1) = omega arith in
    let half : (h - 1) / 2 ≡ h / 2 = omega arith in
    rw (place, bit_at-suc (h - 1) (j - 1), bit_at-suc h (j - 1), half) refl

lowest_of : (a t : ℕ) → bit_at a t ≡ 1 → ((i : ℕ) → i < t → bit_at a i ≡ 0) → IsLowest a (bit_and a (a - 1)) t
lowest_of a t one none =
    let p = pow_pos t in
    let h = a / 2 ^ t in
    let whole : a ≡ h * 2 ^ t = omega (arith, low_part a t none, shr_split a t) in
    let odd : h % 2 ≡ 1 = one in
    let minus = less_one a h (2 ^ t) whole p (omega arith) in
    let ones_below : 2 ^ t - 1 < 2 ^ t = omega arith in
    let high : (i : ℕ) → t ≤ i → bit_at (a - 1) i ≡ bit_at (h - 1) (i - t) = λ i l. ap (λ x. bit_at x i) minus ∙ bit_at_cat_high (h - 1) t (2 ^ t - 1) i ones_below l in
    let whole_too : a ≡ h * 2 ^ t + 0 = omega arith in
    let same : (i : ℕ) → t ≤ i → bit_at a i ≡ bit_at h (i - t) = λ i l. ap (λ x. bit_at x i) whole_too ∙ bit_at_cat_high h t 0 i p l in
    record {
      below = none;
      here = one;
      below_too = λ k l. least _ _ _ (bit_at_and a (a - 1) k) (none k l);
      gone = least_right _ _ _ (bit_at_and a (a - 1) t) (high t (omega arith) ∙ ap (bit_at (h - 1)) (let e : t - t ≡ 0 = omega arith in e) ∙ bit_at_lowest (h - 1) ∙ (let e : (h - 1) % 2 ≡ 0 = omega arith in e));
      above = λ k l. least_same _ _ _ (bit_at_and a (a - 1) k) (high k (omega arith) ∙ next_bits h (k - t) odd (omega arith) ∙ sym (same k (omega arith)));
    }

-- the lowest bit of a word comes first
pub lowest_of_word : (a first : ℕ) → a < 2 ^ 64 → a ≢ 0 → bits_between first a 64 ≡ (first + trailing_zeros w64 a) ∷ bits_between first (bit_and a (a - 1)) 64
lowest_of_word a first fits some =
    let facts = bit_at-trailing_zeros w64 a (omega arith) fits in
    let bound : trailing_zeros w64 a + 1 + (63 - trailing_zeros w64 a) ≡ 64 = omega (arith, facts.0) in
    subst (λ n. bits_between first a n ≡ (first + trailing_zeros w64 a) ∷ bits_between first (bit_and a (a - 1)) n) bound
    (lowest_first first a (bit_and a (a - 1)) _ (63 - trailing_zeros w64 a) (lowest_of a _ facts.1 facts.2))

-- ---- from word to word

pub next_word : (words : List ℕ) (used at_word left : ℕ) → left ≡ 0 → at_word + 1 < used → members_left words used (at_word + 1) (get_or words (at_word + 1) 0) ≡ members_left words used at_word left
unfolding names_of_words
next_word words used at_word left none more =
    let count : used - (at_word + 1) ≡ suc (used - (at_word + 1 + 1)) = omega arith in
    rw (none, no_bits_of_zero (64 * at_word) 64, count) refl

pub no_more_words : (words : List ℕ) (used at_word left : ℕ) → left ≡ 0 → used ≤ at_word + 1 → members_left words used at_word left ≡ []
unfolding names_of_words
no_more_words words used at_word left none done =
    let count : used - (at_word + 1) ≡ 0 = omega arith in
    rw (none, no_bits_of_zero (64 * at_word) 64, count) refl

-- the bits of a word from a place on, by shifts
pub high_bits : (w place k : ℕ) → w < 2 ^ 64 → bit_at (w / 2 ^ place * 2 ^ place % 2 ^ 64) k ≡ (if nat_le place k then bit_at w k else 0)
high_bits w place k fits =
    let small : w / 2 ^ place * 2 ^ place < 2 ^ 64 = omega (arith, shr_split w place) in
    let whole : w / 2 ^ place * 2 ^ place % 2 ^ 64 ≡ w / 2 ^ place * 2 ^ place + 0 = mod-eq_of_lt small ∙ sym (add-zero _) in
    ap (λ x. bit_at x k) whole
    ∙ elim (nat_le place k) as (λ b. nat_le place k ≡ b → bit_at (w / 2 ^ place * 2 ^ place + 0) k ≡ (if b then bit_at w k else 0)) [
      | true ↦ λ e.
          let above : place ≤ k = leb-true _ _ e in
          let all : place + (k - place) ≡ k = omega arith in
          bit_at_cat_high (w / 2 ^ place) place 0 k (pow_pos place) above
          ∙ ap (λ x. x % 2) (shr-shr w place (k - place) ∙ ap (λ j. w / 2 ^ j) all)
      | false ↦ λ e.
          let below : k < place = leb-false _ _ e in
          bit_at_cat_low (w / 2 ^ place) place 0 k below ∙ bit_at-zero k
    ] refl

low_name : (low v x y : ℕ) (b : Bool) → low ≤ v → b ≡ (x == 1) → x ≡ y → (y == 1) ≡ (nat_le low v && b)
low_name low v x y b l is same = grind (arith, nat_tests)

first_word_bit : (v k x y z : ℕ) (b : Bool) → k < 64 → x ≡ (if nat_le (v % 64) k then z else 0) → b ≡ (y == 1) → y ≡ z → (x == 1) ≡ (nat_le v (64 * (v / 64) + k) && b)
first_word_bit v k x y z b h is member same =
    elim (nat_le (v % 64) k) as (λ t. nat_le (v % 64) k ≡ t → x ≡ (if t then z else 0) → (x == 1) ≡ (nat_le v (64 * (v / 64) + k) && b)) [
      | true ↦ λ e is.
          let low : nat_le v (64 * (v / 64) + k) ≡ true = le-leb _ _ (let l = leb-true _ _ e in omega arith) in
          rw (low, member, same, is) refl
      | false ↦ λ e is.
          let high : nat_le v (64 * (v / 64) + k) ≡ false = lt-leb _ _ (let l = leb-false _ _ e in omega arith) in
          rw (high, is) refl
    ] refl is

no_member : (n v x : ℕ) → x ≡ 0 → (ltb v n && (x == 1)) ≡ false
no_member n v x none = grind (arith, nat_tests)

below_bound : (v n : ℕ) (b : Bool) → v < n → (ltb v n && b) ≡ b
below_bound v n b h = grind (arith, nat_tests)

member_below : (v n : ℕ) (b : Bool) → (ltb v n && b) ≡ true → v < n
member_below v n b h = grind (arith, nat_tests)

-- ---- the members in a range, ascending

pub ascending_more : (s : NameSet) (low m d : ℕ) → ((v : ℕ) → m ≤ v → v < m + d → set.contains s v ≡ false) → ascending_between s low (m + d) ≡ ascending_between s low m
unfolding ascending_between
ascending_more s low m zero none = let same : m + 0 ≡ m = omega arith in rw same refl
ascending_more s low m (suc d) none =
    let bound : m + suc d ≡ suc (m + d) = omega arith in
    let before = ascending_more s low m d (λ v l h. none v l (omega arith)) in
    let absent : (nat_le low (m + d) && set.contains s (m + d)) ≡ false = not_both low (m + d) _ (λ _. none (m + d) (omega arith) (omega arith)) in
    rw (bound, before, absent, append-nil) refl

pub ascending_word : (s : NameSet) (low first bits j : ℕ) → ((k : ℕ) → k < j → (bit_at bits k == 1) ≡ (nat_le low (first + k) && set.contains s (first + k))) → ascending_between s low (first + j) ≡ ascending_between s low first ++ bits_between first bits j
unfolding ascending_between bits_between
ascending_word s low first bits zero same = let bound : first + 0 ≡ first = omega arith in rw (bound, append-nil) refl
ascending_word s low first bits (suc j) same =
    let bound : first + suc j ≡ suc (first + j) = omega arith in
    let before = ascending_word s low first bits j (λ k h. same k (omega arith)) in
    let here = same j (omega arith) in
    rw (bound, before, ← here, append_assoc) refl

ascending_words : (s : NameSet) (words : List ℕ) (low from count : ℕ) → ((v : ℕ) → v < 64 * (from + count) → set.contains s v ≡ (bit_of words v == 1)) → low ≤ 64 * from → ascending_between s low (64 * (from + count)) ≡ ascending_between s low (64 * from) ++ names_of_words words from count
unfolding names_of_words
ascending_words s words low from zero same low_enough = let bound : from + 0 ≡ from = omega arith in rw (bound, append-nil) refl
ascending_words s words low from (suc count) same low_enough =
    let bound : from + suc count ≡ from + 1 + count = omega arith in
    let rest = ascending_words s words low (from + 1) count (λ v h. same v (omega arith)) (omega arith) in
    let word_bound : 64 * (from + 1) ≡ 64 * from + 64 = omega arith in
    let word = ascending_word s low (64 * from) (get_or words from 0) 64 (λ k h.
    let at_word : (64 * from + k) / 64 ≡ from = omega arith in
    let place : (64 * from + k) % 64 ≡ k = omega arith in
    let bit : bit_of words (64 * from + k) ≡ bit_at (get_or words from 0) k = rw (at_word, place) refl in
    let is = same (64 * from + k) (omega arith) in
    low_name low (64 * from + k) _ _ _ (omega arith) is bit) in
    rw (bound, rest, word_bound, word, append_assoc) refl

-- ---- what an iterator has left at first

pub absent_past : (words : List ℕ) (n w used v : ℕ) → n ≡ 64 * w → InUse words used → 64 * used ≤ v → set.contains (names_below words n) v ≡ false
absent_past words n w used v whole rest past =
    let none : bit_of words v ≡ 0 = zero_bit _ (v % 64) (rest (v / 64) (omega arith)) in
    contains-names_below words n v ∙ no_member n v _ none

-- the word of v is in use
pub members_left_from : (words : List ℕ) (n w used v left : ℕ) → n ≡ 64 * w → InUse words used → used ≤ w → v / 64 < used → ((k : ℕ) → k < 64 → bit_at left k ≡ (if nat_le (v % 64) k then bit_at (get_or words (v / 64) 0) k else 0)) → members_left words used (v / 64) left ≡ ascending_between (names_below words n) v n
members_left_from words n w used v left whole rest within here bits =
    let s = names_below words n in
    let same : (q : ℕ) → q < n → set.contains s q ≡ (bit_of words q == 1) = λ q h. contains-names_below words n q ∙ below_bound q n _ h in
    let past : 64 * used + (n - 64 * used) ≡ n = omega arith in
    let all = ascending_more s v (64 * used) (n - 64 * used) (λ q l _. absent_past words n w used q whole rest l) in
    let count : v / 64 + 1 + (used - (v / 64 + 1)) ≡ used = omega arith in
    let behind = ascending_words s words v (v / 64 + 1) (used - (v / 64 + 1)) (λ q h. same q (omega arith)) (omega arith) in
    let bound : 64 * (v / 64 + 1) ≡ 64 * (v / 64) + 64 = omega arith in
    let word = ascending_word s v (64 * (v / 64)) left 64 (λ k h.
    let at_word : (64 * (v / 64) + k) / 64 ≡ v / 64 = omega arith in
    let place : (64 * (v / 64) + k) % 64 ≡ k = omega arith in
    let bit : bit_of words (64 * (v / 64) + k) ≡ bit_at (get_or words (v / 64) 0) k = rw (at_word, place) refl in
    let is = same (64 * (v / 64) + k) (omega arith) in
    first_word_bit v k _ _ _ _ (omega arith) (bits k h) is bit) in
    let none = ascending_none s v (64 * (v / 64)) (λ q l h. absurd (omega arith)) in
    let first : ascending_between s v (64 * (v / 64 + 1)) ≡ bits_between (64 * (v / 64)) left 64 = ap (ascending_between s v) bound ∙ word ∙ ap (λ xs. xs ++ bits_between (64 * (v / 64)) left 64) none in
    sym (ap (ascending_between s v) (sym past) ∙ all ∙ ap (λ u. ascending_between s v (64 * u)) (sym count) ∙ behind ∙ ap (λ xs. xs ++ names_of_words words (v / 64 + 1) (used - (v / 64 + 1))) first)

-- no word from that of v on is in use
pub members_left_past : (words : List ℕ) (n w used v : ℕ) → n ≡ 64 * w → InUse words used → used ≤ v / 64 → members_left words used used 0 ≡ ascending_between (names_below words n) v n
members_left_past words n w used v whole rest past =
    no_more_words words used used 0 refl (omega arith)
    ∙ sym (ascending_none (names_below words n) v n (λ q l _. absent_past words n w used q whole rest (omega arith)))

pub all_below : (words : List ℕ) (n : ℕ) → AllBelow (names_below words n) n
all_below words n v member = member_below v n _ (sym (contains-names_below words n v) ∙ member)

-- the members of a set of small numbers, listed as those of any set
ascending_beyond : (s : NameSet) (low n more : ℕ) → AllBelow s n → ascending_between s low (more + n) ≡ ascending_between s low n
unfolding ascending_between
ascending_beyond s low n zero below = let same : 0 + n ≡ n = omega arith in ap (ascending_between s low) same
ascending_beyond s low n (suc more) below =
    let none : set.contains s (more + n) ≡ false = false_from_ne_true _ (λ m. let h = below (more + n) m in omega arith) in
    let out : (nat_le low (more + n) && set.contains s (more + n)) ≡ false = not_both low (more + n) _ (λ _. none) in
    let goal : ascending_between s low (more + n) ++ (if nat_le low (more + n) && set.contains s (more + n) then (more + n) ∷ [] else []) ≡ ascending_between s low n =
    rw out (append-nil (ascending_between s low (more + n)) ∙ ascending_beyond s low n more below) in
    let next : suc more + n ≡ suc (more + n) = omega arith in
    ap (ascending_between s low) next ∙ goal

pub ascending_limit : (s : NameSet) (low n : ℕ) → AllBelow s n → n ≤ NAMES → ascending_between s low n ≡ ascending_from s low
ascending_limit s low n below few =
    let whole : (NAMES - n) + n ≡ NAMES = omega arith in
    sym (ascending_beyond s low n (NAMES - n) below) ∙ ap (ascending_between s low) whole

-- members below a limit are at most so many
pub few_in : (s : NameSet) (limit : ℕ) → AllBelow s limit → limit ≤ NAMES → length (ascending s) ≤ limit
few_in s limit below few = subst (λ l. length l ≤ limit) (ascending_limit s 0 limit below few) (few_below s 0 limit)

pub all_names : (words : List ℕ) (w : ℕ) → w ≤ WORDS → AllBelow (names_below words (64 * w)) NAMES
all_names words w few v member = let below = all_below words (64 * w) v member in let names = words_few w few in omega arith
