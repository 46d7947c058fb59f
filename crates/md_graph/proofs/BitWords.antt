-- Words of bits and the sets that they keep.
use Rattle.std.proofs.Common.{◌≡◌, ℕ, zero, suc, ◌+◌, ◌-◌, ◌*◌, ◌/◌, ◌%◌, ◌^◌, ◌<◌, ◌≤◌, bit_and, bit_or, bit_xor, min, max, not, mod-lt, mod-eq_of_lt, lit<, lit≤, one-add, add-suc, pow_pos, ltb-true, ltb-false, lt-ltb, Bool, true, false, cond, ltb, leb, eqb-true, ◌==◌, ◌&&◌, ◌||◌, ◌≢◌, if◌then◌else◌, List, get_or, Option, Some, None, IfSome, IfNone, replicate, length, refl, arith, ap, sym, ◌∙◌, inl, inr}
use Rattle.std.proofs.lemmas.Bool.{cases_eq, eqb-false}
use Rattle.std.proofs.lemmas.Bool.Decides.{nat_tests}
use Rattle.std.specs.Int.{bit_at, bit_not, w64, trailing_zeros}
use Rattle.std.proofs.Common.{set as set_at, below_more, get_or-set_other, get_or-set_same}
use Rattle.std.proofs.lemmas.Nat.Bits.{same_from_bits_below, bit_at-lt, bit_at-zero, bit_at_or, bit_at_and, bit_at_xor, bit_at_not, bit_at-trailing_zeros, shr_and_one, bit_at_set_same, bit_at_set_other, bit_at_clear_same, bit_at_clear_other}
use Rattle.std.proofs.lemmas.Nat.{mod-pow-add, ones_cat, and_le_l, le_or_l, le_or_r}
use lib.Count.{ones}
use Rattle.std.specs.FinSet as set
use Rattle.md_graph.specs.Sets.{NameSet}
use Rattle.md_graph.specs.NameSet.{IsLeastFrom, NoneFrom, block_below, symmetric_difference}
use Rattle.md_graph.specs.Words.{bit_of, bit_apart, names_below, IsWithout}
use Rattle.md_graph.proofs.SetLaws.{len-empty, len-insert, contains-empty, contains-insert, contains-remove, contains-union, contains-intersection, contains-difference, same_set}

-- each item of a list of zeros is 0, past its end too
pub get_or-zeros : (n k : ℕ) → ◌≡◌ {A = ℕ} (get_or (replicate n 0) k 0) 0
get_or-zeros zero k = refl
get_or-zeros (suc n) zero = refl
get_or-zeros (suc n) (suc k) = get_or-zeros n k

step_in : (x : ℕ → Bool) (s : NameSet) (n v : ℕ) → x n ≡ true → set.contains s v ≡ (ltb v n && x v) → set.contains (set.insert s n) v ≡ (ltb v (suc n) && x v)
step_in x s n v is ih = grind (arith, nat_tests, contains-insert)

step_out : (x : ℕ → Bool) (s : NameSet) (n v : ℕ) → x n ≡ false → set.contains s v ≡ (ltb v n && x v) → set.contains s v ≡ (ltb v (suc n) && x v)
step_out x s n v is ih = grind (arith, nat_tests)

step : (x : ℕ → Bool) (s : NameSet) (n v : ℕ) → set.contains s v ≡ (ltb v n && x v) → set.contains (if x n then set.insert s n else s) v ≡ (ltb v (suc n) && x v)
step x s n v ih =
    elim (x n) as (λ b. x n ≡ b → set.contains (if b then set.insert s n else s) v ≡ (ltb v (suc n) && x v)) [
      | true ↦ λ is. step_in x s n v is ih
      | false ↦ λ is. step_out x s n v is ih
    ] refl

-- a name below the bound is a member exactly if its bit is 1
pub contains-names_below : (words : List ℕ) (n v : ℕ) → set.contains (names_below words n) v ≡ (ltb v n && (bit_of words v == 1))
unfolding names_below
contains-names_below words zero v = grind (arith, nat_tests, contains-empty)
contains-names_below words (suc n) v =
    step (λ w. bit_of words w == 1) (names_below words n) n v (contains-names_below words n v)

-- ---- places of names

-- what holds below u and from u on holds everywhere
pub from_both : (P : ℕ → Type 0) (u : ℕ) → ((k : ℕ) → k < u → P k) → ((k : ℕ) → u ≤ k → P k) → (k : ℕ) → P k
from_both P u below above k =
    elim (ltb k u) as (λ b. ltb k u ≡ b → P k) [ true ↦ λ e. below k (ltb-true _ _ e) | false ↦ λ e. above k (ltb-false _ _ e) ] refl

-- ---- sets by their bits

-- a set of names is the set that words keep if it answers as their bits do
pub from_bits : (words : List ℕ) (n : ℕ) (s : NameSet) → ((q : ℕ) → set.contains s q ≡ (ltb q n && (bit_of words q == 1))) → names_below words n ≡ s
from_bits words n s each = same_set _ _ (λ q. contains-names_below words n q ∙ sym (each q))

or_bits : (x y : ℕ) → x < 2 → y < 2 → (max x y == 1) ≡ ((x == 1) || (y == 1))
or_bits x y p q = grind (arith, nat_tests)

and_bits : (x y : ℕ) → x < 2 → y < 2 → (min x y == 1) ≡ ((x == 1) && (y == 1))
and_bits x y p q = grind (arith, nat_tests)

without_bits : (x y : ℕ) → x < 2 → y < 2 → (min x (1 - y) == 1) ≡ ((x == 1) && not (y == 1))
without_bits x y p q = grind (arith, nat_tests)

or_within : (b x y z : Bool) → z ≡ (x || y) → ((b && x) || (b && y)) ≡ (b && z)
or_within true x y z e = sym e
or_within false x y z e = refl

and_within : (b x y z : Bool) → z ≡ (x && y) → ((b && x) && (b && y)) ≡ (b && z)
and_within true x y z e = sym e
and_within false x y z e = refl

without_within : (b x y z : Bool) → z ≡ (x && not y) → ((b && x) && not (b && y)) ≡ (b && z)
without_within true x y z e = sym e
without_within false x y z e = refl

pub union_of_bits : (a b c : List ℕ) (n : ℕ) → ((q : ℕ) → bit_of c q ≡ max (bit_of a q) (bit_of b q)) → names_below c n ≡ set.union (names_below a n) (names_below b n)
union_of_bits a b c n each =
    from_bits c n _ (λ q.
    rw (contains-union, contains-names_below a n q, contains-names_below b n q)
    (or_within _ _ _ _ (ap (λ x. x == 1) (each q) ∙ or_bits _ _ (bit_at-lt _ _) (bit_at-lt _ _))))

pub intersection_of_bits : (a b c : List ℕ) (n : ℕ) → ((q : ℕ) → bit_of c q ≡ min (bit_of a q) (bit_of b q)) → names_below c n ≡ set.intersection (names_below a n) (names_below b n)
intersection_of_bits a b c n each =
    from_bits c n _ (λ q.
    rw (contains-intersection, contains-names_below a n q, contains-names_below b n q)
    (and_within _ _ _ _ (ap (λ x. x == 1) (each q) ∙ and_bits _ _ (bit_at-lt _ _) (bit_at-lt _ _))))

pub difference_of_bits : (a b c : List ℕ) (n : ℕ) → ((q : ℕ) → bit_of c q ≡ min (bit_of a q) (1 - bit_of b q)) → names_below c n ≡ set.difference (names_below a n) (names_below b n)
difference_of_bits a b c n each =
    from_bits c n _ (λ q.
    rw (contains-difference, contains-names_below a n q, contains-names_below b n q)
    (without_within _ _ _ _ (ap (λ x. x == 1) (each q) ∙ without_bits _ _ (bit_at-lt _ _) (bit_at-lt _ _))))

pub zero_bit : (w i : ℕ) → w ≡ 0 → bit_at w i ≡ 0
zero_bit w i e = ap (λ x. bit_at x i) e ∙ bit_at-zero i

-- the words of the empty set
pub empty_of_words : (a : List ℕ) (n : ℕ) → ((k : ℕ) → get_or a k 0 ≡ 0) → names_below a n ≡ set.empty
empty_of_words a n zeros =
    from_bits a n _ (λ q. let none = zero_bit (get_or a (q / 64) 0) (q % 64) (zeros (q / 64)) in grind (arith, nat_tests, contains-empty))

-- What the words of a set in use are: all are 0 from `used` on.
abbrev pub InUse : List ℕ → ℕ → Type 0
InUse words used = (k : ℕ) → used ≤ k → get_or words k 0 ≡ 0

pub in_use_past : (words : List ℕ) (used more : ℕ) → InUse words used → used ≤ more → InUse words more
in_use_past words used more zeros past k h = zeros k (omega arith)

pub union_of_words : (a b c : List ℕ) (n ua ub u : ℕ) → InUse a ua → InUse b ub → u ≡ max ua ub → ((k : ℕ) → k < u → get_or c k 0 ≡ bit_or (get_or a k 0) (get_or b k 0)) → InUse c u → names_below c n ≡ set.union (names_below a n) (names_below b n)
union_of_words a b c n ua ub u ra rb e first rest =
    union_of_bits a b c n (λ q.
    from_both (λ k. bit_at (get_or c k 0) (q % 64) ≡ max (bit_at (get_or a k 0) (q % 64)) (bit_at (get_or b k 0) (q % 64))) u
    (λ k h. ap (λ w. bit_at w (q % 64)) (first k h) ∙ bit_at_or _ _ _)
    (λ k h. rw (zero_bit _ (q % 64) (rest k h), zero_bit _ (q % 64) (ra k (omega arith)), zero_bit _ (q % 64) (rb k (omega arith))) refl)
    (q / 64))

pub taken_in_words : (a b c : List ℕ) (n u : ℕ) → InUse b u → ((k : ℕ) → k < u → get_or c k 0 ≡ bit_or (get_or a k 0) (get_or b k 0)) → ((k : ℕ) → u ≤ k → get_or c k 0 ≡ get_or a k 0) → names_below c n ≡ set.union (names_below a n) (names_below b n)
taken_in_words a b c n u rb first rest =
    union_of_bits a b c n (λ q.
    from_both (λ k. bit_at (get_or c k 0) (q % 64) ≡ max (bit_at (get_or a k 0) (q % 64)) (bit_at (get_or b k 0) (q % 64))) u
    (λ k h. ap (λ w. bit_at w (q % 64)) (first k h) ∙ bit_at_or _ _ _)
    (λ k h. let left = ap (λ w. bit_at w (q % 64)) (rest k h) in let right = zero_bit _ (q % 64) (rb k h) in omega arith)
    (q / 64))

least_none : (ua ub u k x y z : ℕ) → u ≡ min ua ub → u ≤ k → z ≡ 0 → (ua ≤ k → x ≡ 0) → (ub ≤ k → y ≡ 0) → z ≡ min x y
least_none ua ub u k x y z e h none left right = grind arith

pub intersection_of_words : (a b c : List ℕ) (n ua ub u : ℕ) → InUse a ua → InUse b ub → u ≡ min ua ub → ((k : ℕ) → k < u → get_or c k 0 ≡ bit_and (get_or a k 0) (get_or b k 0)) → InUse c u → names_below c n ≡ set.intersection (names_below a n) (names_below b n)
intersection_of_words a b c n ua ub u ra rb e first rest =
    intersection_of_bits a b c n (λ q.
    from_both (λ k. bit_at (get_or c k 0) (q % 64) ≡ min (bit_at (get_or a k 0) (q % 64)) (bit_at (get_or b k 0) (q % 64))) u
    (λ k h. ap (λ w. bit_at w (q % 64)) (first k h) ∙ bit_at_and _ _ _)
    (λ k h.
    least_none ua ub u k _ _ _ e h (zero_bit _ (q % 64) (rest k h)) (λ l. zero_bit _ (q % 64) (ra k l)) (λ l. zero_bit _ (q % 64) (rb k l)))
    (q / 64))

pub difference_of_words : (a b c : List ℕ) (n u : ℕ) → InUse a u → ((k : ℕ) → k < u → IsWithout (get_or c k 0) (get_or a k 0) (get_or b k 0)) → InUse c u → names_below c n ≡ set.difference (names_below a n) (names_below b n)
difference_of_words a b c n u ra first rest =
    difference_of_bits a b c n (λ q.
    from_both (λ k. bit_at (get_or c k 0) (q % 64) ≡ min (bit_at (get_or a k 0) (q % 64)) (1 - bit_at (get_or b k 0) (q % 64))) u
    (λ k h. first k h (q % 64) (omega arith))
    (λ k h. rw (zero_bit _ (q % 64) (rest k h), zero_bit _ (q % 64) (ra k h)) (omega arith))
    (q / 64))

-- ---- one word written

pub done_more : (P : ℕ → ℕ → Type 0) (words : List ℕ) (i x : ℕ) → i < length words → ((k : ℕ) → k < i → P k (get_or words k 0)) → P i x → (k : ℕ) → k < i + 1 → P k (get_or (set_at words i x) k 0)
done_more P words i x within done here =
    below_more (λ k. P k (get_or (set_at words i x) k 0)) i
    (λ k h. let other : k ≢ i = omega arith in rw get_or-set_other (done k h))
    (rw get_or-set_same here)

-- words that are all 0, where a word that is 0 joins them
pub none_more : (any x : ℕ) (words : List ℕ) (i : ℕ) → i < length words → (any ≡ 0 → (k : ℕ) → k < i → get_or words k 0 ≡ 0) → bit_or any x ≡ 0 → (k : ℕ) → k < i + 1 → get_or (set_at words i x) k 0 ≡ 0
none_more any x words i below before none =
    let left = le_or_l any x in
    let right = le_or_r any x in
    done_more (λ k y. y ≡ 0) words i x below (before (omega arith)) (omega arith)

pub rest_more : (words old : List ℕ) (i x : ℕ) → ((k : ℕ) → i ≤ k → get_or words k 0 ≡ get_or old k 0) → (k : ℕ) → i + 1 ≤ k → get_or (set_at words i x) k 0 ≡ get_or old k 0
rest_more words old i x rest k h = let other : k ≢ i = omega arith in rw get_or-set_other (rest k (omega arith))

-- the bits of `a & !b`
pub without_word : (a b : ℕ) → b < 2 ^ 64 → IsWithout (bit_and a (bit_not w64 b)) a b
without_word a b fits i h = bit_at_and a (bit_not w64 b) i ∙ ap (λ x. min (bit_at a i) x) (bit_at_not w64 b i fits h)

-- what holds of the bit of a name once one word is written
pub bit_of_set : (P : ℕ → Type 0) (words : List ℕ) (i x q : ℕ) → i < length words → (q / 64 ≡ i → P (bit_at x (q % 64))) → (q / 64 ≢ i → P (bit_of words q)) → P (bit_of (set_at words i x) q)
bit_of_set P words i x q within here other =
    elim (cases_eq (q / 64) i) [
      | inl e ↦ rw (e, get_or-set_same words i x 0 within) (here e)
      | inr ne ↦ rw (get_or-set_other words i (q / 64) x 0 ne) (other ne)
    ]

abbrev with_name : List ℕ → ℕ → List ℕ
with_name words v = set_at words (v / 64) (bit_or (get_or words (v / 64) 0) (1 * 2 ^ (v % 64) % 2 ^ 64))

abbrev without_name : List ℕ → ℕ → List ℕ
without_name words v = set_at words (v / 64) (bit_and (get_or words (v / 64) 0) (bit_not w64 (1 * 2 ^ (v % 64) % 2 ^ 64)))

with_name_same : (words : List ℕ) (v q : ℕ) → v / 64 < length words → q ≡ v → bit_of (with_name words v) q ≡ 1
with_name_same words v q within e =
    bit_of_set (λ b. b ≡ 1) words (v / 64) _ q within
    (λ same. rw e (bit_at_set_same w64 _ (v % 64) (omega arith)))
    (λ ne. absurd (ne (ap (λ x. x / 64) e)))

with_name_other : (words : List ℕ) (v q : ℕ) → v / 64 < length words → q ≢ v → bit_of (with_name words v) q ≡ bit_of words q
with_name_other words v q within ne =
    bit_of_set (λ b. b ≡ bit_of words q) words (v / 64) _ q within
    (λ same. bit_at_set_other w64 _ (v % 64) (omega arith) (q % 64) (omega arith) ∙ ap (λ k. bit_at (get_or words k 0) (q % 64)) (sym same))
    (λ _. refl)

without_name_same : (words : List ℕ) (v q : ℕ) → v / 64 < length words → q ≡ v → bit_of (without_name words v) q ≡ 0
without_name_same words v q within e =
    bit_of_set (λ b. b ≡ 0) words (v / 64) _ q within
    (λ same. rw e (bit_at_clear_same w64 _ (v % 64) (omega arith)))
    (λ ne. absurd (ne (ap (λ x. x / 64) e)))

without_name_other : (words : List ℕ) (v q : ℕ) → v / 64 < length words → q ≢ v → bit_of (without_name words v) q ≡ bit_of words q
without_name_other words v q within ne =
    bit_of_set (λ b. b ≡ bit_of words q) words (v / 64) _ q within
    (λ same. bit_at_clear_other w64 _ (v % 64) (omega arith) (q % 64) (omega arith) (omega arith) ∙ ap (λ k. bit_at (get_or words k 0) (q % 64)) (sym same))
    (λ _. refl)

insert_bit : (n v q x y : ℕ) → v < n → (q ≡ v → y ≡ 1) → (q ≢ v → y ≡ x) → ((q == v) || (ltb q n && (x == 1))) ≡ (ltb q n && (y == 1))
insert_bit n v q x y within same other = grind (arith, nat_tests)

remove_bit : (n v q x y : ℕ) → (q ≡ v → y ≡ 0) → (q ≢ v → y ≡ x) → (not (q == v) && (ltb q n && (x == 1))) ≡ (ltb q n && (y == 1))
remove_bit n v q x y same other = grind (arith, nat_tests)

-- the word of a name with its bit set
pub insert_name : (words : List ℕ) (n v : ℕ) → v < n → v / 64 < length words → names_below (with_name words v) n ≡ set.insert (names_below words n) v
insert_name words n v below within =
    from_bits _ n _ (λ q.
    rw (contains-insert, contains-names_below words n q)
    (insert_bit n v q _ _ below (with_name_same words v q within) (with_name_other words v q within)))

-- the word of a name with its bit cleared
pub remove_name : (words : List ℕ) (n v : ℕ) → v / 64 < length words → names_below (without_name words v) n ≡ set.remove (names_below words n) v
remove_name words n v within =
    from_bits _ n _ (λ q.
    rw (contains-remove, contains-names_below words n q)
    (remove_bit n v q _ _ (without_name_same words v q within) (without_name_other words v q within)))

-- the test of one bit
pub has_name : (words : List ℕ) (n v : ℕ) (s : NameSet) → names_below words n ≡ s → v < n → (bit_and (get_or words (v / 64) 0 / 2 ^ (v % 64)) 1 == 1) ≡ set.contains s v
has_name words n v s is below =
    let bit = shr_and_one (get_or words (v / 64) 0) (v % 64) in
    let member = contains-names_below words n v in
    rw (bit, ← is, member) (grind (arith, nat_tests))

pub has_no_name : (words : List ℕ) (n v : ℕ) (s : NameSet) → names_below words n ≡ s → n ≤ v → false ≡ set.contains s v
has_no_name words n v s is above = rw (← is, contains-names_below words n v) (grind (arith, nat_tests))

pub cleared : (a c : List ℕ) (u : ℕ) → InUse a u → ((k : ℕ) → k < u → get_or c k 0 ≡ 0) → ((k : ℕ) → u ≤ k → get_or c k 0 ≡ get_or a k 0) → (k : ℕ) → get_or c k 0 ≡ 0
cleared a c u ra first rest = from_both (λ k. get_or c k 0 ≡ 0) u first (λ k h. rest k h ∙ ra k h)

-- ---- blocks of 64 names

block_step_in : (x : ℕ → Bool) (s : NameSet) (first m q : ℕ) → x m ≡ true → set.contains s q ≡ (leb first q && (ltb (q - first) m && x (q - first))) → set.contains (set.insert s (first + m)) q ≡ (leb first q && (ltb (q - first) (suc m) && x (q - first)))
block_step_in x s first m q is ih = grind (arith, nat_tests, contains-insert)

block_step_out : (x : ℕ → Bool) (s : NameSet) (first m q : ℕ) → x m ≡ false → set.contains s q ≡ (leb first q && (ltb (q - first) m && x (q - first))) → set.contains s q ≡ (leb first q && (ltb (q - first) (suc m) && x (q - first)))
block_step_out x s first m q is ih = grind (arith, nat_tests)

block_step : (x : ℕ → Bool) (s : NameSet) (first m q : ℕ) → set.contains s q ≡ (leb first q && (ltb (q - first) m && x (q - first))) → set.contains (if x m then set.insert s (first + m) else s) q ≡ (leb first q && (ltb (q - first) (suc m) && x (q - first)))
block_step x s first m q ih =
    elim (x m) as (λ b. x m ≡ b → set.contains (if b then set.insert s (first + m) else s) q ≡ (leb first q && (ltb (q - first) (suc m) && x (q - first)))) [
      | true ↦ λ is. block_step_in x s first m q is ih
      | false ↦ λ is. block_step_out x s first m q is ih
    ] refl

pub contains-block_below : (first bits m q : ℕ) → set.contains (block_below first bits m) q ≡ (leb first q && (ltb (q - first) m && (bit_at bits (q - first) == 1)))
unfolding block_below
contains-block_below first bits zero q = grind (arith, nat_tests, contains-empty)
contains-block_below first bits (suc m) q = block_step (λ k. bit_at bits k == 1) (block_below first bits m) first m q (contains-block_below first bits m q)

block_bit : (n first q x y z : ℕ) → q < n → x < 2 → z < 2 → first ≤ q → q < first + 64 → y ≡ z → ((ltb q n && (x == 1)) || (leb first q && (ltb (q - first) 64 && (y == 1)))) ≡ (ltb q n && (max x z == 1))
block_bit n first q x y z below two one low high same = grind (arith, nat_tests)

block_other : (first q : ℕ) (a b : Bool) → (first ≤ q → first + 64 ≤ q) → (a || (leb first q && (ltb (q - first) 64 && b))) ≡ a
block_other first q a b apart = grind (arith, nat_tests)

-- the word of 64 names with more of its bits set
pub insert_block : (words : List ℕ) (n w first bits : ℕ) → n ≡ 64 * w → first < n → first % 64 ≡ 0 → first / 64 < length words → names_below (set_at words (first / 64) (bit_or (get_or words (first / 64) 0) bits)) n ≡ set.union (names_below words n) (block_below first bits 64)
insert_block words n w first bits whole below aligned within =
    from_bits _ n _ (λ q.
    rw (contains-union, contains-names_below words n q, contains-block_below first bits 64 q)
    (bit_of_set (λ y. ((ltb q n && (bit_of words q == 1)) || (leb first q && (ltb (q - first) 64 && (bit_at bits (q - first) == 1)))) ≡ (ltb q n && (y == 1))) words (first / 64) _ q within
    (λ same.
    let place : q - first ≡ q % 64 = omega arith in
    rw (bit_at_or (get_or words (first / 64) 0) bits (q % 64), ← same)
    (block_bit n first q _ _ _ (omega arith) (bit_at-lt _ _) (bit_at-lt _ _) (omega arith) (omega arith) (ap (bit_at bits) place)))
    (λ ne. block_other first q _ _ (λ low. omega arith))))

-- the word of 64 names
pub block_of_word : (words : List ℕ) (n w first : ℕ) (s : NameSet) → names_below words n ≡ s → n ≡ 64 * w → first < n → first % 64 ≡ 0 → (k : ℕ) → k < 64 → set.contains s (first + k) ≡ (bit_at (get_or words (first / 64) 0) k == 1)
block_of_word words n w first s is whole below aligned k h =
    let word : (first + k) / 64 ≡ first / 64 = omega arith in
    let place : (first + k) % 64 ≡ k = omega arith in
    rw (← is, contains-names_below words n (first + k), word, place)
    (let within : ltb (first + k) n ≡ true = lt-ltb _ _ (omega arith) in rw within refl)

-- ---- the length

in_use_bit : (n used q x : ℕ) → 64 * used ≤ n → (64 * used ≤ q → x ≡ 0) → (ltb q (64 * used) && (x == 1)) ≡ (ltb q n && (x == 1))
in_use_bit n used q x within none = grind (arith, nat_tests)

no_bit : (n q x : ℕ) → x ≡ 0 → false ≡ (ltb q n && (x == 1))
no_bit n q x none = grind (arith, nat_tests)

empty_bit : (n q x y : ℕ) → q < n → x < 2 → (ltb q n && (x == 1)) ≡ false → x ≡ y → y ≡ 0
empty_bit n q x y below two none same = grind (arith, nat_tests)

ltb_itself : (n : ℕ) (b : Bool) → (ltb n n && b) ≡ false
ltb_itself n b = grind (arith, nat_tests)

bit_is_zero : (x : ℕ) → x < 2 → x ≢ 1 → x ≡ 0
bit_is_zero x h ne = omega arith

pub len-names_below-suc : (words : List ℕ) (n : ℕ) → set.len (names_below words (suc n)) ≡ set.len (names_below words n) + bit_of words n
unfolding names_below
len-names_below-suc words n =
    let two = bit_at-lt (get_or words (n / 64) 0) (n % 64) in
    let absent : set.contains (names_below words n) n ≡ false = contains-names_below words n n ∙ ltb_itself n _ in
    elim (bit_of words n == 1) as (λ b. (bit_of words n == 1) ≡ b → set.len (if b then set.insert (names_below words n) n else names_below words n) ≡ set.len (names_below words n) + bit_of words n) [
      | true ↦ λ e. len-insert (names_below words n) n ∙ ap (λ b. cond b (set.len (names_below words n)) (set.len (names_below words n) + 1)) absent ∙ ap (λ x. set.len (names_below words n) + x) (sym (eqb-true _ _ e))
      | false ↦ λ e. let zero_one : bit_of words n ≡ 0 = bit_is_zero _ two (eqb-false _ _ e) in rw zero_one (omega arith)
    ] refl

pub len-names_below-le : (words : List ℕ) (n : ℕ) → set.len (names_below words n) ≤ n
unfolding names_below
len-names_below-le words zero = omega (arith, len-empty)
len-names_below-le words (suc n) = omega (arith, len-names_below-le words n, len-names_below-suc words n, bit_at-lt (get_or words (n / 64) 0) (n % 64))

ones_bit : (b : ℕ) → b < 2 → ones b ≡ b
unfolding ones
ones_bit b h = elim (cases_eq b 0) [ inl e ↦ rw e refl | inr ne ↦ let e : b ≡ 1 = omega arith in rw e refl ]

-- the ones below place suc j
ones_more : (w j : ℕ) → ones (w % 2 ^ suc j) ≡ ones (w % 2 ^ j) + bit_at w j
ones_more w j =
    let more = mod-pow-add w 1 j in
    let split = ones_cat j (bit_at w j) (w % 2 ^ j) (mod-lt _ (pow_pos j)) in
    let one = ones_bit (bit_at w j) (bit_at-lt w j) in
    rw (← one-add j, more, split, one) (omega arith)

pub len_of_word : (words : List ℕ) (i j : ℕ) → j ≤ 64 → set.len (names_below words (64 * i + j)) ≡ set.len (names_below words (64 * i)) + ones (get_or words i 0 % 2 ^ j)
unfolding ones
len_of_word words i zero h = let none : get_or words i 0 % 1 ≡ 0 = omega arith in let same : 64 * i + 0 ≡ 64 * i = omega arith in rw (same, none) (omega arith)
len_of_word words i (suc j) h =
    let word : (64 * i + j) / 64 ≡ i = omega arith in
    let place : (64 * i + j) % 64 ≡ j = omega arith in
    let more = len-names_below-suc words (64 * i + j) in
    let bit : bit_of words (64 * i + j) ≡ bit_at (get_or words i 0) j = rw (word, place) refl in
    let ih = len_of_word words i j (omega arith) in
    rw (add-suc, more, bit, ih, ones_more (get_or words i 0) j) (omega arith)

-- one word more
pub len_more : (words : List ℕ) (i : ℕ) → get_or words i 0 < 2 ^ 64 → set.len (names_below words (64 * i)) + ones (get_or words i 0) ≡ set.len (names_below words (64 * (i + 1)))
len_more words i fits =
    let low : get_or words i 0 % 2 ^ 64 ≡ get_or words i 0 = mod-eq_of_lt fits in
    let more = len_of_word words i 64 (lit≤ tt) in
    let bound : 64 * (i + 1) ≡ 64 * i + 64 = omega arith in
    rw (bound, more, low) refl

pub count_more : (words : List ℕ) (i count : ℕ) → count ≡ set.len (names_below words (64 * i)) → get_or words i 0 < 2 ^ 64 → count + ones (get_or words i 0) ≡ set.len (names_below words (64 * (i + 1)))
count_more words i count is fits = ap (λ n. n + ones (get_or words i 0)) is ∙ len_more words i fits

-- the words that are not in use have no members
pub names_in_use : (words : List ℕ) (n w used : ℕ) → InUse words used → n ≡ 64 * w → used ≤ w → names_below words (64 * used) ≡ names_below words n
names_in_use words n w used rest whole within =
    same_set _ _ (λ q.
    rw (contains-names_below words n q, contains-names_below words (64 * used) q)
    (in_use_bit n used q _ (omega arith) (λ h. zero_bit _ (q % 64) (rest (q / 64) (omega arith)))))

-- a word without bits is 0
pub zero_from_bits : (w : ℕ) → w < 2 ^ 64 → ((i : ℕ) → i < 64 → bit_at w i ≡ 0) → w ≡ 0
zero_from_bits w fits none = same_from_bits_below 64 w 0 fits (lit< tt) (λ i h. none i h ∙ sym (bit_at-zero i))

-- the words of a set without names have no bits
pub bits_of_empty : (words : List ℕ) (n w : ℕ) → n ≡ 64 * w → names_below words n ≡ set.empty → (k i : ℕ) → k < w → i < 64 → bit_at (get_or words k 0) i ≡ 0
bits_of_empty words n w whole is k i h below =
    let word : (64 * k + i) / 64 ≡ k = omega arith in
    let place : (64 * k + i) % 64 ≡ i = omega arith in
    let bit : bit_of words (64 * k + i) ≡ bit_at (get_or words k 0) i = rw (word, place) refl in
    let absent = contains-names_below words n (64 * k + i) in
    let empty = contains-empty (64 * k + i) in
    let same = ap (λ s. set.contains s (64 * k + i)) is in
    empty_bit n (64 * k + i) _ _ (omega arith) (bit_at-lt _ _) (sym absent ∙ same ∙ empty) bit

-- and words without bits keep the empty set
pub empty_of_bits : (words : List ℕ) (n u : ℕ) → InUse words u → ((k i : ℕ) → k < u → i < 64 → bit_at (get_or words k 0) i ≡ 0) → names_below words n ≡ set.empty
empty_of_bits words n u rest first =
    from_bits words n _ (λ q.
    let none = from_both (λ k. bit_at (get_or words k 0) (q % 64) ≡ 0) u (λ k h. first k (q % 64) h (omega arith)) (λ k h. zero_bit _ (q % 64) (rest k h)) (q / 64) in
    contains-empty q ∙ no_bit n q _ none)

pub len_of_none : (words : List ℕ) → set.len (names_below words 0) ≡ 0
unfolding names_below
len_of_none words = len-empty

-- ---- members moved from set to set

-- the words that `word` tells keep the set s
abbrev pub Keeps : (ℕ → ℕ) → ℕ → NameSet → Type 0
Keeps word n s = (q : ℕ) → set.contains s q ≡ (ltb q n && (bit_at (word (q / 64)) (q % 64) == 1))

pub keeps_words : (words : List ℕ) (n : ℕ) (s : NameSet) → names_below words n ≡ s → Keeps (λ k. get_or words k 0) n s
keeps_words words n s is q = ap (λ t. set.contains t q) (sym is) ∙ contains-names_below words n q

apart_bits : (x y : ℕ) → x < 2 → y < 2 → ((x + y) % 2 == 1) ≡ (((x == 1) && not (y == 1)) || ((y == 1) && not (x == 1)))
apart_bits zero zero p q = refl
apart_bits zero (suc zero) p q = refl
apart_bits zero (suc (suc y)) p q = absurd (omega arith)
apart_bits (suc zero) zero p q = refl
apart_bits (suc zero) (suc zero) p q = refl
apart_bits (suc zero) (suc (suc y)) p q = absurd (omega arith)
apart_bits (suc (suc x)) y p q = absurd (omega arith)

apart_within : (b x y z : Bool) → z ≡ ((x && not y) || (y && not x)) → (((b && x) && not (b && y)) || ((b && y) && not (b && x))) ≡ (b && z)
apart_within true x y z e = sym e
apart_within false x y z e = refl

apart_test : (b : Bool) (x y z : ℕ) → x < 2 → y < 2 → z ≡ (x + y) % 2 → (((b && (x == 1)) && not (b && (y == 1))) || ((b && (y == 1)) && not (b && (x == 1)))) ≡ (b && (z == 1))
apart_test b x y z p q e = apart_within b (x == 1) (y == 1) (z == 1) (ap (λ t. t == 1) e ∙ apart_bits x y p q)

pub keeps_apart : (f g : List ℕ) (n : ℕ) (s t : NameSet) → names_below f n ≡ s → names_below g n ≡ t → Keeps (λ k. bit_xor (get_or f k 0) (get_or g k 0)) n (symmetric_difference s t)
keeps_apart f g n s t is_s is_t q =
    rw (contains-union (set.difference s t) (set.difference t s) q, contains-difference s t q, contains-difference t s q, keeps_words f n s is_s q, keeps_words g n t is_t q)
    (apart_test (ltb q n) _ _ _ (bit_at-lt _ _) (bit_at-lt _ _) (bit_at_xor (get_or f (q / 64) 0) (get_or g (q / 64) 0) (q % 64)))

pub keeps_either : (f g : List ℕ) (n : ℕ) (s t : NameSet) → names_below f n ≡ s → names_below g n ≡ t → Keeps (λ k. bit_or (get_or f k 0) (get_or g k 0)) n (set.union s t)
keeps_either f g n s t is_s is_t q =
    rw (contains-union s t q, keeps_words f n s is_s q, keeps_words g n t is_t q)
    (or_within _ _ _ _ (ap (λ x. x == 1) (bit_at_or (get_or f (q / 64) 0) (get_or g (q / 64) 0) (q % 64)) ∙ or_bits _ _ (bit_at-lt _ _) (bit_at-lt _ _)))

away : (x y : ℕ) → x < 2 → y < 2 → (x + min x y) % 2 ≡ min x (1 - y)
away x y p q = omega arith

away_bit : (a m i : ℕ) → bit_at (bit_xor a (bit_and a m)) i ≡ min (bit_at a i) (1 - bit_at m i)
away_bit a m i =
    bit_at_xor a (bit_and a m) i ∙ ap (λ x. (bit_at a i + x) % 2) (bit_at_and a m i) ∙ away _ _ (bit_at-lt a i) (bit_at-lt m i)

-- what stays behind where the members of r go
pub rest_of_moved : (a c : List ℕ) (m : ℕ → ℕ) (n u : ℕ) (s r : NameSet) → names_below a n ≡ s → Keeps m n r → InUse a u → ((k : ℕ) → k < u → get_or c k 0 ≡ bit_xor (get_or a k 0) (bit_and (get_or a k 0) (m k))) → ((k : ℕ) → u ≤ k → get_or c k 0 ≡ get_or a k 0) → names_below c n ≡ set.difference s r
rest_of_moved a c m n u s r is keeps ra first rest =
    from_bits c n _ (λ q.
    rw (contains-difference s r q, keeps_words a n s is q, keeps q)
    (without_within _ _ _ _
    (ap (λ x. x == 1)
    (from_both (λ k. bit_at (get_or c k 0) (q % 64) ≡ min (bit_at (get_or a k 0) (q % 64)) (1 - bit_at (m k) (q % 64))) u
    (λ k h. ap (λ w. bit_at w (q % 64)) (first k h) ∙ away_bit _ _ _)
    (λ k h. rw (zero_bit _ (q % 64) (rest k h ∙ ra k h), zero_bit _ (q % 64) (ra k h)) (omega arith))
    (q / 64))
    ∙ without_bits _ _ (bit_at-lt _ _) (bit_at-lt _ _))))

-- words that become what is left of others, where their own bits went
pub became_rest : (w v a c : List ℕ) (m : ℕ → ℕ) (n w_used u : ℕ) (s r : NameSet) → names_below a n ≡ s → Keeps m n r → InUse a u → InUse w w_used → ((k : ℕ) → k < w_used → get_or v k 0 ≡ 0) → ((k : ℕ) → w_used ≤ k → get_or v k 0 ≡ get_or w k 0) → ((k : ℕ) → k < u → get_or c k 0 ≡ bit_xor (get_or a k 0) (bit_and (get_or a k 0) (m k))) → ((k : ℕ) → u ≤ k → get_or c k 0 ≡ get_or v k 0) → names_below c n ≡ set.difference s r
became_rest w v a c m n w_used u s r is keeps ra rw_used wiped wiped_rest first rest =
    rest_of_moved a c m n u s r is keeps ra first (λ k h. rest k h ∙ cleared w v w_used rw_used wiped wiped_rest k ∙ sym (ra k h))

-- and how many of them are in use: none where all are 0
pub became_in_use : (w v c : List ℕ) (w_used u used any : ℕ) → InUse w w_used → ((k : ℕ) → k < w_used → get_or v k 0 ≡ 0) → ((k : ℕ) → w_used ≤ k → get_or v k 0 ≡ get_or w k 0) → ((k : ℕ) → u ≤ k → get_or c k 0 ≡ get_or v k 0) → (any ≡ 0 → (k : ℕ) → k < u → get_or c k 0 ≡ 0) → (any ≡ 0 → used ≡ 0) → (any ≢ 0 → used ≡ u) → InUse c used
became_in_use w v c w_used u used any rw_used wiped wiped_rest rest none is_none is_some k above =
    from_both (λ x. x ≡ k → get_or c x 0 ≡ 0) u
    (λ x below same. elim (cases_eq any 0) [ inl zero_it ↦ none zero_it x below | inr some ↦ let all = is_some some in absurd (omega arith) ])
    (λ x past _. rest x past ∙ cleared w v w_used rw_used wiped wiped_rest x) k refl

-- what stays behind where the others go
pub rest_of_others : (a c : List ℕ) (m : ℕ → ℕ) (n u : ℕ) (s r : NameSet) → names_below a n ≡ s → Keeps m n r → InUse a u → ((k : ℕ) → k < u → get_or c k 0 ≡ bit_and (get_or a k 0) (m k)) → ((k : ℕ) → u ≤ k → get_or c k 0 ≡ get_or a k 0) → names_below c n ≡ set.intersection s r
rest_of_others a c m n u s r is keeps ra first rest =
    from_bits c n _ (λ q.
    rw (contains-intersection s r q, keeps_words a n s is q, keeps q)
    (and_within _ _ _ _
    (ap (λ x. x == 1)
    (from_both (λ k. bit_at (get_or c k 0) (q % 64) ≡ min (bit_at (get_or a k 0) (q % 64)) (bit_at (m k) (q % 64))) u
    (λ k h. ap (λ w. bit_at w (q % 64)) (first k h) ∙ bit_at_and _ _ _)
    (λ k h. rw (zero_bit _ (q % 64) (rest k h ∙ ra k h), zero_bit _ (q % 64) (ra k h)) (omega arith))
    (q / 64))
    ∙ and_bits _ _ (bit_at-lt _ _) (bit_at-lt _ _))))

-- what the members of r make of the set that they go to
pub moved_to : (a c d : List ℕ) (m : ℕ → ℕ) (n u : ℕ) (s r t : NameSet) → names_below a n ≡ s → Keeps m n r → names_below c n ≡ t → InUse a u → ((k : ℕ) → k < u → get_or d k 0 ≡ bit_or (get_or c k 0) (bit_and (get_or a k 0) (m k))) → ((k : ℕ) → u ≤ k → get_or d k 0 ≡ get_or c k 0) → names_below d n ≡ set.union t (set.intersection s r)
moved_to a c d m n u s r t is keeps is_t ra first rest =
    from_bits d n _ (λ q.
    rw (contains-union t (set.intersection s r) q, contains-intersection s r q, keeps_words a n s is q, keeps q, keeps_words c n t is_t q)
    (ap (λ b. (ltb q n && (bit_of c q == 1)) || b) (and_within (ltb q n) _ _ _ (and_bits _ _ (bit_at-lt _ _) (bit_at-lt _ _)))
    ∙ or_within _ _ _ _
    (ap (λ x. x == 1)
    (from_both (λ k. bit_at (get_or d k 0) (q % 64) ≡ max (bit_at (get_or c k 0) (q % 64)) (min (bit_at (get_or a k 0) (q % 64)) (bit_at (m k) (q % 64)))) u
    (λ k h. ap (λ w. bit_at w (q % 64)) (first k h) ∙ bit_at_or _ _ _ ∙ ap (max (bit_at (get_or c k 0) (q % 64))) (bit_at_and _ _ _))
    (λ k h. rw (rest k h, zero_bit _ (q % 64) (ra k h)) (omega arith))
    (q / 64))
    ∙ or_bits _ _ (bit_at-lt _ _) (let two = bit_at-lt (get_or a (q / 64) 0) (q % 64) in omega arith))))

-- what the others make of the set that they go to
pub others_to : (a c d : List ℕ) (m : ℕ → ℕ) (n u : ℕ) (s r t : NameSet) → names_below a n ≡ s → Keeps m n r → names_below c n ≡ t → InUse a u → ((k : ℕ) → k < u → get_or d k 0 ≡ bit_or (get_or c k 0) (bit_xor (get_or a k 0) (bit_and (get_or a k 0) (m k)))) → ((k : ℕ) → u ≤ k → get_or d k 0 ≡ get_or c k 0) → names_below d n ≡ set.union t (set.difference s r)
others_to a c d m n u s r t is keeps is_t ra first rest =
    from_bits d n _ (λ q.
    rw (contains-union t (set.difference s r) q, contains-difference s r q, keeps_words a n s is q, keeps q, keeps_words c n t is_t q)
    (ap (λ b. (ltb q n && (bit_of c q == 1)) || b) (without_within (ltb q n) _ _ _ (without_bits _ _ (bit_at-lt _ _) (bit_at-lt _ _)))
    ∙ or_within _ _ _ _
    (ap (λ x. x == 1)
    (from_both (λ k. bit_at (get_or d k 0) (q % 64) ≡ max (bit_at (get_or c k 0) (q % 64)) (min (bit_at (get_or a k 0) (q % 64)) (1 - bit_at (m k) (q % 64)))) u
    (λ k h. ap (λ w. bit_at w (q % 64)) (first k h) ∙ bit_at_or _ _ _ ∙ ap (max (bit_at (get_or c k 0) (q % 64))) (away_bit _ _ _))
    (λ k h. rw (rest k h, zero_bit _ (q % 64) (ra k h)) (omega arith))
    (q / 64))
    ∙ or_bits _ _ (bit_at-lt _ _) (let two = bit_at-lt (get_or a (q / 64) 0) (q % 64) in omega arith))))

-- a bit that is changed where another is 1
flipped_bit : (x y z : ℕ) → x ≡ (y + z) % 2 → z ≡ 0 → y < 2 → x ≡ y
flipped_bit x y z e none two = omega (arith, e, none)

pub flipped_words : (a b c : List ℕ) (n u : ℕ) (s t : NameSet) → names_below a n ≡ s → names_below b n ≡ t → InUse b u → ((k : ℕ) → k < u → get_or c k 0 ≡ bit_xor (get_or a k 0) (get_or b k 0)) → ((k : ℕ) → u ≤ k → get_or c k 0 ≡ get_or a k 0) → names_below c n ≡ symmetric_difference s t
flipped_words a b c n u s t is is_t rb first rest =
    from_bits c n _ (λ q.
    keeps_apart a b n s t is is_t q
    ∙ ap (λ x. ltb q n && (x == 1))
    (from_both (λ k. bit_at (bit_xor (get_or a k 0) (get_or b k 0)) (q % 64) ≡ bit_at (get_or c k 0) (q % 64)) u
    (λ k h. ap (λ w. bit_at w (q % 64)) (sym (first k h)))
    (λ k h. flipped_bit _ _ _ (bit_at_xor (get_or a k 0) (get_or b k 0) (q % 64)) (zero_bit _ (q % 64) (rb k h)) (bit_at-lt _ _) ∙ ap (λ w. bit_at w (q % 64)) (sym (rest k h)))
    (q / 64)))

-- ---- the first member that is told apart

pub apart_word : (a f g : List ℕ) (i j : ℕ) → j < 64 → bit_apart a f g (64 * i + j) ≡ bit_at (bit_and (get_or a i 0) (bit_xor (get_or f i 0) (get_or g i 0))) j
apart_word a f g i j h =
    let word : (64 * i + j) / 64 ≡ i = omega arith in
    let place : (64 * i + j) % 64 ≡ j = omega arith in
    rw (word, place, bit_at_and (get_or a i 0) (bit_xor (get_or f i 0) (get_or g i 0)) j, bit_at_xor (get_or f i 0) (get_or g i 0) j) refl

-- a word without bits is passed over
pub apart_more : (a f g : List ℕ) (i : ℕ) → bit_and (get_or a i 0) (bit_xor (get_or f i 0) (get_or g i 0)) ≡ 0 → ((q : ℕ) → q < 64 * i → bit_apart a f g q ≡ 0) → (q : ℕ) → q < 64 * (i + 1) → bit_apart a f g q ≡ 0
apart_more a f g i none before q h =
    from_both (λ x. x ≡ q → bit_apart a f g x ≡ 0) (64 * i) (λ x l _. before x l)
    (λ x l e.
    let place : 64 * i + (x - 64 * i) ≡ x = omega arith in
    ap (bit_apart a f g) (sym place) ∙ apart_word a f g i (x - 64 * i) (omega arith) ∙ zero_bit _ _ none) q refl

pub record IsFirstApart (a f g : List ℕ) (u least : ℕ) : Type 0 where
  pub within : least < 64 * u
  pub here : bit_apart a f g least ≡ 1
  pub first : (q : ℕ) → q < least → bit_apart a f g q ≡ 0

-- the lowest bit of a word that has one
pub apart_found : (a f g : List ℕ) (i u : ℕ) → i < u → bit_and (get_or a i 0) (bit_xor (get_or f i 0) (get_or g i 0)) ≢ 0 → get_or a i 0 < 2 ^ 64 → ((q : ℕ) → q < 64 * i → bit_apart a f g q ≡ 0) → IsFirstApart a f g u (64 * i + trailing_zeros w64 (bit_and (get_or a i 0) (bit_xor (get_or f i 0) (get_or g i 0))))
apart_found a f g i u below some fits before =
    let facts = bit_at-trailing_zeros w64 (bit_and (get_or a i 0) (bit_xor (get_or f i 0) (get_or g i 0))) (omega arith) (let le = and_le_l (get_or a i 0) (bit_xor (get_or f i 0) (get_or g i 0)) in omega arith) in
    let small = facts.0 in
    record {
      within = omega arith;
      here = apart_word a f g i _ facts.0 ∙ facts.1;
      first = λ q h. from_both (λ x. x ≡ q → bit_apart a f g x ≡ 0) (64 * i) (λ x l _. before x l)
          (λ x l e.
          let place : 64 * i + (x - 64 * i) ≡ x = omega arith in
          ap (bit_apart a f g) (sym place) ∙ apart_word a f g i (x - 64 * i) (omega arith) ∙ facts.2 (x - 64 * i) (omega arith)) q refl;
    }

apart_member : (a f g : List ℕ) (n : ℕ) (s r t : NameSet) → names_below a n ≡ s → names_below f n ≡ r → names_below g n ≡ t → (q : ℕ) → set.contains (set.intersection s (symmetric_difference r t)) q ≡ (ltb q n && (bit_apart a f g q == 1))
apart_member a f g n s r t is is_r is_t q =
    rw (contains-intersection s (symmetric_difference r t) q, keeps_words a n s is q, keeps_apart f g n r t is_r is_t q)
    (and_within _ _ _ _ (ap (λ x. min (bit_of a q) x == 1) (sym (bit_at_xor _ _ _)) ∙ and_bits _ _ (bit_at-lt _ _) (bit_at-lt _ _)))

pub member_bit : (n q x : ℕ) (b : Bool) → b ≡ (ltb q n && (x == 1)) → b ≡ true → x ≡ 1
member_bit n q x b is h = grind (arith, nat_tests)

pub member_here : (n q x : ℕ) → q < n → x ≡ 1 → (ltb q n && (x == 1)) ≡ true
member_here n q x h e = grind (arith, nat_tests)

pub least_apart : (a f g : List ℕ) (n w u : ℕ) (s r t : NameSet) (least : ℕ) → n ≡ 64 * w → u ≤ w → names_below a n ≡ s → names_below f n ≡ r → names_below g n ≡ t → IsFirstApart a f g u least → (IsLeastFrom (set.intersection s (symmetric_difference r t)) 0 least) × (least < n)
least_apart a f g n w u s r t least whole used is is_r is_t found =
    let within = found.within in
    let below : least < n = omega arith in (
      record {
        member = apart_member a f g n s r t is is_r is_t least ∙ member_here n least _ below found.here;
        above = omega arith;
        first = λ q m _. from_both (λ x. x ≡ q → least ≤ x) least
            (λ x l e. let one = member_bit n x _ _ (apart_member a f g n s r t is is_r is_t x) (ap (set.contains (set.intersection s (symmetric_difference r t))) e ∙ m) in let none = found.first x l in absurd (omega arith))
            (λ x l _. l) q refl;
      },
      below,
    )

apart_unused : (a f g : List ℕ) (u q : ℕ) → InUse a u → 64 * u ≤ q → bit_apart a f g q ≡ 0
apart_unused a f g u q ra h = let none = zero_bit _ (q % 64) (ra (q / 64) (omega arith)) in omega arith

pub none_apart : (a f g : List ℕ) (n u : ℕ) (s r t : NameSet) → InUse a u → names_below a n ≡ s → names_below f n ≡ r → names_below g n ≡ t → ((q : ℕ) → q < 64 * u → bit_apart a f g q ≡ 0) → NoneFrom (set.intersection s (symmetric_difference r t)) 0
none_apart a f g n u s r t ra is is_r is_t none q m =
    let one = member_bit n q _ _ (apart_member a f g n s r t is is_r is_t q) m in
    let zero_here : bit_apart a f g q ≡ 0 = from_both (λ x. bit_apart a f g x ≡ 0) (64 * u) none (λ x l. apart_unused a f g u x ra l) q in
    absurd (omega arith)

-- what the first bit that is told apart says of the sets
pub least_or_none : (a f g : List ℕ) (n w u : ℕ) (s r t : NameSet) (found : Option ℕ) → n ≡ 64 * w → u ≤ w → InUse a u → names_below a n ≡ s → names_below f n ≡ r → names_below g n ≡ t → IfSome found (λ least. (least < 64 * u) × (bit_apart a f g least ≡ 1) × ((q : ℕ) → q < least → bit_apart a f g q ≡ 0)) → IfNone found ((q : ℕ) → q < 64 * u → bit_apart a f g q ≡ 0) → (IfSome found (IsLeastFrom (set.intersection s (symmetric_difference r t)) 0)) × (IfNone found (NoneFrom (set.intersection s (symmetric_difference r t)) 0)) × (IfSome found (λ least. least < n))
least_or_none a f g n w u s r t None whole used ra is is_r is_t some none = (tt, none_apart a f g n u s r t ra is is_r is_t none, tt)
least_or_none a f g n w u s r t (Some least) whole used ra is is_r is_t some none =
    let both = least_apart a f g n w u s r t least whole used is is_r is_t (record { within = some.0; here = some.1; first = some.2 }) in
    (both.0, tt, both.1)
