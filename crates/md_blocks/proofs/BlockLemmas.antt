-- The members of a set, 64 names at a time, and their texts.
use Rattle.std.specs.Prelude.{◌≡◌, ℕ, zero, suc, ◌+◌, ◌-◌, ◌%◌, ◌<◌, ◌≤◌, Bool, true, false, cond, ◌&&◌, ◌==◌, nat_le, Option, None, Some, List, [], ◌∷◌, ◌++◌, length, IfSome, IfNone, refl}
use Rattle.std.specs.Int.{bit_at}
use Rattle.std.specs.List.{All}
use Rattle.std.proofs.Common.{true≢false, subst, ap, sym, ◌∙◌, arith, inl, inr, append_assoc, append-nil, length-append}
use Rattle.std.proofs.lemmas.Bool.{cases_lt, le-leb, lt-leb, false_from_ne_true}
use Rattle.std.proofs.lemmas.List.Elements.{All-head, All-tail}
use Rattle.std.proofs.lemmas.Nat.Bits.{bit_at-zero}
use Rattle.std.specs.FinSet as set
use Rattle.md_graph.specs.declared.TheConstants.{NAMES}
use Rattle.md_graph.specs.Sets.{NameSet, Has}
use Rattle.md_graph.specs.NameSet.{ascending_between, ascending_from, NoneFrom, IsGreatest}
use Rattle.md_graph.specs.Words.{bits_between}
use Rattle.md_graph.proofs.Limits.{NAMES-is}
use Rattle.md_graph.proofs.MemberLists.{ascending_word, no_bits_of_zero}
use Rattle.md_graph.proofs.NameLemmas.{ascending_none, ascending_split}
use Rattle.md_text.proofs.ListLemmas.{All-front, All-behind}
use Rattle.md_text.specs.declared.piece.Piece.{Piece}
use Rattle.md_text.specs.Pieces.{text_at, texts_at}

-- ---- the bits of a word

at_most_one_more : (xs : List ℕ) (x n : ℕ) (b : Bool) → length xs ≤ n → length (xs ++ cond b (x ∷ []) []) ≤ suc n
at_most_one_more xs x n true h = let e = length-append xs (x ∷ []) in omega arith
at_most_one_more xs x n false h = let e = ap length (append-nil xs) in omega arith

pub bits_count : (first bits n : ℕ) → length (bits_between first bits n) ≤ n
unfolding bits_between
bits_count first bits zero = omega arith
bits_count first bits (suc n) = at_most_one_more (bits_between first bits n) (first + n) n (bit_at bits n == 1) (bits_count first bits n)

pub no_bits_left : (first left : ℕ) → left ≡ 0 → bits_between first left 64 ≡ []
no_bits_left first left e = ap (λ b. bits_between first b 64) e ∙ no_bits_of_zero first 64

-- ---- the members from a name on: those of a word

pub nothing_below : (s : NameSet) (low n : ℕ) → n ≤ low → ascending_between s low n ≡ []
nothing_below s low n h = ascending_none s low n (λ w from below. absurd (omega arith))

kept_bit : (s : NameSet) (first place bits masked k : ℕ) → set.contains s (first + k) ≡ (bit_at bits k == 1) → bit_at masked k ≡ cond (nat_le place k) (bit_at bits k) 0
    → (bit_at masked k == 1) ≡ (nat_le (first + place) (first + k) && set.contains s (first + k))
kept_bit s first place bits masked k has is =
    elim (cases_lt k place) [
      | inl under ↦
          let out = lt-leb place k under in
          let name_out = lt-leb (first + place) (first + k) (omega arith) in
          ap (λ b. b == 1) (is ∙ ap (λ b. cond b (bit_at bits k) 0) out) ∙ sym (ap (λ b. b && set.contains s (first + k)) name_out)
      | inr above ↦
          let kept = le-leb place k above in
          let name_kept = le-leb (first + place) (first + k) (omega arith) in
          ap (λ b. b == 1) (is ∙ ap (λ b. cond b (bit_at bits k) 0) kept) ∙ sym (ap (λ b. b && set.contains s (first + k)) name_kept ∙ has)
    ]

-- the members of one word from a place on are those of its bits
pub word_is : (s : NameSet) (first place bits masked : ℕ) → ((k : ℕ) → k < 64 → set.contains s (first + k) ≡ (bit_at bits k == 1))
    → ((k : ℕ) → k < 64 → bit_at masked k ≡ cond (nat_le place k) (bit_at bits k) 0) → ascending_between s (first + place) (first + 64) ≡ bits_between first masked 64
word_is s first place bits masked has is =
    ascending_word s (first + place) first masked 64 (λ k h. kept_bit s first place bits masked k (has k h) (is k h))
    ∙ ap (λ l. l ++ bits_between first masked 64) (nothing_below s (first + place) first (omega arith))

-- no member is in a word without bits
pub past_word : (s : NameSet) (first bits v : ℕ) → bits ≡ 0 → ((k : ℕ) → k < 64 → set.contains s (first + k) ≡ (bit_at bits k == 1)) → Has s v → first ≤ v → first + 64 ≤ v
past_word s first bits v none has m from =
    elim (cases_lt v (first + 64)) [
      | inl within ↦
          let k = v - first in
          let at : v ≡ first + k = omega arith in
          absurd (true≢false (sym (sym (ap (set.contains s) at) ∙ m) ∙ has k (omega arith) ∙ ap (λ b. bit_at b k == 1) none ∙ ap (λ b. b == 1) (bit_at-zero k)))
      | inr past ↦ past
    ]

-- ---- where nothing is to be written

pub nothing_more : (pieces : List Piece) (start now xs : List ℕ) → xs ≡ [] → now ≡ now ++ texts_at pieces start xs
unfolding texts_at
nothing_more pieces start now xs none = sym (ap (λ l. now ++ texts_at pieces start l) none ∙ append-nil now)

pub empty_from : (s : NameSet) (low from : ℕ) → low ≤ from → NoneFrom s low → ascending_from s from ≡ []
empty_from s low from up none = ascending_none s from NAMES (λ w above below. false_from_ne_true _ (λ m. let under = none w m in omega arith))

-- ---- the members from a name on: word by word

-- a name at the front of a word that isn't behind all names
pub word_fits : (first : ℕ) → first % 64 ≡ 0 → first < NAMES → first + 64 ≤ NAMES
word_fits first aligned below = let whole = NAMES-is in omega arith

-- where a word begins with `first`, the members from one of its places on are those of its bits, and those behind it
pub word_from : (s : NameSet) (from first place bits masked : ℕ) → from ≡ first + place → place < 64 → first % 64 ≡ 0 → first < NAMES → ((k : ℕ) → k < 64 → set.contains s (first + k) ≡ (bit_at bits k == 1))
    → ((k : ℕ) → k < 64 → bit_at masked k ≡ cond (nat_le place k) (bit_at bits k) 0) → ascending_from s from ≡ bits_between first masked 64 ++ ascending_from s (first + 64)
word_from s from first place bits masked whole within aligned named has is =
    ap (ascending_from s) whole ∙ ascending_split s (first + place) (first + 64) NAMES (omega arith) (word_fits first aligned named)
    ∙ ap (λ l. l ++ ascending_from s (first + 64)) (word_is s first place bits masked has is)

-- the same where no member is below that word
pub next_from : (s : NameSet) (from first bits : ℕ) → from ≤ first → first % 64 ≡ 0 → first < NAMES → ((v : ℕ) → Has s v → from ≤ v → first ≤ v) → ((k : ℕ) → k < 64 → set.contains s (first + k) ≡ (bit_at bits k == 1)) →
    ascending_from s from ≡ bits_between first bits 64 ++ ascending_from s (first + 64)
next_from s from first bits up aligned named none has =
    ascending_split s from first NAMES up (omega arith)
    ∙ ap (λ l. l ++ ascending_from s first) (ascending_none s from first (λ v above below. false_from_ne_true _ (λ m. let past = none v m above in omega arith)))
    ∙ word_from s first first 0 bits bits (omega arith) (omega arith) aligned named has (λ k h. sym (ap (λ b. cond b (bit_at bits k) 0) (le-leb 0 k (omega arith))))

-- no word behind the greatest member has one
pub past_last : (s : NameSet) (from last : ℕ) → IsGreatest s last → last < from → ascending_from s from ≡ []
past_last s from last greatest past = ascending_none s from NAMES (λ w above below. false_from_ne_true _ (λ m. let within = greatest.last w m in omega arith))

-- the names of the bits of a word, and those behind it
abbrev pub names_left : NameSet → Option (ℕ × ℕ) → List ℕ
names_left s None = []
names_left s (Some word) = bits_between word.0 word.1 64 ++ ascending_from s (word.0 + 64)

left_is : (s : NameSet) (next : Option (ℕ × ℕ)) (names : List ℕ) → IfSome next (λ word. names ≡ bits_between word.0 word.1 64 ++ ascending_from s (word.0 + 64)) → IfNone next (names ≡ []) → names ≡ names_left s next
left_is s None names some none = none
left_is s (Some word) names some none = some

-- what is written before a word, and what is to be written from there on
pub record ArePut (s : NameSet) (next : Option (ℕ × ℕ)) (pieces : List Piece) (start now total : List ℕ) : Type 0 where
  pub named : IfSome next (λ word. word.0 + 64 ≤ NAMES)
  pub aligned : IfSome next (λ word. word.0 % 64 ≡ 0)
  pub there : All (λ v. v < length pieces) (names_left s next)
  pub written : now ++ texts_at pieces start (names_left s next) ≡ total

pub texts_append : (pieces : List Piece) (first xs ys : List ℕ) → texts_at pieces first (xs ++ ys) ≡ texts_at pieces first xs ++ texts_at pieces first ys
unfolding texts_at
texts_append pieces first [] ys = refl
texts_append pieces first (x ∷ xs) ys =
    ap (λ l. (first ++ text_at pieces x) ++ l) (texts_append pieces first xs ys) ∙ sym (append_assoc (first ++ text_at pieces x) (texts_at pieces first xs) (texts_at pieces first ys))

-- the texts of the first of some indices, and of the others
pub texts_cut : (pieces : List Piece) (start held placed total xs front rest : List ℕ) → held ++ texts_at pieces start xs ≡ total → xs ≡ front ++ rest →
    placed ≡ held ++ texts_at pieces start front → placed ++ texts_at pieces start rest ≡ total
texts_cut pieces start held placed total xs front rest before cut more =
    ap (λ l. l ++ texts_at pieces start rest) more ∙ append_assoc held (texts_at pieces start front) (texts_at pieces start rest)
    ∙ ap (λ l. held ++ l) (sym (ap (texts_at pieces start) cut ∙ texts_append pieces start front rest)) ∙ before

module _ (s : NameSet) (pieces : List Piece) (start : List ℕ) where
  pub words_begin : (from : ℕ) (next : Option (ℕ × ℕ)) (now : List ℕ) → IfSome next (λ word. word.0 + 64 ≤ NAMES) → IfSome next (λ word. word.0 % 64 ≡ 0) →
      IfSome next (λ word. ascending_from s from ≡ bits_between word.0 word.1 64 ++ ascending_from s (word.0 + 64)) → IfNone next (ascending_from s from ≡ []) →
      All (λ v. v < length pieces) (ascending_from s from) → ArePut s next pieces start now (now ++ texts_at pieces start (ascending_from s from))
  words_begin from next now named aligned some none there =
      let left = left_is s next (ascending_from s from) some none in
      record { named = named; aligned = aligned; there = subst (All (λ v. v < length pieces)) left there; written = ap (λ l. now ++ texts_at pieces start l) (sym left) }

  pub words_end : (next : Option (ℕ × ℕ)) (now total : List ℕ) → next ≡ None → ArePut s next pieces start now total → now ≡ total
  words_end next now total none put = nothing_more pieces start now (names_left s next) (ap (names_left s) none) ∙ put.written

  module _ (first bits : ℕ) (now total : List ℕ) (put : ArePut s (Some (first, bits)) pieces start now total) where
    pub word_there : All (λ v. v < length pieces) (bits_between first bits 64)
    word_there = All-front (λ v. v < length pieces) (bits_between first bits 64) (ascending_from s (first + 64)) put.there

    pub words_more : (next : Option (ℕ × ℕ)) (after : List ℕ) → after ≡ now ++ texts_at pieces start (bits_between first bits 64) → IfSome next (λ word. word.0 + 64 ≤ NAMES) → IfSome next (λ word. word.0 % 64 ≡ 0) →
        IfSome next (λ word. ascending_from s (first + 64) ≡ bits_between word.0 word.1 64 ++ ascending_from s (word.0 + 64)) → IfNone next (ascending_from s (first + 64) ≡ []) → ArePut s next pieces start after total
    words_more next after more named aligned some none =
        let left = left_is s next (ascending_from s (first + 64)) some none in
        record {
          named = named;
          aligned = aligned;
          there = subst (All (λ v. v < length pieces)) left (All-behind (λ v. v < length pieces) (bits_between first bits 64) (ascending_from s (first + 64)) put.there);
          written =
              ap (λ l. after ++ texts_at pieces start l) (sym left)
              ∙ texts_cut pieces start now after total (bits_between first bits 64 ++ ascending_from s (first + 64)) (bits_between first bits 64) (ascending_from s (first + 64)) put.written refl more;
        }

-- a word that is put behind what was held
pub word_put : (pieces : List Piece) (start text held moved kept placed xs : List ℕ) → moved ++ kept ≡ text ++ held → placed ≡ kept ++ texts_at pieces start xs → moved ++ placed ≡ (text ++ held) ++ texts_at pieces start xs
word_put pieces start text held moved kept placed xs same more =
    ap (λ l. moved ++ l) more ∙ sym (append_assoc moved kept (texts_at pieces start xs)) ∙ ap (λ l. l ++ texts_at pieces start xs) same

-- two pieces behind what is gathered
pub two_put : (text held moved kept new first second : List ℕ) → moved ++ kept ≡ text ++ held → new ≡ (kept ++ first) ++ second → moved ++ new ≡ ((text ++ held) ++ first) ++ second
two_put text held moved kept new first second same put =
    ap (λ l. moved ++ l) put ∙ sym (append_assoc moved (kept ++ first) second) ∙ ap (λ l. l ++ second) (sym (append_assoc moved kept first) ∙ ap (λ l. l ++ first) same)

-- ---- the loop over the bits of a word

pub rest_there : (n : ℕ) (x : ℕ) (xs ys : List ℕ) → ys ≡ x ∷ xs → All (λ w. w < n) ys → All (λ w. w < n) xs
rest_there n x xs ys e all = All-tail (λ w. w < n) x xs (subst (All (λ w. w < n)) e all)

pub first_there : (n : ℕ) (x : ℕ) (xs ys : List ℕ) → ys ≡ x ∷ xs → All (λ w. w < n) ys → x < n
first_there n x xs ys e all = All-head (λ w. w < n) x xs (subst (All (λ w. w < n)) e all)

pub shorter : (x : ℕ) (xs ys : List ℕ) → ys ≡ x ∷ xs → length ys ≡ length xs + 1
shorter x xs ys e = let l = ap length e in omega arith

pub four_shorter : (xs four rest : List ℕ) → length four ≡ 4 → xs ≡ four ++ rest → length xs ≡ 4 + length rest
four_shorter xs four rest long cut = let l = ap length cut ∙ length-append four rest in omega arith
