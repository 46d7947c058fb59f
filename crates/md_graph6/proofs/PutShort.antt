-- The bits of a short line that stand in no byte yet.
use Rattle.std.proofs.Common.{◌≡◌, ℕ, ◌+◌, ◌-◌, ◌*◌, ◌/◌, ◌%◌, ◌^◌, ◌<◌, ◌≤◌, Bool, true, false, ◌&&◌, ◌==◌, nat_lt, List, refl, sym, ap, ◌∙◌, arith, bit_or, if◌then◌else◌, inl, inr}
use Rattle.std.specs.Int.{bit_at}
use Rattle.std.proofs.lemmas.Bool.{cases_lt}
use Rattle.std.proofs.lemmas.Bool.Decides.{nat_tests}
use Rattle.std.proofs.lemmas.Nat.Bits.{bit_at_or, bit_at-zero, bit_at-lt}
use Rattle.md_graph.specs.PlainGraph.{PlainGraph}
use Rattle.md_graph.proofs.Transposing.{bit_at_shl, bit_at_shr}
use Rattle.md_graph6.specs.Bits.{bit, pair_number}
use Rattle.md_graph6.specs.Window.{AreGroups, IsPut}
use Rattle.md_graph6.specs.Short.{put_bit, IsUnput}
use Rattle.md_graph6.specs.Written.{bit_if, are_adjacent, IsWritten}
use Rattle.md_graph6.proofs.BitLemmas.{bit_at_mod, bit_at_mod_above, bit_at_shl_low}
use Rattle.md_graph6.proofs.WriteLemmas.{low_none, bit_by_test, pair_before, pair_next}

bit_before : (body : List ℕ) (word at k : ℕ) → k < 6 * at → put_bit body word at k ≡ bit body k
bit_before body word at k h = let t : nat_lt k (6 * at) ≡ true = grind (arith, nat_tests) in rw t refl

bit_from : (body : List ℕ) (word at k : ℕ) → 6 * at ≤ k → put_bit body word at k ≡ bit_at word (k - 6 * at)
bit_from body word at k h = let t : nat_lt k (6 * at) ≡ false = grind (arith, nat_tests) in rw t refl

-- ---- a column behind the bits

-- the lowest j bits of a word, and no others
pub short_bit : (f : ℕ → Bool) (j bits low i : ℕ) → j < 58 → low < 2 ^ 64
    → ((k : ℕ) → k < 64 → k < j → f k ≡ (bit_at bits k == 1))
    → ((k : ℕ) → k < 64 → bit_at low k ≡ (if nat_lt k j then bit_at bits k else 0))
    → bit_at low i ≡ bit_if (nat_lt i j && f i)
short_bit f j bits low i short fits is cut =
    elim (cases_lt i j) [
      | inl below ↦
          let t : nat_lt i j ≡ true = grind (arith, nat_tests) in
          cut i (omega arith) ∙ rw t (bit_by_test (bit_at bits i) (f i) (bit_at-lt bits i) (is i (omega arith) below))
      | inr past ↦
          let t : nat_lt i j ≡ false = grind (arith, nat_tests) in
          low_none bits low j i fits cut past ∙ rw t refl
    ]

pub behind_before : (word low held k : ℕ) → held < 6 → k < held → bit_at (bit_or word (low * 2 ^ held % 2 ^ 64)) k ≡ bit_at word k
behind_before word low held k few h =
    let both = bit_at_or word (low * 2 ^ held % 2 ^ 64) k in
    let none = bit_at_mod (low * 2 ^ held) 64 k (omega arith) ∙ bit_at_shl_low low held k h in
    omega (arith, both, none)

pub behind_from : (word low held j i : ℕ) → held < 6 → j < 58 → ((k : ℕ) → held ≤ k → bit_at word k ≡ 0) → ((k : ℕ) → j ≤ k → bit_at low k ≡ 0)
    → bit_at (bit_or word (low * 2 ^ held % 2 ^ 64)) (held + i) ≡ bit_at low i
behind_from word low held j i few short above none =
    let both = bit_at_or word (low * 2 ^ held % 2 ^ 64) (held + i) in
    let no_word = above (held + i) (omega arith) in
    let moved : bit_at (low * 2 ^ held % 2 ^ 64) (held + i) ≡ bit_at low i = elim (cases_lt (held + i) 64) [
      | inl inside ↦ let e : held + i - held ≡ i = omega arith in bit_at_shl low held (held + i) inside (omega arith) ∙ ap (bit_at low) e
      | inr past ↦ bit_at_mod_above (low * 2 ^ held) 64 (held + i) past ∙ sym (none i (omega arith))
    ] in
    omega (arith, both, no_word, moved)

-- ---- a byte

pub unput_next : {old new : List ℕ} {word held at : ℕ} → 6 ≤ held → IsUnput old word held at → IsPut old new at 1 word
    → IsUnput new (word / 2 ^ 6) (held - 6) (at + 1)
unput_next {old} {new} {word} {held} {at} enough unput put = record {
  groups = put.groups;
  above = λ k h. bit_at_shr word 6 k ∙ unput.above (k + 6) (omega arith);
  blank = λ k h. put.behind k (omega arith) ∙ unput.blank k (omega arith);
}

pub put_next : {old new : List ℕ} {word at : ℕ} → IsPut old new at 1 word → (k : ℕ) → put_bit new (word / 2 ^ 6) (at + 1) k ≡ put_bit old word at k
put_next {old} {new} {word} {at} put k =
    elim (cases_lt k (6 * at)) [
      | inl before ↦ bit_before new (word / 2 ^ 6) (at + 1) k (omega arith) ∙ put.before k before ∙ sym (bit_before old word at k before)
      | inr from ↦ elim (cases_lt k (6 * at + 6)) [
        | inl here ↦
            let e : 6 * at + (k - 6 * at) ≡ k = omega arith in
            bit_before new (word / 2 ^ 6) (at + 1) k (omega arith) ∙ ap (bit new) (sym e) ∙ put.inside (k - 6 * at) (omega arith) ∙ sym (bit_from old word at k from)
        | inr past ↦
            let e : k - 6 * (at + 1) + 6 ≡ k - 6 * at = omega arith in
            bit_from new (word / 2 ^ 6) (at + 1) k (omega arith) ∙ bit_at_shr word 6 (k - 6 * (at + 1)) ∙ ap (bit_at word) e ∙ sym (bit_from old word at k from)
      ]
    ]

-- ---- the columns of a graph

-- the bits of the columns below j are there, in bytes or in the word
pub record IsWrittenTo (body : List ℕ) (g : PlainGraph) (j word held at : ℕ) : Type 0 where
  pub unput : IsUnput body word held at
  pub place : 6 * at + held ≡ pair_number 0 j
  pub few : held < 6
  pub bits : (a b : ℕ) → a < b → b < j → put_bit body word at (pair_number a b) ≡ bit_if (are_adjacent g a b)

pub written_none : {body : List ℕ} {g : PlainGraph} → IsWritten body g 0 → IsWrittenTo body g 0 0 0 0
written_none {body} {g} written = record {
  unput = record { groups = written.groups; above = λ k h. bit_at-zero k; blank = λ k h. written.blank k (omega arith) };
  place = refl;
  few = omega arith;
  bits = λ a b up inside. absurd (omega arith);
}

-- the unput bits and a column behind them
pub unput_column : {body : List ℕ} {g : PlainGraph} {j word held at : ℕ} (f : ℕ → Bool) (new_word new_held new_at : ℕ) → IsWrittenTo body g j word held at
    → ((i : ℕ) → bit_at new_word (held + i) ≡ bit_if (nat_lt i j && f i)) → new_held ≡ held + j → new_at ≡ at
    → IsUnput body new_word new_held new_at
unput_column {body} {g} {j} {word} {held} {at} f new_word new_held new_at written column is_held is_at = record {
  groups = written.unput.groups;
  above = λ k h.
      let e : held + (k - held) ≡ k = omega arith in
      let t : nat_lt (k - held) j ≡ false = grind (arith, nat_tests) in
      ap (bit_at new_word) (sym e) ∙ column (k - held) ∙ rw t refl;
  blank = λ k h. written.unput.blank k (omega arith);
}

-- one column more
pub written_column : {body new : List ℕ} {g : PlainGraph} {j word held at : ℕ} (f : ℕ → Bool) (mid_word mid_held new_word new_held new_at : ℕ) → IsWrittenTo body g j word held at
    → ((k : ℕ) → k < held → bit_at mid_word k ≡ bit_at word k)
    → ((i : ℕ) → bit_at mid_word (held + i) ≡ bit_if (nat_lt i j && f i)) → mid_held ≡ held + j
    → ((i : ℕ) → i < j → f i ≡ are_adjacent g i j)
    → IsUnput new new_word new_held new_at → 6 * new_at + new_held ≡ 6 * at + mid_held → new_held < 6
    → ((k : ℕ) → put_bit new new_word new_at k ≡ put_bit body mid_word at k)
    → IsWrittenTo new g (j + 1) new_word new_held new_at
written_column {body} {new} {g} {j} {word} {held} {at} f mid_word mid_held new_word new_held new_at written before column is_held is unput place few same = record {
  unput = unput;
  place = omega (arith, place, written.place, pair_next j);
  few = few;
  bits = λ a b up inside. same (pair_number a b) ∙ elim (cases_lt b j) [
    | inl less ↦ old_bit (pair_number a b) (omega (arith, written.place, pair_before a b j up less)) ∙ written.bits a b up less
    | inr more ↦
        let e : b ≡ j = omega arith in
        rw e (new_bit a (omega arith))
  ];
}
  where
    old_bit : (k : ℕ) → k < 6 * at + held → put_bit body mid_word at k ≡ put_bit body word at k
    old_bit k inside = elim (cases_lt k (6 * at)) [
      | inl earlier ↦ bit_before body mid_word at k earlier ∙ sym (bit_before body word at k earlier)
      | inr here ↦ bit_from body mid_word at k here ∙ before (k - 6 * at) (omega arith) ∙ sym (bit_from body word at k here)
    ]

    new_bit : (a : ℕ) → a < j → put_bit body mid_word at (pair_number a j) ≡ bit_if (are_adjacent g a j)
    new_bit a up =
        let e : pair_number a j - 6 * at ≡ held + a = omega (arith, written.place) in
        let t : nat_lt a j ≡ true = grind (arith, nat_tests) in
        bit_from body mid_word at (pair_number a j) (omega (arith, written.place)) ∙ ap (bit_at mid_word) e ∙ column a ∙ rw (t, is a up) refl

pub written_all : {body new : List ℕ} {g : PlainGraph} {n word held at : ℕ} → IsWrittenTo body g n word held at → AreGroups new
    → ((k : ℕ) → bit new k ≡ put_bit body word at k) → IsWritten new g n
written_all {body} {new} {g} {n} {word} {held} {at} written groups put = record {
  groups = groups;
  bits = λ a b up inside. put (pair_number a b) ∙ written.bits a b up inside;
  blank = λ k past.
      put k ∙ bit_from body word at k (omega (arith, written.place)) ∙ written.unput.above (k - 6 * at) (omega (arith, written.place));
}
