-- The spelling of a size, and how it is read.
use Rattle.std.proofs.Common.{◌≡◌, ◌≢◌, ℕ, suc, ◌+◌, ◌-◌, ◌*◌, ◌/◌, ◌%◌, ◌<◌, ◌≤◌, ◌&&◌, nat_lt, true, false, List, [], ◌∷◌, ◌++◌, length, get_or, unwrap_or, take, drop, Option, None, Some, ◌⊎◌, inl, inr, refl, sym, ap, ◌∙◌, arith, add-one}
use Rattle.std.specs.List.{AllPass, list_all}
use Rattle.std.proofs.lemmas.Bool.Decides.{nat_tests, eqb_tells}
use Rattle.std.proofs.lemmas.Bool.{le-ltb, lt-ltb, ne_eqb, cases_lt}
use Rattle.std.proofs.lemmas.Nat.{or_lt, le_or_l, le_or_r}
use Rattle.std.specs.Int.Bits.{bit_or}
use Rattle.std.proofs.Math.Seq.{take-suc}
use Rattle.std.proofs.lemmas.List.Folds.{list_all-append}
use Rattle.md_graph6.specs.Size.{size_text, size_of, is_too_long, eighteen_bits, most_in_four_bytes}
use Rattle.md_graph6.specs.Line.{is_group}

-- a number is at most another, or above it
nat_le_or : (a b : ℕ) → (a ≤ b) ⊎ (suc b ≤ a)
nat_le_or a b = grind (arith, nat_tests)

-- a byte of six bits
pub is_group-range : (byte : ℕ) → is_group byte ≡ true → (63 ≤ byte) × (byte ≤ 126)
is_group-range byte e = (grind (arith, nat_tests), grind (arith, nat_tests))

pub range-is_group : (byte : ℕ) → 63 ≤ byte → byte ≤ 126 → is_group byte ≡ true
range-is_group byte low high = grind (arith, nat_tests)

-- round the end of a byte, 63 less it is below 64 exactly then
is_group-wrapped : (byte : ℕ) → byte < 256 → is_group byte ≡ nat_lt ((byte + 193) % 256) 64
is_group-wrapped byte fits = elim (cases_lt byte 63) [
  | inl low ↦
      let same : (byte + 193) % 256 ≡ byte + 193 = omega (arith, low) in
      grind (arith, nat_tests)
  | inr high ↦
      let same : (byte + 193) % 256 ≡ byte - 63 = omega (arith, high, fits) in
      grind (arith, nat_tests)
]

-- the bits of two numbers joined are below 64 where those of both are
join_below : (a b : ℕ) → nat_lt (bit_or a b) 64 ≡ (nat_lt a 64 && nat_lt b 64)
join_below a b = elim (cases_lt a 64) [
  | inl first ↦ elim (cases_lt b 64) [
    | inl second ↦ rw (lt-ltb a 64 first, lt-ltb b 64 second, lt-ltb (bit_or a b) 64 (or_lt 6 a b first second)) refl
    | inr more ↦ rw (le-ltb b 64 more, le-ltb (bit_or a b) 64 (omega (arith, more, le_or_r a b))) (grind arith)
  ]
  | inr more ↦ rw (le-ltb a 64 more, le-ltb (bit_or a b) 64 (omega (arith, more, le_or_l a b))) refl
]

-- one byte more is joined
pub join_group : (line : List ℕ) (i joined : ℕ) → i < length line → get_or line i 0 < 256
    → list_all is_group (take i line) ≡ nat_lt joined 64
    → list_all is_group (take (i + 1) line) ≡ nat_lt (bit_or joined ((get_or line i 0 + 193) % 256)) 64
join_group line i joined inside fits before =
    ap (λ k. list_all is_group (take k line)) (add-one i) ∙ ap (list_all is_group) (take-suc line i 0 inside)
    ∙ list_all-append is_group (take i line) (get_or line i 0 ∷ [])
    ∙ rw (before, is_group-wrapped (get_or line i 0) fits, join_below joined ((get_or line i 0 + 193) % 256)) (grind arith)

-- a small size is one byte
pub size_text-one : (n : ℕ) → n ≤ 62 → size_text n ≡ (n + 63) ∷ []
unfolding size_text
size_text-one n small = grind (arith, nat_tests)

-- the next sizes are four bytes
pub size_text-four : (n : ℕ) → 63 ≤ n → n ≤ most_in_four_bytes
    → size_text n ≡ 126 ∷ (n / 64 / 64 % 64 + 63) ∷ (n / 64 % 64 + 63) ∷ (n % 64 + 63) ∷ []
unfolding size_text
size_text-four n large small = grind (arith, nat_tests)

-- one byte is read
pub size_of-one : (byte : ℕ) (rest : List ℕ) → byte ≢ 126 → size_of (byte ∷ rest) ≡ Some (1, byte - 63)
unfolding size_of
size_of-one byte rest other = rw (ne_eqb byte 126 other) refl

-- four bytes are read
pub size_of-four : (a b c : ℕ) (rest : List ℕ) → a ≢ 126
    → size_of (126 ∷ a ∷ b ∷ c ∷ rest) ≡ Some (4, ((a - 63) * 64 + (b - 63)) * 64 + (c - 63))
unfolding size_of
size_of-four a b c rest other =
    let long : 4 ≤ suc (suc (suc (suc (length rest)))) = omega arith in
    rw (le-ltb (suc (suc (suc (suc (length rest))))) 4 long, ne_eqb a 126 other) refl

-- eight bytes are read
size_of-eight : (line : List ℕ) → get_or line 0 0 ≡ 126 → get_or line 1 0 ≡ 126 → 8 ≤ length line
    → size_of line ≡ Some (8, eighteen_bits line 2 * 262144 + eighteen_bits line 5)
unfolding size_of
size_of-eight line first second long = rw (first, second, le-ltb (length line) 4 (omega arith), le-ltb (length line) 8 long) refl

-- a size that isn't all there
size_of-short : (line : List ℕ) → get_or line 0 0 ≡ 126 → length line < 4 → size_of line ≡ None
unfolding size_of
size_of-short line first short = rw (first, lt-ltb (length line) 4 short) refl

size_of-long_short : (line : List ℕ) → get_or line 0 0 ≡ 126 → get_or line 1 0 ≡ 126 → length line < 8
    → size_of line ≡ None
unfolding size_of
size_of-long_short line first second short = grind (arith, nat_tests)

-- the number of bytes that spell a size, and what stands behind them
pub size_text-read : (n : ℕ) (body : List ℕ) → n ≤ most_in_four_bytes
    → size_of (size_text n ++ body) ≡ Some (length (size_text n), n)
size_text-read n body small =
    elim (nat_le_or n 62) [
      | inl one ↦
          let byte : n + 63 ≢ 126 = λ e. absurd (omega arith) in
          let value : n + 63 - 63 ≡ n = omega arith in
          rw (size_text-one n one, size_of-one (n + 63) body byte, value) refl
      | inr four ↦
          let high : n / 64 / 64 % 64 ≡ n / 64 / 64 = omega arith in
          let byte : n / 64 / 64 % 64 + 63 ≢ 126 = λ e. absurd (omega arith) in
          let value : ((n / 64 / 64 % 64 + 63 - 63) * 64 + (n / 64 % 64 + 63 - 63)) * 64 + (n % 64 + 63 - 63) ≡ n = omega arith in
          rw (
            size_text-four n four small,
            size_of-four (n / 64 / 64 % 64 + 63) (n / 64 % 64 + 63) (n % 64 + 63) body byte,
            value,
          ) refl
    ]

-- the parts of a size that is there
pub taken_of : (a b c d : ℕ) → ◌≡◌ {A = Option (ℕ × ℕ)} (Some (a, b)) (Some (c, d)) → a ≡ c
taken_of a b c d e = ap (λ (o : Option (ℕ × ℕ)). (unwrap_or o (0, 0)).0) e

pub n_of : (a b c d : ℕ) → ◌≡◌ {A = Option (ℕ × ℕ)} (Some (a, b)) (Some (c, d)) → b ≡ d
n_of a b c d e = ap (λ (o : Option (ℕ × ℕ)). (unwrap_or o (0, 0)).1) e

-- four bytes spell no size of one byte, and eight no size of four
too_long-four : (taken n : ℕ) → 4 ≡ taken → is_too_long taken n ≡ false → 63 ≤ n
too_long-four taken n four e = grind (arith, nat_tests)

too_long-eight : (taken n : ℕ) → 8 ≡ taken → is_too_long taken n ≡ false → most_in_four_bytes < n
too_long-eight taken n eight e = grind (arith, nat_tests)

-- a size of one byte is in its shortest spelling
spelt-one : (byte : ℕ) (rest : List ℕ) (taken n : ℕ) → is_group byte ≡ true → byte ≢ 126
    → size_of (byte ∷ rest) ≡ Some (taken, n) → byte ∷ rest ≡ size_text n ++ drop taken (byte ∷ rest)
spelt-one byte rest taken n group other sized =
    let range : (63 ≤ byte) × (byte ≤ 126) = is_group-range byte group in
    let read : ◌≡◌ {A = Option (ℕ × ℕ)} (Some (1, byte - 63)) (Some (taken, n)) = sym (size_of-one byte rest other) ∙ sized in
    let one : 1 ≡ taken = taken_of _ _ _ _ read in
    let value : byte - 63 ≡ n = n_of _ _ _ _ read in
    let small : n ≤ 62 = grind arith in
    let back : n + 63 ≡ byte = omega (arith, range.0, range.1) in
    rw (← one, size_text-one n small, back) refl

-- so is a size of four bytes
spelt-four : (a b c : ℕ) (rest : List ℕ) (taken n : ℕ) → is_group a ≡ true → is_group b ≡ true → is_group c ≡ true
    → a ≢ 126 → size_of (126 ∷ a ∷ b ∷ c ∷ rest) ≡ Some (taken, n) → is_too_long taken n ≡ false
    → n ≤ most_in_four_bytes → 126 ∷ a ∷ b ∷ c ∷ rest ≡ size_text n ++ drop taken (126 ∷ a ∷ b ∷ c ∷ rest)
spelt-four a b c rest taken n ga gb gc other sized shortest small =
    let in_a : (63 ≤ a) × (a ≤ 126) = is_group-range a ga in
    let in_b : (63 ≤ b) × (b ≤ 126) = is_group-range b gb in
    let in_c : (63 ≤ c) × (c ≤ 126) = is_group-range c gc in
    let read : ◌≡◌ {A = Option (ℕ × ℕ)} (Some (4, ((a - 63) * 64 + (b - 63)) * 64 + (c - 63))) (Some (taken, n)) =
    sym (size_of-four a b c rest other) ∙ sized in
    let four : 4 ≡ taken = taken_of _ _ _ _ read in
    let value : ((a - 63) * 64 + (b - 63)) * 64 + (c - 63) ≡ n = n_of _ _ _ _ read in
    let large : 63 ≤ n = too_long-four taken n four shortest in
    let high : n / 64 / 64 % 64 + 63 ≡ a = omega (arith, in_a.0, in_a.1, in_b.0, in_b.1, in_c.0, in_c.1) in
    let middle : n / 64 % 64 + 63 ≡ b = omega (arith, in_a.0, in_a.1, in_b.0, in_b.1, in_c.0, in_c.1) in
    let low : n % 64 + 63 ≡ c = omega (arith, in_a.0, in_a.1, in_b.0, in_b.1, in_c.0, in_c.1) in
    rw (← four, size_text-four n large small, high, middle, low) refl

-- a size of eight bytes in its shortest spelling is large
spelt-eight : (line : List ℕ) (taken n : ℕ) → get_or line 0 0 ≡ 126 → get_or line 1 0 ≡ 126 → 8 ≤ length line
    → size_of line ≡ Some (taken, n) → is_too_long taken n ≡ false → most_in_four_bytes < n
spelt-eight line taken n first second long sized shortest =
    let eight : 8 ≡ taken = taken_of _ _ _ _ (sym (size_of-eight line first second long) ∙ sized) in
    too_long-eight taken n eight shortest

-- what begins with the byte 126
spelt-long : (rest : List ℕ) (taken n : ℕ) → AllPass is_group (126 ∷ rest) → size_of (126 ∷ rest) ≡ Some (taken, n)
    → is_too_long taken n ≡ false → n ≤ most_in_four_bytes → 126 ∷ rest ≡ size_text n ++ drop taken (126 ∷ rest)
spelt-long [] taken n groups sized shortest small =
    let none : size_of (126 ∷ []) ≡ None = size_of-short (126 ∷ []) refl (omega arith) in cc
spelt-long (a ∷ []) taken n groups sized shortest small =
    let none : size_of (126 ∷ a ∷ []) ≡ None = size_of-short (126 ∷ a ∷ []) refl (omega arith) in cc
spelt-long (a ∷ b ∷ []) taken n groups sized shortest small =
    let none : size_of (126 ∷ a ∷ b ∷ []) ≡ None = size_of-short (126 ∷ a ∷ b ∷ []) refl (omega arith) in cc
spelt-long (a ∷ b ∷ c ∷ rest) taken n groups sized shortest small =
    elim (eqb_tells a 126) [
      | inl (test, is) ↦ elim (nat_le_or 8 (length (126 ∷ a ∷ b ∷ c ∷ rest))) [
        | inl long ↦
            absurd (omega (arith, spelt-eight (126 ∷ a ∷ b ∷ c ∷ rest) taken n refl is long sized shortest))
        | inr short ↦
            let none : size_of (126 ∷ a ∷ b ∷ c ∷ rest) ≡ None =
            size_of-long_short (126 ∷ a ∷ b ∷ c ∷ rest) refl is short in cc
      ]
      | inr (test, other) ↦
          spelt-four a b c rest taken n (groups 1 0 (omega arith)) (groups 2 0 (omega arith)) (groups 3 0 (omega arith))
          other sized shortest small
    ]

-- a line whose size is not too long begins with the shortest spelling
pub size_text-spelt : (line : List ℕ) (taken n : ℕ) → 0 < length line → AllPass is_group line
    → size_of line ≡ Some (taken, n) → is_too_long taken n ≡ false → n ≤ most_in_four_bytes
    → line ≡ size_text n ++ drop taken line
size_text-spelt [] taken n some groups sized shortest small = absurd (omega arith)
size_text-spelt (byte ∷ rest) taken n some groups sized shortest small =
    elim (eqb_tells byte 126) [
      | inl (test, is) ↦
          let there : AllPass is_group (126 ∷ rest) = rw is at groups in
          let size : size_of (126 ∷ rest) ≡ Some (taken, n) = rw is at sized in
          rw is (spelt-long rest taken n there size shortest small)
      | inr (test, other) ↦ spelt-one byte rest taken n (groups 0 0 (omega arith)) other sized
    ]

-- how many bytes a size takes, and that they are no more than needed
pub size_text-shortest : (n : ℕ) → n ≤ most_in_four_bytes → is_too_long (length (size_text n)) n ≡ false
size_text-shortest n small =
    elim (nat_le_or n 62) [
      | inl one ↦ rw (size_text-one n one) refl
      | inr four ↦ rw (size_text-four n four small) (grind (arith, nat_tests))
    ]

-- the bytes of a size
pub size_text-groups : (n : ℕ) → n ≤ most_in_four_bytes → list_all is_group (size_text n) ≡ true
size_text-groups n small =
    elim (nat_le_or n 62) [
      | inl one ↦ rw (size_text-one n one, range-is_group (n + 63) (omega arith) (omega arith)) refl
      | inr four ↦
          rw (
            size_text-four n four small,
            range-is_group (n / 64 / 64 % 64 + 63) (omega arith) (omega arith),
            range-is_group (n / 64 % 64 + 63) (omega arith) (omega arith),
            range-is_group (n % 64 + 63) (omega arith) (omega arith),
          ) refl
    ]

-- there is a byte
pub size_text-some : (n : ℕ) (body : List ℕ) → n ≤ most_in_four_bytes → 0 < length (size_text n ++ body)
size_text-some n body small =
    elim (nat_le_or n 62) [
      | inl one ↦ rw (size_text-one n one) (omega arith)
      | inr four ↦ rw (size_text-four n four small) (omega arith)
    ]
