-- The size that begins a line, as it is written, and how long a line is.
use Rattle.std.proofs.Common.{◌≡◌, ℕ, ◌-◌, ◌*◌, ◌<◌, ◌≤◌, List, [], ◌∷◌, ◌++◌, length, ap, ◌∙◌, arith, append_assoc, inl, inr}
use Rattle.std.proofs.lemmas.Bool.{cases_lt}
use Rattle.std.proofs.lemmas.Nat.{mul-le}
use Rattle.md_graph.specs.declared.TheConstants.{NAMES}
use Rattle.md_graph6.specs.Bits.{body_length}
use Rattle.md_graph6.specs.Size.{size_text}
use Rattle.md_graph6.proofs.SizeLemmas.{size_text-one, size_text-four}
use Rattle.md_graph.proofs.Limits.{NAMES-lt}

pub length-size_short : (n : ℕ) → n ≤ 62 → length (size_text n) ≡ 1
length-size_short n few = ap length (size_text-one n few)

pub length-size_long : (n : ℕ) → 62 < n → n ≤ NAMES → length (size_text n) ≡ 4
length-size_long n many few = ap length (size_text-four n many (omega (arith, NAMES-lt)))

pub body_fits : (n : ℕ) → n ≤ NAMES → body_length n < 4294967296
body_fits n few =
    let product : n * (n - 1) ≤ 65536 * 65536 = mul-le n (n - 1) 65536 65536 (omega (arith, NAMES-lt)) (omega (arith, NAMES-lt)) in
    omega (arith, product)

pub length-size_below : (n : ℕ) → n ≤ NAMES → length (size_text n) ≤ 4
length-size_below n few =
    elim (cases_lt 62 n) [
      | inl many ↦ omega (arith, length-size_long n many few)
      | inr less ↦ omega (arith, length-size_short n less)
    ]

-- four bytes pushed one after the other
pub four_pushed : (s0 s1 s2 s3 s4 : List ℕ) (a b c d : ℕ) → s1 ≡ s0 ++ a ∷ [] → s2 ≡ s1 ++ b ∷ [] → s3 ≡ s2 ++ c ∷ [] → s4 ≡ s3 ++ d ∷ []
    → s4 ≡ s0 ++ a ∷ b ∷ c ∷ d ∷ []
four_pushed s0 s1 s2 s3 s4 a b c d e1 e2 e3 e4 = e4 ∙ rw (e3, e2, e1) (simp append_assoc)
