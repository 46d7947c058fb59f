-- What a text begins with: another text, a byte, or a number in decimal digits.
-- Source: prefixes of words, as in any textbook of formal languages.
use Rattle.std.specs.Prelude.{◌≡◌, ◌≢◌, ◌<◌, ◌≤◌, ℕ, List, [], ◌∷◌, ◌++◌, ⊤}
use Rattle.md_text.specs.Numbers.{decimal}

-- the text begins with the front
pub record BeginsWith (text front : List ℕ) : Type 0 where
  pub rest : List ℕ
  pub whole : text ≡ front ++ rest

-- the text does not begin with the byte
abbrev pub LacksFirst : ℕ → List ℕ → Type 0
LacksFirst b text = (x : List ℕ) → text ≢ b ∷ x

-- the byte is one of `0` to `9`
abbrev pub IsDigit : ℕ → Type 0
IsDigit b = (48 ≤ b) × (b ≤ 57)

-- the text is empty or begins with a byte that is no digit
abbrev pub IsPastDigits : List ℕ → Type 0
IsPastDigits [] = ⊤
IsPastDigits (b ∷ r) = ¬ (IsDigit b)

-- a number of at most five digits stands before the tail, and no digit at the tail's beginning
abbrev pub IsNumberSplit : List ℕ → ℕ → List ℕ → Type 0
IsNumberSplit text n tail = (text ≡ decimal n ++ tail) × IsPastDigits tail × (n < 100000)

-- no number of at most five digits stands before what is no digit
abbrev pub LacksNumber : List ℕ → Type 0
LacksNumber text = (n : ℕ) (tail : List ℕ) → n < 100000 → IsPastDigits tail → text ≢ decimal n ++ tail
