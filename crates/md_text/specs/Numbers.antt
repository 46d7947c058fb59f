-- Numbers in decimal digits.
use Rattle.std.specs.Prelude.{◌≡◌, ℕ, ◌+◌, ◌-◌, ◌*◌, ◌<◌, zero, suc, Bool, ◌&&◌, List, [], ◌∷◌, length, map, fold, nat_lt, nat_le, if◌then◌else◌, Option, Some, None, slice_index}
use Rattle.std.specs.Char.{is_ascii_digit}
use Rattle.std.specs.List.{AllPass, list_all}
use Rattle.std.specs.Int.Digits.{digits_of}
use Rattle.md_text.specs.Fields.{fields}
use Rattle.md_text.specs.declared.digits.TheConstants.{DIGITS}

-- the number that decimal digits write, the highest digit first (positional notation)
unfoldable pub value : List ℕ → ℕ
value digits = fold (λ number digit. number * 10 + (digit - 48)) 0 digits

-- whether the field is 1 to DIGITS decimal digits
abbrev pub is_number : List ℕ → Bool
is_number field =
    nat_lt 0 (length field) && (nat_le (length field) DIGITS && list_all is_ascii_digit field)

-- the number that a field writes, if it is one; leading zeros are allowed (DIMACS)
abbrev pub number_of : List ℕ → Option ℕ
number_of field = if is_number field then Some (value field) else None

-- the first field of a line, the number that it writes, and the rest of the line behind it
pub record BeginsWithNumber (line : List ℕ) (number : Option ℕ) (rest : List ℕ) : Type 0 where
  pub field : List ℕ
  pub is_first : fields line ≡ field ∷ fields rest
  pub is_number : number ≡ number_of field

-- the two fields of a line, and the numbers that they write
pub record AreTwoNumbers (line : List ℕ) (a b : Option ℕ) : Type 0 where
  pub first : List ℕ
  pub second : List ℕ
  pub are_fields : fields line ≡ first ∷ second ∷ []
  pub is_first : a ≡ number_of first
  pub is_second : b ≡ number_of second

-- the shortest decimal digits that write n (positional notation)
unfoldable pub decimal : ℕ → List ℕ
decimal zero = 48 ∷ []
decimal (suc n) = map (λ digit. 48 + digit) (digits_of 10 (suc n))

-- decimal digits without a leading zero, or the digit 0 alone
pub record IsCanonical (digits : List ℕ) : Type 0 where
  pub some_digit : 0 < length digits
  pub all_digits : AllPass is_ascii_digit digits
  pub no_leading_zero : slice_index digits 0 ≡ 48 → length digits ≡ 1
