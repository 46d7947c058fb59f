-- What holds of lines, fields and numbers: the statements of the laws of `src/laws.rt`.
use Rattle.std.specs.Prelude.{◌≡◌, ◌≢◌, ℕ, ◌+◌, ◌-◌, ◌*◌, ◌<◌, ◌≤◌, ◌/◌, ◌%◌, ◌^◌, true, List, [], ◌∷◌, ◌++◌, length, Some}
use Rattle.std.specs.List.{All, join_with_byte}
use Rattle.std.specs.Fmt.{decimal as displayed}
use Rattle.md_text.specs.declared.digits.TheConstants.{DIGITS}
use Rattle.md_text.specs.Lines.{lines, ended, LacksFeed, IsCut, without_return}
use Rattle.md_text.specs.Fields.{fields, is_blank, IsWord}
use Rattle.md_text.specs.Numbers.{value, number_of, decimal, IsCanonical}

-- a text without bytes has no lines
abbrev pub NoLines : Type 0
NoLines = lines [] ≡ []

-- what stands before the first byte 10 is the first line
abbrev pub LineThenRest : Type 0
LineThenRest =
    (line rest : List ℕ) → LacksFeed line → lines (line ++ 10 ∷ rest) ≡ line ∷ lines rest

-- some bytes without a byte 10 are one line
abbrev pub LastLine : Type 0
LastLine = (line : List ℕ) → LacksFeed line → 0 < length line → lines line ≡ line ∷ []

-- lines that hold no byte 10, each ended by one, are the lines of that text
abbrev pub LinesOfEnded : Type 0
LinesOfEnded = (all : List (List ℕ)) → All LacksFeed all → lines (ended all) ≡ all

-- whole lines, and then those of the rest
abbrev pub LinesOfEndedThenRest : Type 0
LinesOfEndedThenRest = (all : List (List ℕ)) (rest : List ℕ) → All LacksFeed all
    → lines (ended all ++ rest) ≡ all ++ lines rest

-- a text is cut into its lines, and into no others
abbrev pub LinesAreTheCut : Type 0
LinesAreTheCut = (text : List ℕ) → IsCut text (lines text)
    × ((cut : List (List ℕ)) → IsCut text cut → cut ≡ lines text)

-- one byte 13 at the end is taken off
abbrev pub ReturnTakenOff : Type 0
ReturnTakenOff = (line : List ℕ) → without_return (line ++ 13 ∷ []) ≡ line

-- a line with another last byte stays as it is
abbrev pub OtherEndStays : Type 0
OtherEndStays =
    (line : List ℕ) (last : ℕ) → last ≢ 13 → without_return (line ++ last ∷ []) ≡ line ++ last ∷ []

-- a line with no byte 13 stays as it is
abbrev pub LineWithoutReturnStays : Type 0
LineWithoutReturnStays =
    (line : List ℕ) → All (λ byte. byte ≢ 13) line → without_return line ≡ line

-- a line without bytes has no fields
abbrev pub NoFields : Type 0
NoFields = fields [] ≡ []

-- a blank before the fields is passed over
abbrev pub BlankThenFields : Type 0
BlankThenFields =
    (blank : ℕ) (rest : List ℕ) → is_blank blank ≡ true → fields (blank ∷ rest) ≡ fields rest

-- a word is one field
abbrev pub LastField : Type 0
LastField = (word : List ℕ) → IsWord word → fields word ≡ word ∷ []

-- a word and a blank are one field, and then come those of the rest
abbrev pub FieldThenRest : Type 0
FieldThenRest = (word : List ℕ) (blank : ℕ) (rest : List ℕ) → IsWord word → is_blank blank ≡ true
    → fields (word ++ blank ∷ rest) ≡ word ∷ fields rest

-- words with single spaces between them are the fields
abbrev pub FieldsOfJoined : Type 0
FieldsOfJoined =
    (words : List (List ℕ)) → All IsWord words → fields (join_with_byte 32 words) ≡ words

-- each field is a word
abbrev pub FieldsAreWords : Type 0
FieldsAreWords = (line : List ℕ) → All IsWord (fields line)

-- the digits of n are canonical, and write n
abbrev pub DecimalIsCanonical : Type 0
DecimalIsCanonical = (n : ℕ) → IsCanonical (decimal n) × (value (decimal n) ≡ n)

-- canonical digits are those of their value
abbrev pub DecimalOfValue : Type 0
DecimalOfValue = (digits : List ℕ) → IsCanonical digits → decimal (value digits) ≡ digits

-- two numbers have different digits
abbrev pub DecimalIsInjective : Type 0
DecimalIsInjective = (m n : ℕ) → decimal m ≡ decimal n → m ≡ n

-- the digits of n are a number's field, and n is that number
abbrev pub NumberOfDecimal : Type 0
NumberOfDecimal = (n : ℕ) → n < 10 ^ DIGITS → number_of (decimal n) ≡ Some n

-- a number below 10 ^ k has at most k digits
abbrev pub LengthOfDecimal : Type 0
LengthOfDecimal = (k n : ℕ) → 0 < k → n < 10 ^ k → length (decimal n) ≤ k

-- the digits of n are a word
abbrev pub DecimalIsWord : Type 0
DecimalIsWord = (n : ℕ) → IsWord (decimal n)

-- each byte of the digits of n is one of `0` to `9`
abbrev pub DecimalIsDigits : Type 0
DecimalIsDigits = (n : ℕ) → All (λ byte. (48 ≤ byte) × (byte ≤ 57)) (decimal n)

-- the digits of n are those of its tenth part and its last digit
abbrev pub DecimalByDigits : Type 0
DecimalByDigits = ((n : ℕ) → n < 10 → decimal n ≡ (48 + n) ∷ [])
    × ((n : ℕ) → 10 ≤ n → decimal n ≡ decimal (n / 10) ++ (48 + n % 10) ∷ [])

-- the value with one digit more
abbrev pub ValueByDigits : Type 0
ValueByDigits = (value [] ≡ 0) × ((digits : List ℕ) (digit : ℕ)
    → value (digits ++ digit ∷ []) ≡ value digits * 10 + (digit - 48))

-- `{n}` displays an unsigned number by these digits
abbrev pub DecimalIsDisplayed : Type 0
DecimalIsDisplayed = (n : ℕ) → n < 2 ^ 64 → displayed n ≡ decimal n
