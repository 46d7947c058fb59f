-- The names that a list of texts has.
use Rattle.std.specs.Prelude.{ℕ, List, map, String, string_bytes}

-- the bytes of each text, in order. Source: a text is its bytes in UTF-8.
abbrev pub names : {A : Type 0} → List (String A) → List (List ℕ)
names texts = map (λ text. string_bytes text) texts
