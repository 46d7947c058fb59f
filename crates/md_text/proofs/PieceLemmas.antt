-- Pieces of text, and bytes that are gathered in front of others.
use Rattle.std.specs.Prelude.{◌≡◌, ℕ, suc, ◌+◌, ◌/◌, ◌%◌, ◌^◌, ◌<◌, ◌≤◌, List, [], ◌∷◌, ◌++◌, length, take}
use Rattle.std.proofs.Common.{ap, sym, ◌∙◌, arith, length-append, append_assoc, get_or, set}
use Rattle.std.proofs.lemmas.List.{take-append-le, length-take, take_more_set, append-nil}
use Rattle.std.proofs.lemmas.Option.{slice_get-get_or}
use Rattle.std.specs.Option.{option_map_or}
use Rattle.md_text.specs.declared.piece.Piece.{Piece}
use Rattle.md_text.specs.Pieces.{piece_text, text_at, texts_at}
use Rattle.md_text.specs.Numbers.{decimal}
use Rattle.md_text.proofs.NumberLemmas.{decimal_digit, decimal_step, length-decimal-le}
use borrow.Rule.Slice.PartMut.{put_mid, post_of}

pub take-past : {X : Type 0} (xs ys : List X) (k : ℕ) → take (length xs + k) (xs ++ ys) ≡ xs ++ take k ys
take-past [] ys k = let e : 0 + k ≡ k = omega arith in ap (λ n. take n ys) e
take-past (x ∷ xs) ys k =
    let e : suc (length xs) + k ≡ suc (length xs + k) = omega arith in
    ap (λ n. take n (x ∷ (xs ++ ys))) e ∙ ap (λ zs. x ∷ zs) (take-past xs ys k)

pub put_text : (at used : ℕ) (k : ℕ) (chunk new bytes : List ℕ) → new ≡ bytes → length bytes ≡ 8 → used ≤ 8 → at + 8 ≤ length chunk
    → take (at + used) (put_mid at k chunk new) ≡ take at chunk ++ take used bytes
put_text at used k chunk new bytes e eight within room =
    let front : length (take at chunk) ≡ at = omega (arith, length-take at chunk) in
    ap (λ n. take (n + used) (put_mid at k chunk new)) (sym front)
    ∙ take-past (take at chunk) (new ++ post_of at k chunk) used
    ∙ ap (λ l. take at chunk ++ l) (ap (λ l. take used (l ++ post_of at k chunk)) e ∙ take-append-le used bytes (post_of at k chunk) (omega arith))

pub first_digit : (n : ℕ) (bytes : List ℕ) → n < 10 → length bytes ≡ 8 → take 1 (set bytes 0 (48 + n)) ≡ decimal n
first_digit n [] small eight = absurd (omega arith)
first_digit n (b ∷ bytes) small eight = sym (decimal_digit n small)

pub one_digit : (n : ℕ) → n < 10 → 1 ≡ length (decimal n)
one_digit n small = sym (ap length (decimal_digit n small))

pub next_digit : (n at : ℕ) (bytes : List ℕ) → 10 ≤ n → take at bytes ≡ decimal (n / 10) → at < length bytes → take (at + 1) (set bytes at (48 + n % 10)) ≡ decimal n
next_digit n at bytes large e within = take_more_set bytes at (48 + n % 10) within ∙ ap (λ l. l ++ (48 + n % 10) ∷ []) e ∙ sym (decimal_step n large)

pub next_count : (n at : ℕ) → 10 ≤ n → at ≡ length (decimal (n / 10)) → at + 1 ≡ length (decimal n)
next_count n at large e = ap (λ k. k + 1) e ∙ sym (ap length (decimal_step n large) ∙ length-append (decimal (n / 10)) ((48 + n % 10) ∷ []))

pub at_most_five : (n count : ℕ) → n < 10 ^ 5 → count ≡ length (decimal n) → count ≤ 5
at_most_five n count small e = let most = length-decimal-le 5 n (omega arith) small in omega arith

-- ---- the texts of pieces at indices

-- the text at an index is that of the piece which stands there
text_at_is : (pieces : List Piece) (i : ℕ) (piece : Piece) → piece ≡ get_or pieces i piece → i < length pieces → piece_text piece ≡ text_at pieces i
text_at_is pieces i piece is there = ap piece_text is ∙ sym (ap (λ o. option_map_or piece_text o []) (slice_get-get_or pieces i piece there))

-- one index more
pub texts_more : (pieces : List Piece) (first held started placed total xs rest : List ℕ) (i : ℕ) (piece : Piece) → held ++ texts_at pieces first xs ≡ total → xs ≡ i ∷ rest
    → started ≡ held ++ first → placed ≡ started ++ piece_text piece → piece ≡ get_or pieces i piece → i < length pieces → placed ++ texts_at pieces first rest ≡ total
unfolding texts_at
texts_more pieces first held started placed total xs rest i piece before cut one two is there =
    ap (λ l. l ++ texts_at pieces first rest) (two ∙ ap (λ l. l ++ piece_text piece) one ∙ append_assoc held first (piece_text piece) ∙ ap (λ l. held ++ (first ++ l)) (text_at_is pieces i piece is there))
    ∙ append_assoc held (first ++ text_at pieces i) (texts_at pieces first rest)
    ∙ ap (λ l. held ++ l) (sym (ap (texts_at pieces first) cut)) ∙ before

-- no index more
pub texts_end : (pieces : List Piece) (first held total xs : List ℕ) → held ++ texts_at pieces first xs ≡ total → xs ≡ [] → held ≡ total
unfolding texts_at
texts_end pieces first held total xs before e = sym (append-nil held) ∙ ap (λ l. held ++ l) (sym (ap (texts_at pieces first) e)) ∙ before
