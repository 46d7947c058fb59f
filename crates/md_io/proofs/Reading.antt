-- A read into room at the end of a list.
use Rattle.std.proofs.Common.{◌≡◌, ℕ, ◌+◌, ◌≤◌, List, ◌++◌, length, take, drop, sym, ap, ◌∙◌, arith, take_all}
use Rattle.std.proofs.lemmas.List.{take-take, take-append-le}
use Rattle.std.proofs.lemmas.List.{drop-take}
use Rattle.std.proofs.KnownBytes.{starts_with_rest}

-- the list got room, the read wrote behind its end, and the room that is left was cut off
pub read_behind : (old grown buffer now pad : List ℕ) (filled room n : ℕ) → filled ≡ length old → filled ≤ room
    → grown ≡ take room old ++ pad → take filled buffer ≡ take filled grown → now ≡ take (filled + n) buffer
    → (now ≡ old ++ drop (length old) now) × (drop (length old) now ≡ take n (drop filled buffer))
read_behind old grown buffer now pad filled room n long within grows front cut =
    let whole : take room old ≡ old = take_all room old (omega arith) in
    let kept : take filled grown ≡ old =
    ap (take filled) (grows ∙ ap (λ xs. xs ++ pad) whole) ∙ take-append-le filled old pad (omega arith) ∙ take_all filled old (omega arith) in
    let starts : take (length old) now ≡ old =
    ap (λ k. take k now) (sym long) ∙ ap (take filled) cut ∙ take-take filled (filled + n) buffer (omega arith) ∙ front ∙ kept in
    (starts_with_rest now old starts, ap (λ k. drop k now) (sym long) ∙ ap (drop filled) cut ∙ drop-take filled n buffer)
