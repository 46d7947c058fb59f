-- The places of vertices as pieces, one index after the other.
use Rattle.std.specs.Prelude.{◌≡◌, ℕ, ◌+◌, ◌-◌, ◌<◌, ◌≤◌, List, [], ◌∷◌, ◌++◌, length, replicate, get_or, take}
use Rattle.std.proofs.Common.{subst, ap, sym, ◌∙◌, arith, append_assoc, length-append}
use Rattle.std.proofs.Math.Seq.{get_or-append_right, take-append_seam}
use Rattle.std.proofs.lemmas.List.{length-take-le, take_more, get_or_append_left, get_or-replicate, length-replicate, replicate-append-replicate}
use Rattle.md_graph.specs.declared.TheConstants.{NAMES}
use Rattle.md_graph.specs.Sets.{Has}
use Rattle.md_graph.specs.PlainGraph.{PlainGraph}
use Rattle.md_graph.proofs.NameLemmas.{walk_more}
use Rattle.md_text.specs.Numbers.{decimal}
use Rattle.md_text.specs.declared.piece.Piece.{Piece}
use Rattle.md_text.specs.Pieces.{piece_text}
use Rattle.md_dimacs.specs.Places.{IsPlaceOf}
use Rattle.md_dimacs.proofs.AscendingLemmas.{NextUp, position_is}

-- a piece that stands behind the old ones
new_piece : (old : List Piece) (k w : ℕ) (piece other : Piece) → length old ≤ w → w < length (old ++ replicate k piece) → get_or (old ++ replicate k piece) w other ≡ piece
new_piece old k w piece other from below =
    let count = length-append old (replicate k piece) in
    let copies = length-replicate k piece in
    get_or-append_right old (replicate k piece) w other from ∙ get_or-replicate k (w - length old) piece other (omega arith)

pub one_more_copy : {X : Type 0} (k : ℕ) (x : X) (xs ys new : List X) → ys ≡ xs ++ replicate k x → new ≡ ys ++ x ∷ [] → new ≡ xs ++ replicate (k + 1) x
one_more_copy k x xs ys new e pushed =
    pushed ∙ ap (λ l. l ++ x ∷ []) e ∙ append_assoc xs (replicate k x) (x ∷ []) ∙ ap (λ l. xs ++ l) (replicate-append-replicate k 1 x)

-- the old pieces stay
old_place : (g : PlainGraph) (old more : List Piece) (w : ℕ) → IsPlaceOf g old w → IsPlaceOf g (old ++ more) w
old_place g old more w is = record {
  there = let there = is.there in omega (arith, length-append old more);
  text = λ other. ap piece_text (get_or_append_left old more other w is.there) ∙ is.text other;
  short = λ other. let same = ap (λ p. length (piece_text p)) (get_or_append_left old more other w is.there) in let short = is.short other in omega arith;
}

-- where the old pieces hold the places of all vertices below them, so do the new ones
pub spelled_more : (g : PlainGraph) (old new : List Piece) (k low place v : ℕ) (rest : List ℕ) (piece : Piece) → NextUp g.vertices low place v rest → low ≡ length old
    → new ≡ old ++ replicate k piece → length new ≡ v + 1 → piece_text piece ≡ 32 ∷ (decimal (place + 1) ++ 10 ∷ []) → length (piece_text piece) ≤ 7
    → ((w : ℕ) → Has g.vertices w → w < low → IsPlaceOf g old w) → (w : ℕ) → Has g.vertices w → w < v + 1 → IsPlaceOf g new w
spelled_more g old new k low place v rest piece up is_low made count text short before =
    let from = up.item.above in
    let count_made = sym (ap length made) ∙ count in
    subst (λ l. (w : ℕ) → Has g.vertices w → w < v + 1 → IsPlaceOf g l w) (sym made)
    (walk_more g.vertices low NAMES v (IsPlaceOf g (old ++ replicate k piece)) up.item
    (λ w m below. old_place g old (replicate k piece) w (before w m below))
    (record {
      there = omega arith;
      text = λ other.
          ap piece_text (new_piece old k v piece other (omega arith) (omega arith)) ∙ text
          ∙ ap (λ p. 32 ∷ (decimal p ++ 10 ∷ [])) (position_is g v place up.placed);
      short = λ other.
          let same = ap (λ p. length (piece_text p)) (new_piece old k v piece other (omega arith) (omega arith)) in
          omega arith;
    }))

-- ---- a piece without its last byte

pub front_is : (i : ℕ) (bytes digits : List ℕ) (last : ℕ) → i < length bytes → take (i + 1) bytes ≡ digits ++ last ∷ [] → take i bytes ≡ digits
front_is i bytes digits last inside text =
    let more = take_more bytes i 0 inside in
    let front = length-take-le i bytes (omega arith) in
    let long : i + 1 ≡ length digits + 1 = sym (length-take-le (i + 1) bytes (omega arith)) ∙ ap length text ∙ length-append digits (last ∷ []) in
    sym (take-append_seam (take i bytes) (get_or bytes i 0 ∷ []))
    ∙ ap (λ n. take n (take i bytes ++ get_or bytes i 0 ∷ [])) (front ∙ omega arith)
    ∙ ap (take (length digits)) (sym more ∙ text)
    ∙ take-append_seam digits (last ∷ [])
