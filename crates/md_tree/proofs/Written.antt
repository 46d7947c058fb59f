-- One item more of a text.
use Rattle.std.proofs.Common.{◌≡◌, ℕ, suc, ◌+◌, ◌<◌, ◌≤◌, List, [], ◌∷◌, ◌++◌, length, drop, get_or, append_assoc, refl, sym, ◌∙◌, ap, arith}
use Rattle.std.proofs.Math.Seq.{drop-cons}
use Rattle.std.specs.Option.{option_map_or}
use Rattle.std.proofs.lemmas.Option.{slice_get-get_or}
use Rattle.std.proofs.lemmas.List.Elements.{All-cons, All-nil}
use Rattle.md_text.specs.Numbers.{decimal}
use Rattle.md_text.specs.declared.piece.Piece.{Piece}
use Rattle.md_text.specs.Pieces.{AreNumerals, piece_text, text_at, texts_at}
use Rattle.md_tree.specs.Spellings.{PairRules}
use Rattle.md_text.specs.Fronts.{BeginsWith}
use Rattle.md_tree.specs.Positions.{AreSeconds, IsSecond}
use Rattle.md_tree.specs.TreeTexts.{pairs_text_by}

-- a pair behind gathered bytes, and then those that were gathered after it
pub run_written : {P : Type 0} (r : PairRules P) (pairs : List P) (place next : ℕ) (d : P) (text held new_text one more total : List ℕ) → place < length pairs →
    (text ++ held) ++ pairs_text_by r 44 (drop place pairs) ≡ total →
    new_text ++ one ≡ (text ++ held) ++ 44 ∷ (decimal (r.first (get_or pairs place d)) ++ r.between ∷ decimal (r.second (get_or pairs place d))) →
    more ++ pairs_text_by r 44 (drop next pairs) ≡ one ++ pairs_text_by r 44 (drop (place + 1) pairs) → (new_text ++ more) ++ pairs_text_by r 44 (drop next pairs) ≡ total
run_written r pairs place next d text held new_text one more total within before pair run =
    let p = get_or pairs place d in
    let rest = pairs_text_by r 44 (drop (place + 1) pairs) in
    let after : suc place ≡ place + 1 = omega arith in
    let cut : drop place pairs ≡ p ∷ drop (place + 1) pairs = drop-cons pairs place d within ∙ ap (λ k. p ∷ drop k pairs) after in
    append_assoc new_text more (pairs_text_by r 44 (drop next pairs)) ∙ ap (λ z. new_text ++ z) run ∙ sym (append_assoc new_text one rest) ∙ ap (λ z. z ++ rest) pair
    ∙ append_assoc (text ++ held) (44 ∷ (decimal (r.first p) ++ r.between ∷ decimal (r.second p))) rest
    ∙ ap (λ z. (text ++ held) ++ z) (ap (λ z. 44 ∷ z) (append_assoc (decimal (r.first p)) (r.between ∷ decimal (r.second p)) rest) ∙ sym (ap (pairs_text_by r 44) cut)) ∙ before

-- what is appended to a text that begins with another one
pub begins_on : {a b c : List ℕ} → BeginsWith b a → BeginsWith c b → BeginsWith c a
begins_on {a} {b} {c} first second = record {
  rest = first.rest ++ second.rest;
  whole = second.whole ∙ ap (λ l. l ++ second.rest) first.whole ∙ append_assoc a first.rest second.rest;
}

pub begins_more : {a b c : List ℕ} → BeginsWith b a → (more : List ℕ) → c ≡ b ++ more → BeginsWith c a
begins_more first more e = begins_on first (record { rest = more; whole = e })

-- a position is spelled by the piece at its index
pub second_is : {P : Type 0} (r : PairRules P) (pieces : List Piece) (first : Piece) (low second : ℕ) (pair : P) → AreNumerals pieces → piece_text first ≡ 44 ∷ (decimal low ++ r.between ∷ []) →
    (r.first pair ≡ low) × (second ≡ r.second pair) × (second < length pieces) → IsSecond r pieces first pair second
second_is r pieces first low second pair are start is = record {
  there = is.2;
  text =
      (λ i. start i ++ option_map_or piece_text (slice_get-get_or pieces second first is.2 i) [])
      ∙ ap (λ l. (44 ∷ (decimal low ++ r.between ∷ [])) ++ l) (are.text second first is.2)
      ∙ ap (λ l. 44 ∷ l) (append_assoc (decimal low) (r.between ∷ []) (decimal second))
      ∙ (λ i. 44 ∷ (decimal (sym is.0 i) ++ r.between ∷ decimal (is.1 i)));
}

module _ {P : Type 0} (r : PairRules P) (pieces : List Piece) (first : Piece) (pairs : List P) (d : P) where
  -- an index more, and the pairs behind it
  second_written : (second place next : ℕ) (indices : List ℕ) (others : List ℕ) → place < length pairs → next ≡ place + 1 → IsSecond r pieces first (get_or pairs place d) second →
      texts_at pieces (piece_text first) indices ++ others ≡ pairs_text_by r 44 (drop next pairs) →
      texts_at pieces (piece_text first) (second ∷ indices) ++ others ≡ pairs_text_by r 44 (drop place pairs)
  unfolding texts_at
  second_written second place next indices others within follows is rest =
      let p = get_or pairs place d in
      let after : suc place ≡ next = omega arith in
      append_assoc (piece_text first ++ text_at pieces second) (texts_at pieces (piece_text first) indices) others
      ∙ (λ i. is.text i ++ rest i)
      ∙ ap (λ z. 44 ∷ z) (append_assoc (decimal (r.first p)) (r.between ∷ decimal (r.second p)) (pairs_text_by r 44 (drop next pairs)))
      ∙ sym (ap (pairs_text_by r 44) (drop-cons pairs place d within ∙ ap (λ k. p ∷ drop k pairs) after))

  abbrev IsThere : ℕ → Type 0
  IsThere k = k < length pieces

  none_written : (others : List ℕ) → texts_at pieces (piece_text first) [] ++ others ≡ others
  unfolding texts_at
  none_written others = refl

  -- four pairs written so
  pub four_written : (x y z w place : ℕ) → place + 4 ≤ length pairs →
      IsSecond r pieces first (get_or pairs place d) x → IsSecond r pieces first (get_or pairs (place + 1) d) y →
      IsSecond r pieces first (get_or pairs (place + 2) d) z → IsSecond r pieces first (get_or pairs (place + 3) d) w →
      AreSeconds r pieces first (x ∷ y ∷ z ∷ w ∷ []) (drop place pairs) (drop (place + 4) pairs)
  four_written x y z w place within one two three four = record {
    count = refl;
    there = All-cons IsThere x (y ∷ z ∷ w ∷ []) one.there (All-cons IsThere y (z ∷ w ∷ []) two.there (All-cons IsThere z (w ∷ []) three.there (All-cons IsThere w [] four.there (All-nil IsThere))));
    text =
        second_written x place (place + 1) (y ∷ z ∷ w ∷ []) _ (omega arith) (omega arith) one
        (second_written y (place + 1) (place + 2) (z ∷ w ∷ []) _ (omega arith) (omega arith) two
        (second_written z (place + 2) (place + 3) (w ∷ []) _ (omega arith) (omega arith) three
        (second_written w (place + 3) (place + 4) [] _ (omega arith) (omega arith) four (none_written _))));
  }
