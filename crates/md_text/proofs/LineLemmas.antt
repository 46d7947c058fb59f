-- The laws of lines.
use Rattle.std.proofs.Common.{◌≡◌, ◌≢◌, ℕ, suc, ◌+◌, ◌-◌, ◌<◌, ◌≤◌, ◌==◌, ◌⊎◌, min, true, false, cond, List, [], ◌∷◌, ◌++◌, length, get_or, take, drop, map, refl, sym, ap, ◌∙◌, inl, inr, ⊎_elim, subst, arith, length-append}
use Rattle.std.specs.List.{All, onto_first, position_or_len, before_first, after_first}
use Rattle.std.proofs.lemmas.Bool.{ne_eqb, eqb-true, eqb-false, cases_eq, cases_lt}
use Rattle.std.proofs.lemmas.Grind.{common_steps}
use Rattle.std.proofs.lemmas.List.{append_assoc, append-nil, append_cancel_right, length-take, get_or-take, take_all, drop_all, take_rest, drop_min}
use Rattle.std.proofs.lemmas.List.Elements.{All-nil, All-cons, All-head, All-tail}
use Rattle.std.proofs.lemmas.List.Sums.{fails_before_first, passes_at_first, split_at_first, position_or_len_is}
use Rattle.std.specs.Simd.Lanes.{mask_l}
use Rattle.std.proofs.lemmas.Simd.{leading_from_mask_l, trailing_mask_l, run_in_chunk_fails}
use lib.Count.{count_trailing_zeros}
use Rattle.md_text.proofs.ListLemmas.{All-onto_first, All-front, All-behind}
use Rattle.md_text.specs.Lines.{lines, ended, LacksFeed, IsCut, is_feed, without_return}

abbrev IsOther : ℕ → Type 0
IsOther byte = byte ≢ 10

pub lines-nil : lines [] ≡ []
unfolding lines
lines-nil = refl

-- an empty text has no line
pub no_lines : (text : List ℕ) → (length text == 0) ≡ true → lines text ≡ []
no_lines [] empty = lines-nil
no_lines (byte ∷ text) empty = absurd (let e = eqb-true (suc (length text)) 0 empty in omega arith)

-- a byte 10 ends an empty line
pub lines-feed : (rest : List ℕ) → lines (10 ∷ rest) ≡ [] ∷ lines rest
unfolding lines
lines-feed rest = refl

-- another byte goes onto the first line
pub lines-other : (byte : ℕ) (rest : List ℕ) → byte ≢ 10 → lines (byte ∷ rest) ≡ onto_first byte (lines rest)
unfolding lines
lines-other byte rest other =
    ap (λ b. cond b ([] ∷ lines rest) (onto_first byte (lines rest))) (ne_eqb byte 10 other)

pub lines-append : (line rest : List ℕ) → LacksFeed line → lines (line ++ 10 ∷ rest) ≡ line ∷ lines rest
lines-append [] rest lacks = lines-feed rest
lines-append (byte ∷ line) rest lacks =
    lines-other byte (line ++ 10 ∷ rest) (All-head IsOther byte line lacks) ∙ ap (onto_first byte) (lines-append line rest (All-tail IsOther byte line lacks))

pub lines-last : (line : List ℕ) → LacksFeed line → 0 < length line → lines line ≡ line ∷ []
lines-last [] lacks some = absurd (omega arith)
lines-last (byte ∷ []) lacks some =
    lines-other byte [] (All-head IsOther byte [] lacks) ∙ ap (onto_first byte) lines-nil
lines-last (byte ∷ next ∷ line) lacks some =
    lines-other byte (next ∷ line) (All-head IsOther byte (next ∷ line) lacks) ∙ ap (onto_first byte) (lines-last (next ∷ line) (All-tail IsOther byte (next ∷ line) lacks) (omega arith))

pub ended-nil : ended [] ≡ []
unfolding ended
ended-nil = refl

pub ended-cons : (line : List ℕ) (more : List (List ℕ)) → ended (line ∷ more) ≡ (line ++ 10 ∷ []) ++ ended more
unfolding ended
ended-cons line more = refl

pub lines-ended_append : (all : List (List ℕ)) (rest : List ℕ) → All LacksFeed all → lines (ended all ++ rest) ≡ all ++ lines rest
lines-ended_append [] rest lacks = ap (λ (front : List ℕ). lines (front ++ rest)) ended-nil
lines-ended_append (line ∷ more) rest lacks =
    ap (λ (front : List ℕ). lines (front ++ rest)) (ended-cons line more) ∙ ap lines (simp append_assoc)
    ∙ lines-append line (ended more ++ rest) (All-head LacksFeed line more lacks)
    ∙ ap (λ (tail : List (List ℕ)). line ∷ tail) (lines-ended_append more rest (All-tail LacksFeed line more lacks))

pub lines-ended : (all : List (List ℕ)) → All LacksFeed all → lines (ended all) ≡ all
lines-ended all lacks =
    ap lines (sym (append-nil (ended all))) ∙ lines-ended_append all [] lacks ∙ ap (λ (tail : List (List ℕ)). all ++ tail) lines-nil ∙ append-nil all

-- the lines and the text agree up to the last end of line
abbrev Agree : List ℕ → List (List ℕ) → Type 0
Agree text all = (ended all ≡ text) ⊎ (ended all ≡ text ++ 10 ∷ [])

ended-onto_first : (byte : ℕ) (line : List ℕ) (more : List (List ℕ)) → ended (onto_first byte (line ∷ more)) ≡ byte ∷ ended (line ∷ more)
ended-onto_first byte line more = ended-cons (byte ∷ line) more ∙ ap (λ (tail : List ℕ). byte ∷ tail) (sym (ended-cons line more))

cut_feed : (byte : ℕ) (rest : List ℕ) (all : List (List ℕ)) → byte ≡ 10 → Agree rest all → Agree (byte ∷ rest) ([] ∷ all)
cut_feed byte rest all is (inl same) = inl (ended-cons [] all ∙ cc)
cut_feed byte rest all is (inr same) = inr (ended-cons [] all ∙ cc)

cut_onto : (byte : ℕ) (rest : List ℕ) (all : List (List ℕ)) → Agree rest all → Agree (byte ∷ rest) (onto_first byte all)
cut_onto byte [] [] cut = inr (ended-cons (byte ∷ []) [] ∙ ap (λ (tail : List ℕ). byte ∷ 10 ∷ tail) ended-nil)
cut_onto byte (next ∷ rest) [] (inl same) = absurd (let e = sym ended-nil ∙ same in cc)
cut_onto byte (next ∷ rest) [] (inr same) = absurd (let e = sym ended-nil ∙ same in cc)
cut_onto byte rest (line ∷ more) (inl same) = inl (ended-onto_first byte line more ∙ ap (λ (tail : List ℕ). byte ∷ tail) same)
cut_onto byte rest (line ∷ more) (inr same) = inr (ended-onto_first byte line more ∙ ap (λ (tail : List ℕ). byte ∷ tail) same)

abbrev LackAndAgree : List ℕ → List (List ℕ) → Type 0
LackAndAgree text all = All LacksFeed all × Agree text all

lines_agree : (text : List ℕ) → All LacksFeed (lines text) × Agree text (lines text)
lines_agree [] = subst (LackAndAgree []) (sym lines-nil) (All-nil LacksFeed, inl ended-nil)
lines_agree (byte ∷ rest) =
    let so_far = lines_agree rest in
    ⊎_elim
    (λ (is : byte ≡ 10). subst (LackAndAgree (byte ∷ rest)) (sym (ap (λ (b : ℕ). lines (b ∷ rest)) is ∙ lines-feed rest)) (All-cons LacksFeed [] (lines rest) (All-nil IsOther) so_far.0, cut_feed byte rest (lines rest) is so_far.1))
    (λ (other : byte ≢ 10). subst (LackAndAgree (byte ∷ rest)) (sym (lines-other byte rest other)) (All-onto_first IsOther byte (lines rest) other so_far.0, cut_onto byte rest (lines rest) so_far.1))
    (cases_eq byte 10)

pub ended-append : (xs ys : List (List ℕ)) → ended (xs ++ ys) ≡ ended xs ++ ended ys
ended-append [] ys = ap (λ (front : List ℕ). front ++ ended ys) (sym ended-nil)
ended-append (line ∷ more) ys =
    ended-cons line (more ++ ys) ∙ ap (λ (tail : List ℕ). (line ++ 10 ∷ []) ++ tail) (ended-append more ys)
    ∙ sym (append_assoc (line ++ 10 ∷ []) (ended more) (ended ys)) ∙ ap (λ (front : List ℕ). front ++ ended ys) (sym (ended-cons line more))

ended-last : (before : List (List ℕ)) (last : List ℕ) → ended (before ++ last ∷ []) ≡ (ended before ++ last) ++ 10 ∷ []
ended-last before last =
    ended-append before (last ∷ []) ∙ ap (λ (tail : List ℕ). ended before ++ tail) (ended-cons last [] ∙ ap (λ (tail : List ℕ). (last ++ 10 ∷ []) ++ tail) ended-nil ∙ append-nil (last ++ 10 ∷ []))
    ∙ sym (append_assoc (ended before) last (10 ∷ []))

-- the text in front of the byte 10 that ends the last line
text_before_last : (text : List ℕ) (before : List (List ℕ)) (last : List ℕ) → ended (before ++ last ∷ []) ≡ text ++ 10 ∷ [] → text ≡ ended before ++ last
text_before_last text before last whole = append_cancel_right text (ended before ++ last) (10 ∷ []) (sym whole ∙ ended-last before last)

longer : (before : List (List ℕ)) (last : List ℕ) → before ≡ before ++ last ∷ [] → ⊥
longer before last e = let counted : length before ≡ length before + 1 = ap length e ∙ length-append before (last ∷ []) in omega arith

-- a last line that lacks its end isn't empty
open_line : (text : List ℕ) → ended (lines text) ≡ text ++ 10 ∷ [] → (before : List (List ℕ)) → lines text ≢ before ++ [] ∷ []
open_line text whole before is =
    let lacks : All LacksFeed (before ++ [] ∷ []) = subst (All LacksFeed) is (lines_agree text).0 in
    let shorter : text ≡ ended before = text_before_last text before [] (sym (ap ended is) ∙ whole) ∙ append-nil (ended before) in
    longer before [] (sym (ap lines shorter ∙ lines-ended before (All-front LacksFeed before ([] ∷ []) lacks)) ∙ is)

lines_are_a_cut : (text : List ℕ) → IsCut text (lines text)
lines_are_a_cut text = record {
  no_feed = (lines_agree text).0;
  whole = elim (lines_agree text).1 [ inl same ↦ inl same | inr same ↦ inr (same, open_line text same) ];
}

-- a list of lines is empty, or has a last one
data Ending (cut : List (List ℕ)) : Type 0 where
  nothing : cut ≡ [] → Ending cut
  ending : (before : List (List ℕ)) (last : List ℕ) → cut ≡ before ++ last ∷ [] → Ending cut

ending_after : (line : List ℕ) (more : List (List ℕ)) → Ending more → Ending (line ∷ more)
ending_after line more (nothing e) = ending [] line (ap (λ (tail : List (List ℕ)). line ∷ tail) e)
ending_after line more (ending before last e) = ending (line ∷ before) last (ap (λ (tail : List (List ℕ)). line ∷ tail) e)

ending_of : (cut : List (List ℕ)) → Ending cut
ending_of [] = nothing refl
ending_of (line ∷ more) = ending_after line more (ending_of more)

open_cut : (text : List ℕ) (cut : List (List ℕ)) → All LacksFeed cut → ended cut ≡ text ++ 10 ∷ [] → ((before : List (List ℕ)) → cut ≢ before ++ [] ∷ []) → Ending cut → cut ≡ lines text
open_cut text cut lacks whole full (nothing e) = absurd (no_bytes text (sym whole ∙ ap ended e ∙ ended-nil)) where
  no_bytes : (text : List ℕ) → text ++ 10 ∷ [] ≡ [] → ⊥
  no_bytes text e = let counted : length text + 1 ≡ 0 = sym (length-append text (10 ∷ [])) ∙ ap length e in omega arith
open_cut text cut lacks whole full (ending before [] e) = absurd (full before e)
open_cut text cut lacks whole full (ending before (byte ∷ last) e) =
    let all : All LacksFeed (before ++ (byte ∷ last) ∷ []) = subst (All LacksFeed) e lacks in
    let is : text ≡ ended before ++ byte ∷ last = text_before_last text before (byte ∷ last) (sym (ap ended e) ∙ whole) in
    e ∙ sym (ap lines is ∙ lines-ended_append before (byte ∷ last) (All-front LacksFeed before ((byte ∷ last) ∷ []) all)
    ∙ ap (λ (tail : List (List ℕ)). before ++ tail) (lines-last (byte ∷ last) (All-head LacksFeed (byte ∷ last) [] (All-behind LacksFeed before ((byte ∷ last) ∷ []) all)) (omega arith)))

one_cut : (text : List ℕ) (cut : List (List ℕ)) → IsCut text cut → cut ≡ lines text
one_cut text cut is = elim is.whole [
  | inl same ↦ sym (ap lines (sym same) ∙ lines-ended cut is.no_feed)
  | inr same ↦ open_cut text cut is.no_feed same.0 same.1 (ending_of cut)
]

pub lines_are_the_cut_lem : (text : List ℕ) → IsCut text (lines text) × ((cut : List (List ℕ)) → IsCut text cut → cut ≡ lines text)
lines_are_the_cut_lem text = (lines_are_a_cut text, one_cut text)

pub without_return-stays : (line : List ℕ) → All (λ byte. byte ≢ 13) line → without_return line ≡ line
without_return-stays line lacks = grind (arith, common_steps)

-- no byte before the first 10 is one
pub lacks_before : (text : List ℕ) → LacksFeed (before_first is_feed text)
lacks_before text k d below feed =
    let n = position_or_len is_feed text in
    let short : k < n = omega (arith, length-take n text) in
    eqb-false (get_or text k d) 10 (fails_before_first is_feed text k d short) (sym (get_or-take n text k d short) ∙ feed)

-- the first line, and those of the rest
pub lines-first : (text : List ℕ) → 0 < length text → lines text ≡ before_first is_feed text ∷ lines (after_first is_feed text)
lines-first text some = ⊎_elim
    (λ (found : position_or_len is_feed text < length text).
    let feed = eqb-true _ 10 (passes_at_first is_feed text 0 found) in
    ap lines (split_at_first is_feed text 0 found)
    ∙ ap (λ (byte : ℕ). lines (before_first is_feed text ++ byte ∷ after_first is_feed text)) feed
    ∙ lines-append (before_first is_feed text) (after_first is_feed text) (lacks_before text))
    (λ (past : length text ≤ position_or_len is_feed text).
    let whole : before_first is_feed text ≡ text = take_all (position_or_len is_feed text) text past in
    let nothing : after_first is_feed text ≡ [] = drop_all (position_or_len is_feed text + 1) text (omega arith) in
    lines-last text (subst LacksFeed whole (lacks_before text)) some
    ∙ ap (λ (line : List ℕ). line ∷ []) (sym whole)
    ∙ ap (λ (tail : List (List ℕ)). before_first is_feed text ∷ tail) (sym (ap lines nothing ∙ lines-nil)))
    (cases_lt (position_or_len is_feed text) (length text))

-- the first line and the rest, by the place where the line ends
pub first_feed_is : (text : List ℕ) (end : ℕ) → end ≤ length text → ((k : ℕ) → k < end → is_feed (get_or text k 0) ≡ false) → (end < length text → is_feed (get_or text end 0) ≡ true) → position_or_len is_feed text ≡ end
first_feed_is text end within before found = position_or_len_is is_feed text end 0 within before found

-- a step of a reader: the line and the rest, by what stands before and after the first byte 10
pub line_cut : (text line rest : List ℕ) → 0 < length text → line ≡ before_first is_feed text → rest ≡ after_first is_feed text → lines text ≡ line ∷ lines rest
line_cut text line rest some is_line is_rest = let first = lines-first text some in cc

pub line_lacks : (text line : List ℕ) → line ≡ before_first is_feed text → LacksFeed line
line_lacks text line is_line = subst LacksFeed (sym is_line) (lacks_before text)

pub rest_after : (text : List ℕ) (end next : ℕ) → position_or_len is_feed text ≡ end → next ≡ min (end + 1) (length text) → take (length text - next) (drop next text) ≡ after_first is_feed text
rest_after text end next first is =
    take_rest text next ∙ ap (λ (n : ℕ). drop n text) is ∙ drop_min (end + 1) text ∙ ap (λ (n : ℕ). drop (n + 1) text) (sym first)

-- the mask of the lanes that hold a byte 10: none is set, or the lowest is the first
pub no_feed_in_lanes : (lanes : List ℕ) (mask : ℕ) → length lanes ≡ 16 → mask ≡ mask_l (map is_feed lanes) → mask ≡ 0 → 16 ≡ position_or_len is_feed lanes
no_feed_in_lanes lanes mask long is none = sym (leading_from_mask_l is_feed lanes (sym is ∙ none) ∙ long)

pub first_feed_in_lanes : (lanes : List ℕ) (mask : ℕ) → length lanes ≡ 16 → mask ≡ mask_l (map is_feed lanes) → (mask ≡ 0 → ⊥) → count_trailing_zeros 64 mask ≡ position_or_len is_feed lanes
first_feed_in_lanes lanes mask long is some =
    ap (count_trailing_zeros 64) is ∙ trailing_mask_l is_feed 64 lanes (omega arith) (⊎_elim (λ (above : 0 < mask_l (map is_feed lanes)). above) (λ (none : mask_l (map is_feed lanes) ≤ 0). absurd (some (is ∙ omega arith))) (cases_lt 0 (mask_l (map is_feed lanes))))

-- what a step of 16 bytes finds
pub fails_in_lanes : (text : List ℕ) (from before : ℕ) → from + 16 ≤ length text → before ≡ position_or_len is_feed (take 16 (drop from text)) → ((k : ℕ) → k < from → is_feed (get_or text k 0) ≡ false) → (k : ℕ) → k < from + before → is_feed (get_or text k 0) ≡ false
fails_in_lanes text from before room counted so_far k below = ⊎_elim
    (λ (less : k < from). so_far k less)
    (λ (more : from ≤ k). run_in_chunk_fails is_feed text from 16 before 0 room counted k more below)
    (cases_lt k from)
