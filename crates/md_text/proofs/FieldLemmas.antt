-- The laws of fields.
use Rattle.std.proofs.Common.{◌≡◌, ℕ, ◌+◌, ◌-◌, ◌<◌, ◌≤◌, zero, suc, true, false, cond, not, eqb, List, [], ◌∷◌, ◌++◌, length, get_or, take, drop, filter, refl, sym, ap, ◌∙◌, add-zero, ⊎_elim, subst, arith}
use Rattle.std.specs.List.{All, slice_split, join_with_byte}
use Rattle.std.proofs.lemmas.Bool.{cases_Bool, cases_lt, ne_eqb, cond_both, eqb-false, not-true, both_ways}
use Rattle.std.proofs.lemmas.List.{length-drop, length-take-le, take_rest, get_or-take, get_or-drop, take_all, drop_all, drop_more, take-append-drop}
use Rattle.std.proofs.lemmas.List.Elements.{All-nil, All-cons, All-head, All-tail, All-from_get_or}
use Rattle.std.proofs.lemmas.List.Splits.{slice_split_none, slice_split_at, slice_split-cons_yes, slice_split-cons_no}
use Rattle.md_text.proofs.ListLemmas.{All-onto_first}
use Rattle.md_text.specs.Fields.{fields, is_blank, has_byte, IsWord}

pub fields-nil : fields [] ≡ []
unfolding fields
fields-nil = refl

-- a part with a byte is kept
has_byte-some : (part : List ℕ) → 0 < length part → has_byte part ≡ true
has_byte-some part some = ap not (ne_eqb (length part) 0 (λ e. omega arith))

filter-some : (part : List ℕ) (parts : List (List ℕ)) → 0 < length part → filter has_byte (part ∷ parts) ≡ part ∷ filter has_byte parts
filter-some part parts some = ap (λ b. cond b (part ∷ filter has_byte parts) (filter has_byte parts)) (has_byte-some part some)

pub fields-blank : (blank : ℕ) (rest : List ℕ) → is_blank blank ≡ true → fields (blank ∷ rest) ≡ fields rest
unfolding fields
fields-blank blank rest is = ap (filter has_byte) (slice_split-cons_yes is_blank blank rest is)

pub fields-word : (word : List ℕ) → IsWord word → fields word ≡ word ∷ []
unfolding fields
fields-word word w = ap (filter has_byte) (slice_split_none is_blank word w.no_blank) ∙ filter-some word [] w.some_byte

pub fields-append : (word : List ℕ) (blank : ℕ) (rest : List ℕ) → IsWord word → is_blank blank ≡ true → fields (word ++ blank ∷ rest) ≡ word ∷ fields rest
unfolding fields
fields-append word blank rest w is =
    ap (filter has_byte) (slice_split_at is_blank word blank rest w.no_blank is) ∙ filter-some word (slice_split is_blank rest) w.some_byte

pub fields-joined : (words : List (List ℕ)) → All IsWord words → fields (join_with_byte 32 words) ≡ words
fields-joined [] all = fields-nil
fields-joined (word ∷ []) all = fields-word word (All-head IsWord word [] all)
fields-joined (word ∷ next ∷ more) all =
    fields-append word 32 (join_with_byte 32 (next ∷ more)) (All-head IsWord word (next ∷ more) all) refl
    ∙ ap (λ (tail : List (List ℕ)). word ∷ tail) (fields-joined (next ∷ more) (All-tail IsWord word (next ∷ more) all))

-- blanks in front are passed over
pub fields-skip : (line : List ℕ) (start : ℕ) → start ≤ length line → ((k : ℕ) → k < start → is_blank (get_or line k 0) ≡ true) → fields line ≡ fields (drop start line)
fields-skip line zero within blank = refl
fields-skip [] (suc start) within blank = absurd (omega arith)
fields-skip (byte ∷ line) (suc start) within blank =
    fields-blank byte line (blank 0 (omega arith)) ∙ fields-skip line start (omega arith) (λ k below. blank (suc k) (omega arith))

-- a line of blanks has no field
pub fields-blanks : (line : List ℕ) → ((k : ℕ) → k < length line → is_blank (get_or line k 0) ≡ true) → fields line ≡ []
fields-blanks line blank =
    fields-skip line (length line) (omega arith) blank ∙ ap fields (drop_all (length line) line (omega arith)) ∙ fields-nil

-- a front with no blank is a word
pub word_front : (line : List ℕ) (end : ℕ) → 0 < end → end ≤ length line → ((k : ℕ) → k < end → is_blank (get_or line k 0) ≡ false) → IsWord (take end line)
word_front line end some within other = record {
  some_byte = omega (arith, length-take-le end line within);
  no_blank = All-from_get_or (λ byte. is_blank byte ≡ false) (take end line) 0 (λ k below. let short : k < end = omega (arith, length-take-le end line within) in ap is_blank (get_or-take end line k 0 short) ∙ other k short);
}

-- the first field of a line that begins with no blank, and those behind it
pub fields-first : (line : List ℕ) (end : ℕ) → 0 < end → end ≤ length line → ((k : ℕ) → k < end → is_blank (get_or line k 0) ≡ false) → (end < length line → is_blank (get_or line end 0) ≡ true) → fields line ≡ take end line ∷ fields (drop end line)
fields-first line end some within other found =
    let word = word_front line end some within other in
    ⊎_elim
    (λ (short : end < length line).
    let rest = drop_more line end 0 short in
    ap fields (sym (take-append-drop end line) ∙ ap (λ (tail : List ℕ). take end line ++ tail) rest)
    ∙ fields-append (take end line) (get_or line end 0) (drop (end + 1) line) word (found short)
    ∙ ap (λ (tail : List (List ℕ)). take end line ∷ tail) (sym (ap fields rest ∙ fields-blank (get_or line end 0) (drop (end + 1) line) (found short))))
    (λ (whole : length line ≤ end).
    let same = take_all end line whole in
    ap fields (sym same) ∙ fields-word (take end line) word
    ∙ ap (λ (tail : List (List ℕ)). take end line ∷ tail) (sym (ap fields (drop_all end line whole) ∙ fields-nil)))
    (cases_lt end (length line))

abbrev IsOther : ℕ → Type 0
IsOther byte = is_blank byte ≡ false

-- parts between blanks have none
no_blank_parts : (line : List ℕ) → All (All IsOther) (slice_split is_blank line)
no_blank_parts [] = All-cons (All IsOther) [] [] (All-nil IsOther) (All-nil (All IsOther))
no_blank_parts (byte ∷ line) = ⊎_elim
    (λ (blank : is_blank byte ≡ true). subst (All (All IsOther)) (sym (slice_split-cons_yes is_blank byte line blank)) (All-cons (All IsOther) [] (slice_split is_blank line) (All-nil IsOther) (no_blank_parts line)))
    (λ (other : is_blank byte ≡ false). subst (All (All IsOther)) (sym (slice_split-cons_no is_blank byte line other)) (All-onto_first IsOther byte (slice_split is_blank line) other (no_blank_parts line)))
    (cases_Bool (is_blank byte))

-- those with a byte are words
words_kept : (parts : List (List ℕ)) → All (All IsOther) parts → All IsWord (filter has_byte parts)
words_kept [] all = All-nil IsWord
words_kept (part ∷ parts) all =
    cond_both (has_byte part) (part ∷ filter has_byte parts) (filter has_byte parts) (All IsWord)
    (λ kept. All-cons IsWord part (filter has_byte parts) (record {
      some_byte = let none = eqb-false (length part) 0 (not-true (eqb (length part) 0) kept) in omega arith;
      no_blank = All-head (All IsOther) part parts all;
    }) (words_kept parts (All-tail (All IsOther) part parts all)))
    (λ dropped. words_kept parts (All-tail (All IsOther) part parts all))

pub fields_are_words : (line : List ℕ) → All IsWord (fields line)
unfolding fields
fields_are_words line = words_kept (slice_split is_blank line) (no_blank_parts line)

-- what a reader knows of a line whose first field begins at `start`
pub record BeginsAt (line rest : List ℕ) (start : ℕ) : Type 0 where
  pub skipped : start ≤ length line
  pub blanks : (k : ℕ) → k < start → is_blank (get_or line k 0) ≡ true
  pub begins : is_blank (get_or line start 0) ≡ false
  pub is_rest : rest ≡ drop start line
  pub some : 0 < length rest

pub begins_at : (line : List ℕ) (start : ℕ) → start < length line → ((k : ℕ) → k < start → is_blank (get_or line k 0) ≡ true) → is_blank (get_or line start 0) ≡ false → BeginsAt line (take (length line - start) (drop start line)) start
begins_at line start left blanks begins = record {
  skipped = omega arith;
  blanks = blanks;
  begins = begins;
  is_rest = take_rest line start;
  some = omega (arith, ap length (take_rest line start), length-drop start line);
}

-- and that it ends `end` bytes behind
pub record IsFirstField (line rest : List ℕ) (start end : ℕ) : Type 0 where
  pub front : BeginsAt line rest start
  pub within : end ≤ length rest
  pub others : (k : ℕ) → k < end → is_blank (get_or rest k 0) ≡ false
  pub found : end < length rest → is_blank (get_or rest end 0) ≡ true

-- the field has a byte
field_some : (line rest : List ℕ) (start end : ℕ) → IsFirstField line rest start end → 0 < end
field_some line rest start zero f =
    let same = ap (λ (l : List ℕ). get_or l 0 0) f.front.is_rest ∙ get_or-drop start line 0 0 ∙ ap (λ (k : ℕ). get_or line k 0) (add-zero start) in
    absurd (both_ways (is_blank (get_or rest 0 0)) (ap is_blank same ∙ f.front.begins) (f.found f.front.some))
field_some line rest start (suc end) f = omega arith

pub field_is_word : (line rest : List ℕ) (start end : ℕ) → IsFirstField line rest start end → IsWord (take end rest)
field_is_word line rest start end f = word_front rest end (field_some line rest start end f) f.within f.others

pub field_cut : (line rest : List ℕ) (start end : ℕ) → IsFirstField line rest start end → fields line ≡ take end rest ∷ fields (drop end rest)
field_cut line rest start end f =
    fields-skip line start f.front.skipped f.front.blanks ∙ ap fields (sym f.front.is_rest)
    ∙ fields-first rest end (field_some line rest start end f) f.within f.others f.found
