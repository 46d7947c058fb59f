-- Names and arcs by their texts.
use Rattle.std.proofs.Common.{◌≡◌, ◌≢◌, ℕ, ◌<◌, ◌≤◌, ◌⊎◌, List, [], ◌∷◌, ◌++◌, length, get_or, take, drop, ◌-◌, Some, None, refl, sym, ◌∙◌, ltb, leb, ◌&&◌, ◌^◌, ap, ap₂, subst, inl, inr, arith}
use Rattle.std.specs.Char.{is_ascii_digit}
use Rattle.std.specs.List.{All, list_all}
use Rattle.std.proofs.lemmas.Bool.{cases_Bool, cases_lt, and_parts, ltb-true, cond-true, cond-false}
use Rattle.std.proofs.lemmas.List.{take_rest}
use Rattle.std.proofs.lemmas.List.Elements.{All-head, All-tail}
use Rattle.md_graph.specs.declared.TheConstants.{NAMES}
use Rattle.md_text.specs.declared.digits.TheConstants.{DIGITS}
use Rattle.md_text.specs.Numbers.{value, decimal, number_of, is_number, IsCanonical}
use Rattle.md_text.proofs.NumberLemmas.{number_of-decimal, decimal_is_canonical, decimal_is_digits, decimal-value, decimal_injective, AllPass-from_list_all}
use Rattle.md_forcing.specs.declared.arc.Arc.{Arc}
use Rattle.md_report.specs.Lines.{arc_text}
use Rattle.md_report.specs.WellFormedLines.{IsVertexName, IsEditNumber, IsNamedArc}
use Rattle.md_report.specs.Cuts.{LacksByte, Opens, IsCutAt}
use Rattle.md_report.proofs.Cutting.{one_cut, one_item, lacks_append}

abbrev IsDigit : ℕ → Type 0
IsDigit x = (48 ≤ x) × (x ≤ 57)

-- digits lack each byte that is none
pub lacks_digits : (b : ℕ) → (b < 48) ⊎ (57 < b) → (xs : List ℕ) → All IsDigit xs → LacksByte b xs
lacks_digits b other [] all = tt
lacks_digits b other (x ∷ xs) all =
    let d : (48 ≤ x) × (x ≤ 57) = All-head IsDigit x xs all in
    ((λ same. elim other [ inl low ↦ omega arith | inr high ↦ omega arith ]), lacks_digits b other xs (All-tail IsDigit x xs all))

pub lacks_number : (b v : ℕ) → (b < 48) ⊎ (57 < b) → LacksByte b (decimal v)
lacks_number b v other = lacks_digits b other (decimal v) (decimal_is_digits v)

-- what is no number of few digits, and what has a leading zero
pub no_number : (piece : List ℕ) → number_of piece ≡ None → (n : ℕ) → n < 10 ^ DIGITS → piece ≢ decimal n
no_number piece none n few same =
    let e : Some n ≡ None = sym (number_of-decimal n few) ∙ ap number_of (sym same) ∙ none in cc

pub no_spelling : (piece : List ℕ) → 1 < length piece → get_or piece 0 0 ≡ 48 → (n : ℕ) → piece ≢ decimal n
no_spelling piece long zero_first n same =
    let c : IsCanonical (decimal n) = (decimal_is_canonical n).0 in
    let one : length (decimal n) ≡ 1 = c.no_leading_zero (ap (λ (w : List ℕ). get_or w 0 0) (sym same) ∙ zero_first) in
    omega (arith, ap length same)

pub large_name : (piece : List ℕ) (n : ℕ) → piece ≡ decimal n → NAMES ≤ n → (v : ℕ) → IsVertexName v → piece ≢ decimal v
large_name piece n at large v is same = let e : n ≡ v = decimal_injective n v (sym at ∙ same) in omega arith

pub other_number : (piece : List ℕ) (n : ℕ) → piece ≡ decimal n → (IsEditNumber n → ⊥) → (j : ℕ) → IsEditNumber j → piece ≢ decimal j
other_number piece n at none j is same = none (subst IsEditNumber (sym (decimal_injective n j (sym at ∙ same))) is)

pub name_spelled : (piece : List ℕ) (n : ℕ) → number_of piece ≡ Some n → ((1 < length piece) × (get_or piece 0 0 ≡ 48) → ⊥) → piece ≡ decimal n
name_spelled piece n some short = elim (cases_Bool (is_number piece)) [
  | inl is ↦
      let parts = and_parts (ltb 0 (length piece)) (leb (length piece) DIGITS && list_all is_ascii_digit piece) is in
      let more = and_parts (leb (length piece) DIGITS) (list_all is_ascii_digit piece) parts.1 in
      let v : value piece ≡ n = (let e : Some (value piece) ≡ Some n = sym (cond-true (is_number piece) (Some (value piece)) None is) ∙ some in cc) in
      let some_digit : 0 < length piece = ltb-true 0 (length piece) parts.0 in
      sym (decimal-value piece (record {
        some_digit = some_digit;
        all_digits = AllPass-from_list_all piece more.1;
        no_leading_zero = λ is_zero. elim (cases_lt 1 (length piece)) [ inl long ↦ absurd (short (long, is_zero)) | inr few ↦ omega arith ];
      })) ∙ ap decimal v
  | inr no_digits ↦ let e : None ≡ Some n = sym (cond-false (is_number piece) (Some (value piece)) None no_digits) ∙ some in absurd (cc)
]

-- an arc's text is cut before its mark
pub arc_cut : (a : Arc) (front behind : List ℕ) → IsCutAt 62 (arc_text a) front behind → (front ≡ decimal a.tail) × (behind ≡ 62 ∷ decimal a.head)
arc_cut a front behind cut =
    one_cut 62 front (decimal a.tail) behind (62 ∷ decimal a.head) cut.lacks (lacks_number 62 a.tail (inr (omega arith))) cut.opens refl (sym cut.whole)

pub lacks_arc : (b : ℕ) (a : Arc) → b < 48 → LacksByte b (arc_text a)
lacks_arc b a low =
    lacks_append b (decimal a.tail) (62 ∷ decimal a.head) (lacks_number b a.tail (inl low)) ((λ same. omega arith), lacks_number b a.head (inl low))

pub one_arc : (a b : Arc) → arc_text a ≡ arc_text b → a ≡ b
one_arc a b same =
    let i : (decimal a.tail ≡ decimal b.tail) × (62 ∷ decimal a.head ≡ 62 ∷ decimal b.head) =
    one_cut 62 (decimal a.tail) (decimal b.tail) (62 ∷ decimal a.head) (62 ∷ decimal b.head) (lacks_number 62 a.tail (inr (omega arith))) (lacks_number 62 b.tail (inr (omega arith))) refl refl same in
    let t : a.tail ≡ b.tail = decimal_injective a.tail b.tail i.0 in
    let d : 62 ∷ decimal a.head ≡ 62 ∷ decimal b.head = i.1 in
    let h : a.head ≡ b.head = decimal_injective a.head b.head (cc) in
    λ n. record { tail = t n; head = h n }

-- where a part of a piece is no name, the piece spells no arc
pub no_mark : (piece front behind : List ℕ) → IsCutAt 62 piece front behind → length behind < 1 → (a : Arc) → piece ≢ arc_text a
no_mark piece front behind cut none a same =
    let i = arc_cut a front behind (subst (λ w. IsCutAt 62 w front behind) same cut) in
    omega (arith, ap length i.1)

pub no_tail : (piece front behind : List ℕ) → IsCutAt 62 piece front behind → ((v : ℕ) → IsVertexName v → front ≢ decimal v) → (a : Arc) → IsNamedArc a → piece ≢ arc_text a
no_tail piece front behind cut none a is same = none a.tail is.tail (arc_cut a front behind (subst (λ w. IsCutAt 62 w front behind) same cut)).0

-- what stands behind the first byte
pub behind_first : (xs : List ℕ) → 1 ≤ length xs → xs ≡ get_or xs 0 0 ∷ take (length xs - 1) (drop 1 xs)
behind_first [] some = absurd (omega arith)
behind_first (x ∷ xs) some = ap (λ (w : List ℕ). x ∷ w) (sym (take_rest (x ∷ xs) 1))

pub no_head : (piece front behind : List ℕ) (mark : ℕ) (back : List ℕ) → IsCutAt 62 piece front behind → behind ≡ mark ∷ back → ((v : ℕ) → IsVertexName v → back ≢ decimal v) → (a : Arc) → IsNamedArc a → piece ≢ arc_text a
no_head piece front behind mark back cut is_behind none a is same =
    let e : mark ∷ back ≡ 62 ∷ decimal a.head = sym is_behind ∙ (arc_cut a front behind (subst (λ w. IsCutAt 62 w front behind) same cut)).1 in
    none a.head is.head (cc)

pub arc_spelled : (piece front behind : List ℕ) (mark : ℕ) (back : List ℕ) (tail head : ℕ) → IsCutAt 62 piece front behind → behind ≡ mark ∷ back → front ≡ decimal tail → back ≡ decimal head → piece ≡ arc_text (record { tail = tail; head = head })
arc_spelled piece front behind mark back tail head cut is_behind is_front is_back =
    let at : mark ≡ 62 = subst (Opens 62) is_behind cut.opens in
    let b : behind ≡ 62 ∷ decimal head = cc in
    cut.whole ∙ ap₂ (λ (x y : List ℕ). x ++ y) is_front b

-- the ends of the arc that a piece spells are these
pub no_loop : (piece front behind : List ℕ) (mark : ℕ) (back : List ℕ) (tail head : ℕ) → IsCutAt 62 piece front behind → behind ≡ mark ∷ back → front ≡ decimal tail → back ≡ decimal head → tail ≡ head → (a : Arc) → IsNamedArc a → piece ≢ arc_text a
no_loop piece front behind mark back tail head cut is_behind is_front is_back loop a is same =
    let i = arc_cut a front behind (subst (λ w. IsCutAt 62 w front behind) same cut) in
    let e : mark ∷ back ≡ 62 ∷ decimal a.head = sym is_behind ∙ i.1 in
    let f : back ≡ decimal a.head = cc in
    let t : tail ≡ a.tail = decimal_injective tail a.tail (sym is_front ∙ i.0) in
    let h : head ≡ a.head = decimal_injective head a.head (sym is_back ∙ f) in
    is.differ (sym t ∙ loop ∙ h)

-- the texts of names and arcs are pieces, each of one name or arc
pub name_words : (v : ℕ) → IsVertexName v → LacksByte 32 (decimal v)
name_words v is = lacks_number 32 v (inl (omega arith))

pub edit_words : (j : ℕ) → IsEditNumber j → LacksByte 32 (decimal j)
edit_words j is = lacks_number 32 j (inl (omega arith))

-- what stands behind the number of an edit
pub one_edit : (i j : ℕ) (r s : List ℕ) → IsEditNumber i → IsEditNumber j → Opens 32 r → Opens 32 s → 32 ∷ (decimal i ++ r) ≡ 32 ∷ (decimal j ++ s) → r ≡ s
one_edit i j r s is_i is_j at_r at_s e = (one_item decimal IsEditNumber edit_words (λ a b is_a is_b. decimal_injective a b) i j r s is_i is_j at_r at_s e).1

pub one_name : (u v : ℕ) → IsVertexName u → IsVertexName v → decimal u ≡ decimal v → u ≡ v
one_name u v is_u is_v = decimal_injective u v

pub arc_words : (a : Arc) → IsNamedArc a → LacksByte 32 (arc_text a)
arc_words a is = lacks_arc 32 a (omega arith)

pub one_named : (a b : Arc) → IsNamedArc a → IsNamedArc b → arc_text a ≡ arc_text b → a ≡ b
one_named a b is_a is_b = one_arc a b
