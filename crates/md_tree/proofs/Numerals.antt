-- Pairs read from their digits.
use Rattle.std.proofs.Common.{◌≡◌, ◌≢◌, ℕ, suc, ◌+◌, ◌<◌, ◌≤◌, Bool, true, false, List, [], ◌∷◌, ◌++◌, length, append_assoc, length-append, refl, sym, ◌∙◌, ap, subst, inl, inr, arith}
use Rattle.std.specs.Prelude.{◌↔◌, IsTrue}
use Rattle.std.proofs.lemmas.Bool.{cases_lt}
use Rattle.md_graph.specs.declared.TheConstants.{NAMES}
use Rattle.md_graph.proofs.Limits.{NAMES-lt}
use Rattle.md_text.specs.Numbers.{decimal}
use Rattle.md_text.proofs.Lists.{In, of_contains, to_contains, of_pairs, to_pairs, Later}
use Rattle.md_tree.specs.Spellings.{PairRules, ArePairRules, IsPairBeforeBy}
use Rattle.md_tree.specs.TreeTexts.{pairs_text_by}
use Rattle.md_text.specs.Fronts.{IsDigit, IsPastDigits, LacksFirst, LacksNumber, IsNumberSplit}
use Rattle.md_tree.specs.Held.{MayListIf, AreSmall, mark_of, pair_before, ArePairsRead, LacksPair, LacksPairs, LacksEnd, MayFollow, EachMayFollow, no_pair, AreListed, last_behind, HasRead}
use Rattle.md_text.proofs.FrontLemmas.{same_number, stops_at}
use Rattle.md_tree.proofs.Texts.{pairs_stop, pair_spelled, same_pairs}

-- pairs
mark_stops : (more : Bool) (x : List ℕ) → IsPastDigits (mark_of more ∷ x)
mark_stops true x = stops_at 44 x (inl (omega arith))
mark_stops false x = stops_at 41 x (inl (omega arith))

below_limit : (v : ℕ) → v < NAMES → v < 100000
below_limit v below = let limit = NAMES-lt in omega arith

module _ {P : Type 0} {rules : PairRules P} (law : ArePairRules rules) where
  abbrev fst : P → ℕ
  fst = rules.first

  abbrev snd : P → ℕ
  snd = rules.second

  abbrev between : ℕ
  between = rules.between

  abbrev pairs_text : ℕ → List P → List ℕ
  pairs_text = pairs_text_by rules

  no_digit : ¬ (IsDigit between)
  no_digit = law.no_digit

  behind_low : (text hyphen : List ℕ) (low : ℕ) → IsNumberSplit text low hyphen → (p : P) (more : Bool) (tail : List ℕ) → text ≡ pair_before rules p more tail →
      (low ≡ fst p) × (hyphen ≡ between ∷ (decimal (snd p) ++ mark_of more ∷ tail))
  behind_low text hyphen low n p more tail e =
      same_number low (fst p) hyphen (between ∷ (decimal (snd p) ++ mark_of more ∷ tail)) n.1 no_digit (sym n.0 ∙ e)

  pub lacks_low : (text : List ℕ) → LacksNumber text → LacksPair rules text
  lacks_low text lacks p more tail small e = lacks (fst p) (between ∷ (decimal (snd p) ++ mark_of more ∷ tail)) (below_limit (fst p) small.0) no_digit e

  pub lacks_hyphen : (text hyphen : List ℕ) (low : ℕ) → IsNumberSplit text low hyphen → LacksFirst between hyphen → LacksPair rules text
  lacks_hyphen text hyphen low n lacks p more tail small e = lacks (decimal (snd p) ++ mark_of more ∷ tail) (behind_low text hyphen low n p more tail e).1

  behind_hyphen : (text hyphen second : List ℕ) (low : ℕ) → IsNumberSplit text low hyphen → hyphen ≡ between ∷ second → (p : P) (more : Bool) (tail : List ℕ) → text ≡ pair_before rules p more tail →
      second ≡ decimal (snd p) ++ mark_of more ∷ tail
  behind_hyphen text hyphen second low n h p more tail e =
      let f : between ∷ second ≡ between ∷ (decimal (snd p) ++ mark_of more ∷ tail) = sym h ∙ (behind_low text hyphen low n p more tail e).1 in
      cc

  pub lacks_high : (text hyphen second : List ℕ) (low : ℕ) → IsNumberSplit text low hyphen → hyphen ≡ between ∷ second → LacksNumber second → LacksPair rules text
  lacks_high text hyphen second low n h lacks p more tail small e =
      lacks (snd p) (mark_of more ∷ tail) (below_limit (snd p) small.1) (mark_stops more tail) (behind_hyphen text hyphen second low n h p more tail e)

  pub lacks_mark : (text hyphen second mark : List ℕ) (low high : ℕ) → IsNumberSplit text low hyphen → hyphen ≡ between ∷ second → IsNumberSplit second high mark →
      LacksFirst 44 mark → LacksFirst 41 mark → LacksPair rules text
  lacks_mark text hyphen second mark low high n h m comma bracket p true tail small e =
      comma tail (same_number high (snd p) mark (44 ∷ tail) m.1 (mark_stops true tail) (sym m.0 ∙ behind_hyphen text hyphen second low n h p true tail e)).1
  lacks_mark text hyphen second mark low high n h m comma bracket p false tail small e =
      bracket tail (same_number high (snd p) mark (41 ∷ tail) m.1 (mark_stops false tail) (sym m.0 ∙ behind_hyphen text hyphen second low n h p false tail e)).1

  -- the pair of two positions that stand there
  pub pair_read : (text tail : List ℕ) (i j : ℕ) (more : Bool) (p : P) → p ≡ rules.pair i j → text ≡ decimal i ++ between ∷ (decimal j ++ mark_of more ∷ tail) → text ≡ pair_before rules p more tail
  pair_read text tail i j more p is e =
      let first : i ≡ fst p = sym (ap fst is ∙ law.first_of i j) in
      let second : j ≡ snd p = sym (ap snd is ∙ law.second_of i j) in
      e ∙ (λ n. decimal (first n) ++ between ∷ (decimal (second n) ++ mark_of more ∷ tail))

  -- pairs in a row
  pub pairs_start : (text : List ℕ) → ArePairsRead rules text text []
  pairs_start text = record { forth = λ others r e. e; back = λ ps r small e. (ps, small, e) }

  pair_put : (mark : ℕ) (p : P) (others : List P) (rest r : List ℕ) → rest ≡ decimal (fst p) ++ between ∷ (decimal (snd p) ++ (pairs_text 44 others ++ 41 ∷ r)) → mark ∷ rest ≡ pairs_text mark (p ∷ others) ++ 41 ∷ r
  pair_put mark p others rest r e = ap (λ w. mark ∷ w) e ∙ sym (pair_spelled law mark p others (41 ∷ r))

  comma_for : (mark : ℕ) (others : List P) (tail r : List ℕ) → 59 ∷ tail ≡ pairs_text 59 others ++ 41 ∷ r → 44 ∷ tail ≡ pairs_text 44 others ++ 41 ∷ r
  comma_for mark [] tail r e = let f : 59 ∷ tail ≡ 41 ∷ r = e in let g : ◌≡◌ {A = ℕ} 59 41 = cc in absurd (omega arith)
  comma_for mark (p ∷ others) tail r e =
      let f : 59 ∷ tail ≡ 59 ∷ ((decimal (fst p) ++ between ∷ (decimal (snd p) ++ pairs_text 44 others)) ++ 41 ∷ r) = e in
      let g : tail ≡ (decimal (fst p) ++ between ∷ (decimal (snd p) ++ pairs_text 44 others)) ++ 41 ∷ r = cc in
      ap (λ w. 44 ∷ w) g

  semicolon_for : (others : List P) (tail r : List ℕ) → 44 ∷ tail ≡ pairs_text 44 others ++ 41 ∷ r → 59 ∷ tail ≡ pairs_text 59 others ++ 41 ∷ r
  semicolon_for [] tail r e = let f : 44 ∷ tail ≡ 41 ∷ r = e in let g : ◌≡◌ {A = ℕ} 44 41 = cc in absurd (omega arith)
  semicolon_for (p ∷ others) tail r e =
      let f : 44 ∷ tail ≡ 44 ∷ ((decimal (fst p) ++ between ∷ (decimal (snd p) ++ pairs_text 44 others)) ++ 41 ∷ r) = e in
      let g : tail ≡ (decimal (fst p) ++ between ∷ (decimal (snd p) ++ pairs_text 44 others)) ++ 41 ∷ r = cc in
      ap (λ w. 59 ∷ w) g

  -- the first of the pairs that stand there is the one that was read
  same_first : (rest x r : List ℕ) (p q : P) (others : List P) → IsPastDigits x → rest ≡ decimal (fst p) ++ between ∷ (decimal (snd p) ++ x) → 59 ∷ rest ≡ pairs_text 59 (q ∷ others) ++ 41 ∷ r →
      x ≡ pairs_text 44 others ++ 41 ∷ r
  same_first rest x r p q others s e f =
      let g : 59 ∷ rest ≡ 59 ∷ (decimal (fst q) ++ between ∷ (decimal (snd q) ++ (pairs_text 44 others ++ 41 ∷ r))) = f ∙ pair_spelled law 59 q others (41 ∷ r) in
      let h : rest ≡ decimal (fst q) ++ between ∷ (decimal (snd q) ++ (pairs_text 44 others ++ 41 ∷ r)) = cc in
      let low : (fst p ≡ fst q) × (between ∷ (decimal (snd p) ++ x) ≡ between ∷ (decimal (snd q) ++ (pairs_text 44 others ++ 41 ∷ r))) =
      same_number (fst p) (fst q) (between ∷ (decimal (snd p) ++ x)) (between ∷ (decimal (snd q) ++ (pairs_text 44 others ++ 41 ∷ r))) no_digit no_digit (sym e ∙ h) in
      let i : between ∷ (decimal (snd p) ++ x) ≡ between ∷ (decimal (snd q) ++ (pairs_text 44 others ++ 41 ∷ r)) = low.1 in
      let j : decimal (snd p) ++ x ≡ decimal (snd q) ++ (pairs_text 44 others ++ 41 ∷ r) = cc in
      (same_number (snd p) (snd q) x (pairs_text 44 others ++ 41 ∷ r) s (pairs_stop law others r) j).1

  rest_small : (rest tail : List ℕ) (p : P) (others : List P) (r : List ℕ) → rest ≡ pair_before rules p true tail → AreSmall rules others → 59 ∷ rest ≡ pairs_text 59 others ++ 41 ∷ r →
      (os : List P) × AreSmall rules os × (59 ∷ tail ≡ pairs_text 59 os ++ 41 ∷ r)
  rest_small rest tail p [] r e small f = let g : 59 ∷ rest ≡ 41 ∷ r = f in let h : ◌≡◌ {A = ℕ} 59 41 = cc in absurd (omega arith)
  rest_small rest tail p (q ∷ others) r e small f = (others, small.1, semicolon_for others tail r (same_first rest (44 ∷ tail) r p q others (mark_stops true tail) e f))

  pub pairs_more : (text rest tail : List ℕ) (qs : List P) (p : P) → ArePairsRead rules text rest qs → rest ≡ pair_before rules p true tail → ArePairsRead rules text tail (qs ++ p ∷ [])
  pairs_more text rest tail qs p a e = record {
    forth = λ others r f.
        a.forth (p ∷ others) r (pair_put 59 p others rest r (e ∙ ap (λ w. decimal (fst p) ++ between ∷ (decimal (snd p) ++ w)) (comma_for 59 others tail r f)))
        ∙ ap (λ w. pairs_text 59 w ++ 41 ∷ r) (sym (append_assoc qs (p ∷ []) others));
    back = λ ps r small f. let b = a.back ps r small f in rest_small rest tail p b.0 r e b.1 b.2;
  }

  pub pairs_whole : (text rest tail : List ℕ) (qs : List P) (p : P) → ArePairsRead rules text rest qs → rest ≡ pair_before rules p false tail → 59 ∷ text ≡ pairs_text 59 (qs ++ p ∷ []) ++ 41 ∷ tail
  pairs_whole text rest tail qs p a e = a.forth (p ∷ []) tail (pair_put 59 p [] rest tail e)

  lacks_others : (rest : List ℕ) (others : List P) (r : List ℕ) → LacksPair rules rest → AreSmall rules others → 59 ∷ rest ≡ pairs_text 59 others ++ 41 ∷ r → ⊥
  lacks_others rest [] r lacks small e = let g : 59 ∷ rest ≡ 41 ∷ r = e in let h : ◌≡◌ {A = ℕ} 59 41 = cc in omega arith
  lacks_others rest (p ∷ []) r lacks small e =
      let g : 59 ∷ rest ≡ 59 ∷ (decimal (fst p) ++ between ∷ (decimal (snd p) ++ 41 ∷ r)) = e ∙ pair_spelled law 59 p [] (41 ∷ r) in
      lacks p false r small.0 cc
  lacks_others rest (p ∷ q ∷ others) r lacks small e =
      let g : 59 ∷ rest ≡ 59 ∷ (decimal (fst p) ++ between ∷ (decimal (snd p) ++ (pairs_text 44 (q ∷ others) ++ 41 ∷ r))) = e ∙ pair_spelled law 59 p (q ∷ others) (41 ∷ r) in
      lacks p true ((decimal (fst q) ++ between ∷ (decimal (snd q) ++ pairs_text 44 others)) ++ 41 ∷ r) small.0 cc

  pub pairs_lack : (text rest : List ℕ) (qs : List P) → ArePairsRead rules text rest qs → LacksPair rules rest → LacksPairs rules text
  pairs_lack text rest qs a lacks ps r small e = let b = a.back ps r small e in lacks_others rest b.0 r lacks b.1 b.2

  -- the pairs that a node may list
  before_then : (p q r : P) → IsPairBeforeBy rules p q → IsPairBeforeBy rules q r → IsPairBeforeBy rules p r
  before_then p q r (inl a) (inl b) = inl (omega arith)
  before_then p q r (inl a) (inr b) = let e : fst q ≡ fst r = b.0 in inl (omega arith)
  before_then p q r (inr a) (inl b) = let e : fst p ≡ fst q = a.0 in inl (omega arith)
  before_then p q r (inr a) (inr b) = let e : fst p ≡ fst q = a.0 in let f : fst q ≡ fst r = b.0 in let g : snd p < snd q = a.1 in let h : snd q < snd r = b.1 in inr (omega arith, omega arith)

  all_later : (n : ℕ) (p : P) (ps : List P) → EachMayFollow rules n p ps → (q : P) → In ps q → IsPairBeforeBy rules p q
  all_later n p [] f q i = absurd i
  all_later n p (r ∷ ps) f q (inl e) = subst (IsPairBeforeBy rules p) (sym e) f.0.0
  all_later n p (r ∷ ps) f q (inr i) = before_then p r q f.0.0 (all_later n r ps f.1 q i)

  to_later : (n : ℕ) (p : P) (ps : List P) → EachMayFollow rules n p ps → Later (IsPairBeforeBy rules) ps
  to_later n p [] f = tt
  to_later n p (r ∷ ps) f = (all_later n r ps f.1, to_later n r ps f.1)

  positions_of : (n : ℕ) (p : P) (ps : List P) → EachMayFollow rules n p ps → (q : P) → In ps q → rules.IsOf n q
  positions_of n p [] f q i = absurd i
  positions_of n p (r ∷ ps) f q (inl e) = subst (rules.IsOf n) (sym e) f.0.1
  positions_of n p (r ∷ ps) f q (inr i) = positions_of n r ps f.1 q i

  pub to_listed : (n : ℕ) (ps : List P) → AreListed rules n ps → ps ≢ [] → MayListIf rules true n ps
  to_listed n ps l some = (some, to_pairs (IsPairBeforeBy rules) ps (to_later n (no_pair rules) ps l), λ p c. positions_of n (no_pair rules) ps l p (of_contains ps p c))

  each_follows_on : (n : ℕ) (p : P) (ps : List P) → ((q : P) → In ps q → IsPairBeforeBy rules p q) → Later (IsPairBeforeBy rules) ps → ((q : P) → In ps q → rules.IsOf n q) → EachMayFollow rules n p ps
  each_follows_on n p [] a l b = tt
  each_follows_on n p (r ∷ ps) a l b = ((a r (inl refl), b r (inl refl)), each_follows_on n r ps l.0 l.1 (λ q i. b q (inr i)))

  behind_none : (n : ℕ) (p : P) → rules.IsOf n p → IsPairBeforeBy rules (no_pair rules) p
  behind_none n p a =
      let first : fst (rules.pair 0 0) ≡ 0 = law.first_of 0 0 in
      let second : snd (rules.pair 0 0) ≡ 0 = law.second_of 0 0 in
      elim (cases_lt 0 (fst p)) [
        | inl some ↦ inl (omega arith)
        | inr none ↦ elim (cases_lt 0 (snd p)) [
          | inl more ↦ inr (omega arith, omega arith)
          | inr same ↦ absurd (law.apart n p a (omega arith))
        ]
      ]

  pub of_listed : (n : ℕ) (ps : List P) → MayListIf rules true n ps → AreListed rules n ps
  of_listed n ps l =
      let b : (q : P) → In ps q → rules.IsOf n q = λ q i. l.2 q (to_contains ps q i) in
      each_follows_on n (no_pair rules) ps (λ q i. behind_none n q (b q i)) (of_pairs (IsPairBeforeBy rules) ps l.1) b

  small_if : (n : ℕ) → n ≤ NAMES → (ps : List P) → ((p : P) → In ps p → rules.IsOf n p) → AreSmall rules ps
  small_if n few [] a = tt
  small_if n few (p ∷ ps) a =
      let first : fst p < n = law.first_below n p (a p (inl refl)) in
      let second : snd p < n = law.second_below n p (a p (inl refl)) in
      ((omega arith, omega arith), small_if n few ps (λ q i. a q (inr i)))

  pub listed_small : (n : ℕ) (ps : List P) → n ≤ NAMES → MayListIf rules true n ps → AreSmall rules ps
  listed_small n ps few l = small_if n few ps (λ p i. l.2 p (to_contains ps p i))

  -- pairs that are read one behind the other, and whether they may be listed

  follows_more : (n : ℕ) (last : P) (ps : List P) (q : P) → EachMayFollow rules n last (ps ++ q ∷ []) ↔ (EachMayFollow rules n last ps × MayFollow rules n (last_behind last ps) q)
  follows_more n last [] q = ((λ f. (tt, f.0)), (λ f. (f.1, tt)))
  follows_more n last (p ∷ ps) q =
      let r = follows_more n p ps q in
      ((λ f. let g = r.0 f.1 in ((f.0, g.0), g.1)), (λ f. (f.0.0, r.1 (f.0.1, f.1))))

  last_more : (last : P) (ps : List P) (q : P) → last_behind last (ps ++ q ∷ []) ≡ q
  last_more last [] q = refl
  last_more last (p ∷ ps) q = last_more p ps q

  pub listed_more : (n : ℕ) (ps : List P) (last q : P) (listed now : Bool) → last ≡ last_behind (no_pair rules) ps → (IsTrue listed ↔ AreListed rules n ps) → (IsTrue now ↔ (IsTrue listed × MayFollow rules n last q)) →
      IsTrue now ↔ AreListed rules n (ps ++ q ∷ [])
  listed_more n ps last q listed now is may e =
      let r = follows_more n (no_pair rules) ps q in (
        (λ t. let b = e.0 t in r.1 (may.0 b.0, subst (λ l. MayFollow rules n l q) is b.1)),
        (λ a. let b = r.0 a in e.1 (may.1 b.0, subst (λ l. MayFollow rules n l q) (sym is) b.1)),
      )

  pub none_read : (n : ℕ) (text : List ℕ) → HasRead rules n text text [] (no_pair rules) true
  none_read n text = record { pairs = pairs_start text; last_is = refl; may = ((λ t. tt), (λ t. refl)) }

  pub one_read : (n : ℕ) (text rest tail : List ℕ) (ps : List P) (last q : P) (listed now : Bool) → HasRead rules n text rest ps last listed → rest ≡ pair_before rules q true tail →
      (IsTrue now ↔ (IsTrue listed × MayFollow rules n last q)) → HasRead rules n text tail (ps ++ q ∷ []) q now
  one_read n text rest tail ps last q listed now h e f = record {
    pairs = pairs_more text rest tail ps q h.pairs e;
    last_is = sym (last_more (no_pair rules) ps q);
    may = listed_more n ps last q listed now h.last_is h.may f;
  }

  -- the ends of nodes

  pub lacks_semicolon : (n : ℕ) (text : List ℕ) → LacksFirst 59 text → LacksEnd rules true n text
  lacks_semicolon n text lacks [] r l e = l.0 refl
  lacks_semicolon n text lacks (p ∷ ps) r l e = lacks ((decimal (fst p) ++ between ∷ (decimal (snd p) ++ pairs_text 44 ps)) ++ 41 ∷ r) e

  pub lacks_pairs : (n : ℕ) (text behind : List ℕ) → n ≤ NAMES → text ≡ 59 ∷ behind → LacksPairs rules behind → LacksEnd rules true n text
  lacks_pairs n text behind few is lacks ps r l e = lacks ps r (listed_small n ps few l) (sym is ∙ e)

  pub lacks_listed : (n : ℕ) (text behind tail : List ℕ) (qs : List P) → text ≡ 59 ∷ behind → 59 ∷ behind ≡ pairs_text 59 qs ++ 41 ∷ tail → (AreListed rules n qs → ⊥) → LacksEnd rules true n text
  lacks_listed n text behind tail qs is f bad ps r l e =
      let same : (ps ≡ qs) × (r ≡ tail) = same_pairs law 59 ps qs r tail (λ w. omega arith) (sym e ∙ is ∙ f) in
      bad (of_listed n qs (subst (MayListIf rules true n) same.0 l))

  pub snoc_some : (qs : List P) (p : P) → qs ++ p ∷ [] ≢ []
  snoc_some [] p e = cc
  snoc_some (q ∷ qs) p e = let f : q ∷ (qs ++ p ∷ []) ≡ [] = e in cc

  pub pair_shorter : (text tail : List ℕ) (p : P) (more : Bool) → text ≡ pair_before rules p more tail → length tail < length text
  pair_shorter text tail p more e =
      let a : length text ≡ length (decimal (fst p)) + suc (length (decimal (snd p) ++ mark_of more ∷ tail)) = ap length e ∙ length-append (decimal (fst p)) (between ∷ (decimal (snd p) ++ mark_of more ∷ tail)) in
      let b : length (decimal (snd p) ++ mark_of more ∷ tail) ≡ length (decimal (snd p)) + suc (length tail) = length-append (decimal (snd p)) (mark_of more ∷ tail) in
      omega arith

  pub end_shorter : (text tail : List ℕ) (ps : List P) → text ≡ pairs_text 59 ps ++ 41 ∷ tail → length tail < length text
  end_shorter text tail ps e =
      let a : length text ≡ length (pairs_text 59 ps) + suc (length tail) = ap length e ∙ length-append (pairs_text 59 ps) (41 ∷ tail) in
      omega arith
