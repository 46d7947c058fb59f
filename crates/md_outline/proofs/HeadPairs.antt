-- The pairs of names that stand for the children of a prime node: their text, piece by piece, and which they are.
use Rattle.std.proofs.Common.{◌≡◌, ℕ, zero, suc, ◌+◌, ◌-◌, ◌<◌, ◌≤◌, Bool, true, false, cond, true≢false, List, [], ◌∷◌, ◌++◌, length, get_or, drop, append_assoc, append-nil, refl, sym, ◌∙◌, ap, ap₂, subst, inl, inr, arith}
use Rattle.std.specs.Prelude.{◌↔◌, ⊤}
use Rattle.std.specs.List.{All}
use Rattle.std.specs.Option.{option_map_or}
use Rattle.std.proofs.lemmas.Option.{slice_get-get_or}
use Rattle.std.proofs.lemmas.Bool.{cases_Bool, cases_lt}
use Rattle.std.proofs.lemmas.List.{drop_more, drop_all}
use Rattle.std.proofs.lemmas.List.Elements.{All-head, All-tail}
use Rattle.std.specs.FinSet.{contains, insert, intersection, from_list}
use Rattle.md_graph.specs.declared.TheConstants.{NAMES}
use Rattle.md_graph.specs.NameSet.{ascending_between, ascending_from, IsLeastFrom}
use Rattle.md_graph.specs.Sets.{NameSet, Has}
use Rattle.md_graph.proofs.NameLemmas.{ascending_step, ascending_none}
use Rattle.md_graph.proofs.SetLemmas.{clash, insert_old, insert_new, of_insert, of_meet, meet_has, empty_lacks}
use Rattle.md_text.specs.declared.piece.Piece.{Piece}
use Rattle.md_text.specs.Numbers.{decimal}
use Rattle.md_text.specs.Pieces.{piece_text, text_at, texts_at}
use Rattle.md_text.proofs.Lists.{In, Later, of_append, in_left, in_right, later_append}
use Rattle.md_tree.specs.Held.{Ascends}
use Rattle.md_tree.specs.Spellings.{PairRules, ArePairRules, IsPairBeforeBy}
use Rattle.md_tree.specs.TreeTexts.{pairs_text_by}
use Rattle.md_outline.specs.HeadPairs.{near_pairs, pairs_from, head_pairs, near_heads, SpellPositions}

-- ---- the text of the pairs of one name

module _ {P : Type 0} {r : PairRules P} (law : ArePairRules r) where
  pair_text : (mark i j : ℕ) (ps : List P) → pairs_text_by r mark (r.pair i j ∷ ps) ≡ mark ∷ (decimal i ++ r.between ∷ (decimal j ++ pairs_text_by r 44 ps))
  pair_text mark i j ps = ap₂ (λ a b. mark ∷ (decimal a ++ r.between ∷ (decimal b ++ pairs_text_by r 44 ps))) (law.first_of i j) (law.second_of i j)

  module _ (e : ℕ → ℕ → Bool) (v low : ℕ) (pieces : List Piece) (start : List ℕ) (is_start : start ≡ 44 ∷ (decimal low ++ r.between ∷ [])) (more : List P) where
    one_text : (mark : ℕ) (mstart : List ℕ) → mstart ≡ mark ∷ (decimal low ++ r.between ∷ []) → (w j : ℕ) → text_at pieces w ≡ decimal j → (ps : List P) (rest : List ℕ) → rest ≡ pairs_text_by r 44 ps →
        (mstart ++ text_at pieces w) ++ rest ≡ pairs_text_by r mark (r.pair low j ∷ ps)
    one_text mark mstart is w j place ps rest others =
        (λ i. (is i ++ place i) ++ others i)
        ∙ ap (λ l. mark ∷ l) (append_assoc (decimal low ++ r.between ∷ []) (decimal j) (pairs_text_by r 44 ps) ∙ append_assoc (decimal low) (r.between ∷ []) (decimal j ++ pairs_text_by r 44 ps))
        ∙ sym (pair_text mark low j ps)

    near_text : (j : ℕ) (ws : List ℕ) → SpellPositions pieces j ws → texts_at pieces start (near_heads e v ws) ++ pairs_text_by r 44 more ≡ pairs_text_by r 44 (near_pairs r e v low j ws ++ more)
    unfolding texts_at
    near_text j [] places = refl
    near_text j (w ∷ ws) places = here (near_text (suc j) ws places.2) (e v w)
      where
        here : texts_at pieces start (near_heads e v ws) ++ pairs_text_by r 44 more ≡ pairs_text_by r 44 (near_pairs r e v low (suc j) ws ++ more) → (b : Bool) →
            texts_at pieces start (cond b (w ∷ near_heads e v ws) (near_heads e v ws)) ++ pairs_text_by r 44 more ≡ pairs_text_by r 44 (cond b (r.pair low j ∷ near_pairs r e v low (suc j) ws) (near_pairs r e v low (suc j) ws) ++ more)
        here rest true =
            append_assoc (start ++ text_at pieces w) (texts_at pieces start (near_heads e v ws)) (pairs_text_by r 44 more)
            ∙ one_text 44 start is_start w j places.1 (near_pairs r e v low (suc j) ws ++ more) (texts_at pieces start (near_heads e v ws) ++ pairs_text_by r 44 more) rest
        here rest false = rest

    -- the pairs of a name that has some, the first behind another mark
    pub first_text : (mark : ℕ) (mstart : List ℕ) → mstart ≡ mark ∷ (decimal low ++ r.between ∷ []) → (j x : ℕ) (left ws : List ℕ) → SpellPositions pieces j ws → near_heads e v ws ≡ x ∷ left →
        (mstart ++ text_at pieces x) ++ (texts_at pieces start left ++ pairs_text_by r 44 more) ≡ pairs_text_by r mark (near_pairs r e v low j ws ++ more)
    first_text mark mstart is j x left [] places cut = absurd (let f : 0 ≡ suc (length left) = ap length cut in omega arith)
    first_text mark mstart is j x left (w ∷ ws) places cut = here (first_text mark mstart is (suc j) x left ws places.2) (e v w) cut
      where
        here : (near_heads e v ws ≡ x ∷ left → (mstart ++ text_at pieces x) ++ (texts_at pieces start left ++ pairs_text_by r 44 more) ≡ pairs_text_by r mark (near_pairs r e v low (suc j) ws ++ more)) →
            (b : Bool) → cond b (w ∷ near_heads e v ws) (near_heads e v ws) ≡ x ∷ left →
            (mstart ++ text_at pieces x) ++ (texts_at pieces start left ++ pairs_text_by r 44 more) ≡ pairs_text_by r mark (cond b (r.pair low j ∷ near_pairs r e v low (suc j) ws) (near_pairs r e v low (suc j) ws) ++ more)
        here others true f =
            let same : w ≡ x = cc in
            let rest : near_heads e v ws ≡ left = cc in
            one_text mark mstart is x j (subst (λ y. text_at pieces y ≡ decimal j) same places.1) (near_pairs r e v low (suc j) ws ++ more) (texts_at pieces start left ++ pairs_text_by r 44 more)
            (ap (λ l. texts_at pieces start l ++ pairs_text_by r 44 more) (sym rest) ∙ near_text (suc j) ws places.2)
        here others false f = others f

  -- a name without near names has no pairs
  pub near_none : (e : ℕ → ℕ → Bool) (v low j : ℕ) (ws : List ℕ) → near_heads e v ws ≡ [] → near_pairs r e v low j ws ≡ []
  near_none e v low j [] none = refl
  near_none e v low j (w ∷ ws) none = here (near_none e v low (suc j) ws) (e v w) none
    where
      here : (near_heads e v ws ≡ [] → near_pairs r e v low (suc j) ws ≡ []) → (b : Bool) → cond b (w ∷ near_heads e v ws) (near_heads e v ws) ≡ [] → cond b (r.pair low j ∷ near_pairs r e v low (suc j) ws) (near_pairs r e v low (suc j) ws) ≡ []
      here more true f = let g : suc (length (near_heads e v ws)) ≡ 0 = ap length f in absurd (omega arith)
      here more false f = more f

  -- the bytes with the pairs of a name behind them, and then more pairs
  pub row_put : (e : ℕ → ℕ → Bool) (v low j : ℕ) (ws : List ℕ) (pieces : List Piece) (start mstart : List ℕ) (mark x : ℕ) (left before mid after : List ℕ) (more : List P) →
      start ≡ 44 ∷ (decimal low ++ r.between ∷ []) → mstart ≡ mark ∷ (decimal low ++ r.between ∷ []) → SpellPositions pieces j ws → near_heads e v ws ≡ x ∷ left →
      mid ≡ before ++ (mstart ++ text_at pieces x) → after ≡ mid ++ texts_at pieces start left → after ++ pairs_text_by r 44 more ≡ before ++ pairs_text_by r mark (near_pairs r e v low j ws ++ more)
  row_put e v low j ws pieces start mstart mark x left before mid after more is first_is places cut one others =
      let rest = pairs_text_by r 44 more in
      ap (λ l. l ++ rest) (others ∙ ap (λ l. l ++ texts_at pieces start left) one)
      ∙ append_assoc (before ++ (mstart ++ text_at pieces x)) (texts_at pieces start left) rest
      ∙ append_assoc before (mstart ++ text_at pieces x) (texts_at pieces start left ++ rest)
      ∙ ap (λ l. before ++ l) (first_text e v low pieces start is more mark mstart first_is j x left ws places cut)

  -- the same of a name without pairs
  pub row_empty : (e : ℕ → ℕ → Bool) (v low j : ℕ) (ws : List ℕ) (before : List ℕ) (mark : ℕ) (more : List P) → near_heads e v ws ≡ [] →
      before ++ pairs_text_by r mark more ≡ before ++ pairs_text_by r mark (near_pairs r e v low j ws ++ more)
  row_empty e v low j ws before mark more none = ap (λ qs. before ++ pairs_text_by r mark (qs ++ more)) (sym (near_none e v low j ws none))

-- ---- the names that have a pair with a name

-- the numbers ascend, from low on and below n
abbrev pub Rises : ℕ → ℕ → List ℕ → Type 0
Rises low n [] = ⊤
Rises low n (w ∷ ws) = (low ≤ w) × (w < n) × Rises (w + 1) n ws

rises_from : (low n : ℕ) (ws : List ℕ) → Rises low n ws → (x : ℕ) → In ws x → (low ≤ x) × (x < n)
rises_from low n [] r x i = absurd i
rises_from low n (w ∷ ws) r x (inl e) = (let a : low ≤ w = r.0 in omega arith, let b : w < n = r.1 in omega arith)
rises_from low n (w ∷ ws) r x (inr i) =
    let s : (w + 1 ≤ x) × (x < n) = rises_from (w + 1) n ws r.2 x i in
    (let a : low ≤ w = r.0 in let b : w + 1 ≤ x = s.0 in omega arith, s.1)

near_listed : (e : ℕ → ℕ → Bool) (v : ℕ) (s : NameSet) (low n : ℕ) (ws : List ℕ) (base : ℕ) → low ≤ n → Rises base n ws → ((x : ℕ) → low ≤ x → Has s x → In ws x × (e v x ≡ true)) → ((x : ℕ) → In ws x → e v x ≡ true → Has s x × (low ≤ x)) →
    ascending_between s low n ≡ near_heads e v ws
near_listed e v s low n [] base up r of to = ascending_none s low n (λ x a b. elim (cases_Bool (contains s x)) [ inl h ↦ absurd (of x a h).0 | inr l ↦ l ])
near_listed e v s low n (w ∷ ws) base up r of to =
    elim (cases_Bool (e v w)) [
      | inl t ↦
          ascending_step s low n w (record {
            member = (to w (inl refl) t).0;
            above = (to w (inl refl) t).1;
            below = r.1;
            first = λ x h a b. elim (of x a h).0 [
              | inl same ↦ omega arith
              | inr i ↦ (let c : w + 1 ≤ x = (rises_from (w + 1) n ws r.2 x i).0 in omega arith)
            ];
          })
          ∙ ap (λ l. w ∷ l) (near_listed e v s (w + 1) n ws (w + 1) (let b : w < n = r.1 in omega arith) r.2
          (λ x a h.
          let c : w + 1 ≤ x = a in
          let l : low ≤ w = (to w (inl refl) t).1 in
          let p = of x (omega arith) h in
          (elim p.0 [ inl same ↦ absurd (omega arith) | inr i ↦ i ], p.1))
          (λ x i h. ((to x (inr i) h).0, (rises_from (w + 1) n ws r.2 x i).0)))
          ∙ ap (λ b. cond b (w ∷ near_heads e v ws) (near_heads e v ws)) (sym t)
      | inr f ↦
          near_listed e v s low n ws (w + 1) up r.2
          (λ x a h. let p = of x a h in (elim p.0 [ inl same ↦ clash p.1 (subst (λ y. e v y ≡ false) (sym same) f) | inr i ↦ i ], p.1))
          (λ x i. to x (inr i))
          ∙ ap (λ b. cond b (w ∷ near_heads e v ws) (near_heads e v ws)) (sym f)
    ]

-- ---- name after name

ascend_far : (ms : List ℕ) → Ascends ms → (i d : ℕ) → i + suc d < length ms → get_or ms i 0 < get_or ms (i + suc d) 0
ascend_far ms up i zero below =
    let n : i + 1 ≡ suc i = omega arith in
    subst (λ j. get_or ms i 0 < get_or ms j 0) (sym n) (up i (omega arith))
ascend_far ms up i (suc d) below =
    let n : i + suc (suc d) ≡ suc (i + suc d) = omega arith in
    let a : get_or ms i 0 < get_or ms (i + suc d) 0 = ascend_far ms up i d (omega arith) in
    let b : get_or ms (i + suc d) 0 < get_or ms (suc (i + suc d)) 0 = up (i + suc d) (omega arith) in
    subst (λ j. get_or ms i 0 < get_or ms j 0) (sym n) (omega arith)

pub ascend_two : (ms : List ℕ) → Ascends ms → (i j : ℕ) → i < j → j < length ms → get_or ms i 0 < get_or ms j 0
ascend_two ms up i j less below =
    let sum : i + suc (j - suc i) ≡ j = omega arith in
    subst (λ n. get_or ms i 0 < get_or ms n 0) sum (ascend_far ms up i (j - suc i) (omega arith))

rises_of : (vs : List ℕ) (n : ℕ) → ((i j : ℕ) → i < j → j < length vs → get_or vs i 0 < get_or vs j 0) → ((i : ℕ) → i < length vs → get_or vs i 0 < n) → (low : ℕ) → (0 < length vs → low ≤ get_or vs 0 0) → Rises low n vs
rises_of [] n up below low from = tt
rises_of (v ∷ vs) n up below low from = (
  from (let b : 0 < suc (length vs) = omega arith in b),
  below 0 (let b : 0 < suc (length vs) = omega arith in b),
  rises_of vs n
      (λ i j less h. up (suc i) (suc j) (let b : i < j = less in let c : suc i < suc j = omega arith in c) (let b : j < length vs = h in let c : suc j < suc (length vs) = omega arith in c))
      (λ i h. below (suc i) (let b : i < length vs = h in let c : suc i < suc (length vs) = omega arith in c))
      (v + 1)
      (λ some. let a : v < get_or vs 0 0 = up 0 1 (omega arith) (let b : 0 < length vs = some in let c : 1 < suc (length vs) = omega arith in c) in omega arith),
)

of_set : (xs : List ℕ) (y : ℕ) → Has (from_list xs) y → In xs y
of_set [] y h = clash h (empty_lacks y)
of_set (x ∷ xs) y h = elim (of_insert (from_list xs) x y h) [ inl e ↦ inl e | inr r ↦ inr (of_set xs y r) ]

pub to_set : (xs : List ℕ) (y : ℕ) → In xs y → Has (from_list xs) y
to_set [] y i = absurd i
to_set (x ∷ xs) y (inl e) = subst (Has (insert (from_list xs) x)) (sym e) (insert_new (from_list xs) x)
to_set (x ∷ xs) y (inr i) = insert_old (from_list xs) x y (to_set xs y i)

places_there : (e : ℕ → ℕ → Bool) (v : ℕ) (pieces : List Piece) (j : ℕ) (ws : List ℕ) → SpellPositions pieces j ws → All (λ w. w < length pieces) (near_heads e v ws)
places_there e v pieces j [] p = λ k d below. let b : k < 0 = below in absurd (omega arith)
places_there e v pieces j (w ∷ ws) p = here (places_there e v pieces (suc j) ws p.2) (e v w)
  where
    here : All (λ w. w < length pieces) (near_heads e v ws) → (b : Bool) → All (λ w. w < length pieces) (cond b (w ∷ near_heads e v ws) (near_heads e v ws))
    here rest false k d below = rest k d below
    here rest true zero d below = p.0
    here rest true (suc k) d below = rest k d (let b : suc k < suc (length (near_heads e v ws)) = below in omega arith)

-- ---- pieces that are gathered

-- a piece and the one at an index
pub pair_put : (before mid first : List ℕ) (pieces : List Piece) (i : ℕ) (piece : Piece) → mid ≡ (before ++ first) ++ piece_text piece → piece ≡ get_or pieces i piece → i < length pieces → mid ≡ before ++ (first ++ text_at pieces i)
pair_put before mid first pieces i piece put is there =
    let at : piece_text piece ≡ text_at pieces i = ap piece_text is ∙ sym (ap (λ o. option_map_or piece_text o []) (slice_get-get_or pieces i piece there)) in
    put ∙ append_assoc before first (piece_text piece) ∙ ap (λ l. before ++ (first ++ l)) at

-- the first name of a row, and the others
pub first_near : (near : NameSet) (from first : ℕ) → IsLeastFrom near from first → first < NAMES → ascending_from near from ≡ first ∷ ascending_from near (first + 1)
first_near near from first least name = ascending_step near from NAMES first (record { member = least.member; above = least.above; below = name; first = λ w m above below. least.first w m above })

pub first_there : (pieces : List Piece) (names rest : List ℕ) (x : ℕ) → names ≡ x ∷ rest → All (λ v. v < length pieces) names → (x < length pieces) × All (λ v. v < length pieces) rest
first_there pieces names rest x cut there =
    let all : All (λ v. v < length pieces) (x ∷ rest) = subst (All (λ v. v < length pieces)) cut there in
    (All-head (λ v. v < length pieces) x rest all, All-tail (λ v. v < length pieces) x rest all)

-- ---- the names that a head has a pair with

module _ (e : ℕ → ℕ → Bool) (list : List ℕ) (up : Ascends list) (names : (k : ℕ) → k < length list → get_or list k 0 < NAMES) (v : ℕ) (row near all : NameSet) (from : ℕ) (few : from ≤ NAMES)
    (is_all : all ≡ from_list list) (is_near : near ≡ intersection row all) (is_row : (y : ℕ) → (e v y ≡ true) ↔ (Has row y × (from ≤ y))) where
  -- they are the names of the row among those of the list, from a number on
  pub near_is : ascending_from near from ≡ near_heads e v list
  near_is = near_listed e v near from NAMES list 0 few (rises_of list NAMES (ascend_two list up) names 0 (λ some. omega arith))
      (λ x a h. let t = of_meet row all x (subst (λ s. Has s x) is_near h) in (of_set list x (subst (λ s. Has s x) is_all t.1), (is_row x).1 (t.0, a)))
      (λ x inside edge.
      let t = (is_row x).0 edge in
      (subst (λ s. Has s x) (sym is_near) (meet_has row all x t.0 (subst (λ s. Has s x) (sym is_all) (to_set list x inside))), t.1))

  -- each of them has its place
  pub near_there : (pieces : List Piece) → SpellPositions pieces 0 list → All (λ w. w < length pieces) (ascending_from near from)
  near_there pieces places = subst (All (λ w. w < length pieces)) (sym near_is) (places_there e v pieces 0 list places)

module _ {P : Type 0} (r : PairRules P) (e : ℕ → ℕ → Bool) (list : List ℕ) where
  -- the pairs of the names before the position i are put behind `before`
  pub record AreHeadsPut (i : ℕ) (before now : List ℕ) (mark : ℕ) (pieces : List Piece) : Type 0 where
    pub text : now ++ pairs_text_by r mark (pairs_from r e list i (drop i list)) ≡ before ++ pairs_text_by r 59 (head_pairs r e list)
    pub places : SpellPositions pieces 0 list

  pub heads_begin : (before : List ℕ) (pieces : List Piece) → SpellPositions pieces 0 list → AreHeadsPut 0 before before 59 pieces
  heads_begin before pieces places = record { text = refl; places = places }

  pub heads_end : (i : ℕ) (before now : List ℕ) (mark : ℕ) (pieces : List Piece) → length list ≤ i → AreHeadsPut i before now mark pieces → now ≡ before ++ pairs_text_by r 59 (head_pairs r e list)
  heads_end i before now mark pieces over p = sym (append-nil now) ∙ ap (λ l. now ++ pairs_text_by r mark (pairs_from r e list i l)) (sym (drop_all i list over)) ∙ p.text

  -- what is to come behind: the pairs of the name at the position i, and those of the names behind it
  pub heads_left : (i : ℕ) → i < length list → (before now : List ℕ) (mark : ℕ) (pieces : List Piece) → AreHeadsPut i before now mark pieces →
      now ++ pairs_text_by r mark (near_pairs r e (get_or list i 0) i 0 list ++ pairs_from r e list (i + 1) (drop (i + 1) list)) ≡ before ++ pairs_text_by r 59 (head_pairs r e list)
  heads_left i below before now mark pieces p =
      let v = get_or list i 0 in
      let one : i + 1 ≡ suc i = omega arith in
      let cut : drop i list ≡ v ∷ drop (i + 1) list = drop_more list i 0 below in
      ap (λ n. now ++ pairs_text_by r mark (near_pairs r e v i 0 list ++ pairs_from r e list n (drop (i + 1) list))) one
      ∙ ap (λ l. now ++ pairs_text_by r mark (pairs_from r e list i l)) (sym cut) ∙ p.text

  pub heads_more : (i : ℕ) → i < length list → (before now : List ℕ) (mark : ℕ) (pieces : List Piece) → AreHeadsPut i before now mark pieces → (far : List ℕ) (next : ℕ) (kept : List Piece) (listed : List ℕ) → kept ≡ pieces →
      listed ≡ near_heads e (get_or list i 0) list →
      ((f : ℕ → ℕ → Bool) (u j : ℕ) (ws : List ℕ) (more : List P) → SpellPositions pieces j ws → listed ≡ near_heads f u ws → far ++ pairs_text_by r next more ≡ now ++ pairs_text_by r mark (near_pairs r f u i j ws ++ more)) →
      AreHeadsPut (i + 1) before far next kept
  heads_more i below before now mark pieces p far next kept listed same are row_done = record {
    text = row_done e (get_or list i 0) 0 list (pairs_from r e list (i + 1) (drop (i + 1) list)) p.places are ∙ heads_left i below before now mark pieces p;
    places = subst (λ l. SpellPositions l 0 list) (sym same) p.places;
  }

-- ascending names below a limit are as few as names below it
rises_few : (low n : ℕ) (ws : List ℕ) → low ≤ n → Rises low n ws → low + length ws ≤ n
rises_few low n [] up r = omega arith
rises_few low n (w ∷ ws) up r =
    let a : low ≤ w = r.0 in let b : w < n = r.1 in
    let rest : (w + 1) + length ws ≤ n = rises_few (w + 1) n ws (omega arith) r.2 in
    let all : low + suc (length ws) ≤ n = omega arith in
    all

pub few_heads : (vs : List ℕ) (n : ℕ) → Ascends vs → ((i : ℕ) → i < length vs → get_or vs i 0 < n) → length vs ≤ n
few_heads vs n up below = let a : 0 + length vs ≤ n = rises_few 0 n vs (omega arith) (rises_of vs n (ascend_two vs up) below 0 (λ some. omega arith)) in omega arith

-- ---- the places of heads

places_from : (pieces : List Piece) (j : ℕ) (vs : List ℕ) → ((k : ℕ) → k < length vs → (get_or vs k 0 < length pieces) × (text_at pieces (get_or vs k 0) ≡ decimal (j + k))) → SpellPositions pieces j vs
places_from pieces j [] each = tt
places_from pieces j (v ∷ vs) each =
    let here = each 0 (let b : 0 < suc (length vs) = omega arith in b) in
    let none : j + 0 ≡ j = omega arith in (
      here.0,
      here.1 ∙ ap decimal none,
      places_from pieces (suc j) vs
          (λ k below.
          let r = each (suc k) (let b : k < length vs = below in let c : suc k < suc (length vs) = omega arith in c) in
          let sum : j + suc k ≡ suc j + k = omega arith in
          (r.0, r.1 ∙ ap decimal sum)),
    )

-- ascending names are at most the last of them
pub all_below_last : (vs : List ℕ) (n : ℕ) → ((i j : ℕ) → i < j → j < length vs → get_or vs i 0 < get_or vs j 0) → get_or vs (length vs - 1) 0 < n → (i : ℕ) → i < length vs → get_or vs i 0 < n
all_below_last vs n up last i below = elim (cases_lt i (length vs - 1)) [
  | inl less ↦ (let a = up i (length vs - 1) less (omega arith) in omega arith)
  | inr over ↦ (let same : i ≡ length vs - 1 = omega arith in subst (λ k. get_or vs k 0 < n) (sym same) last)
]

pub places_all : (pieces : List Piece) (vs : List ℕ) (n : ℕ) → length vs ≤ n → ((i : ℕ) → i < length vs → get_or vs i 0 < length pieces) →
    ((k : ℕ) → k < n → text_at pieces (get_or vs k 0) ≡ decimal k) → SpellPositions pieces 0 vs
places_all pieces vs n size below spelled =
    places_from pieces 0 vs (λ k b. let sum : 0 + k ≡ k = omega arith in (below k b, spelled k (omega arith) ∙ ap decimal (sym sum)))

-- ---- which pairs are listed

module _ {P : Type 0} {r : PairRules P} (law : ArePairRules r) where
  near_low : (e : ℕ → ℕ → Bool) (v low j : ℕ) (ws : List ℕ) (p : P) → In (near_pairs r e v low j ws) p → (r.first p ≡ low) × (j ≤ r.second p) × (r.second p < j + length ws)
  near_low e v low j [] p i = absurd i
  near_low e v low j (w ∷ ws) p i = here (λ k. near_low e v low (suc j) ws p k) (e v w) i
    where
      here : (In (near_pairs r e v low (suc j) ws) p → (r.first p ≡ low) × (suc j ≤ r.second p) × (r.second p < suc j + length ws)) → (b : Bool) →
          In (cond b (r.pair low j ∷ near_pairs r e v low (suc j) ws) (near_pairs r e v low (suc j) ws)) p → (r.first p ≡ low) × (j ≤ r.second p) × (r.second p < j + suc (length ws))
      here more true (inl same) = let h : r.second p ≡ j = ap r.second same ∙ law.second_of low j in (ap r.first same ∙ law.first_of low j, omega arith, omega arith)
      here more true (inr k) = let t = more k in let a : suc j ≤ r.second p = t.1 in let b : r.second p < suc j + length ws = t.2 in (t.0, omega arith, omega arith)
      here more false k = let t = more k in let a : suc j ≤ r.second p = t.1 in let b : r.second p < suc j + length ws = t.2 in (t.0, omega arith, omega arith)

  pub pairs_within : (e : ℕ → ℕ → Bool) (list : List ℕ) (i : ℕ) (vs : List ℕ) (p : P) → In (pairs_from r e list i vs) p → (i ≤ r.first p) × (r.first p < i + length vs) × (r.second p < length list)
  pairs_within e list i [] p k = absurd k
  pairs_within e list i (v ∷ vs) p k = elim (of_append (near_pairs r e v i 0 list) (pairs_from r e list (suc i) vs) p k) [
    | inl n ↦
        let t : (r.first p ≡ i) × (0 ≤ r.second p) × (r.second p < 0 + length list) = near_low e v i 0 list p n in
        let a : r.first p ≡ i = t.0 in let c : r.second p < 0 + length list = t.2 in
        let d : r.first p < i + suc (length vs) = omega arith in (omega arith, d, omega arith)
    | inr m ↦
        let t : (suc i ≤ r.first p) × (r.first p < suc i + length vs) × (r.second p < length list) = pairs_within e list (suc i) vs p m in
        let a : suc i ≤ r.first p = t.0 in let b : r.first p < suc i + length vs = t.1 in
        let d : r.first p < i + suc (length vs) = omega arith in (omega arith, d, t.2)
  ]

  near_later : (e : ℕ → ℕ → Bool) (v low j : ℕ) (ws : List ℕ) → Later (IsPairBeforeBy r) (near_pairs r e v low j ws)
  near_later e v low j [] = tt
  near_later e v low j (w ∷ ws) = here (near_later e v low (suc j) ws) (e v w)
    where
      here : Later (IsPairBeforeBy r) (near_pairs r e v low (suc j) ws) → (b : Bool) → Later (IsPairBeforeBy r) (cond b (r.pair low j ∷ near_pairs r e v low (suc j) ws) (near_pairs r e v low (suc j) ws))
      here more true = (
        (λ q k.
            let t = near_low e v low (suc j) ws q k in
            let a : suc j ≤ r.second q = t.1 in let b : r.second (r.pair low j) ≡ j = law.second_of low j in
            inr (law.first_of low j ∙ sym t.0, omega arith)),
        more,
      )
      here more false = more

  pub pairs_later : (e : ℕ → ℕ → Bool) (list : List ℕ) (i : ℕ) (vs : List ℕ) → Later (IsPairBeforeBy r) (pairs_from r e list i vs)
  pairs_later e list i [] = tt
  pairs_later e list i (v ∷ vs) = later_append (IsPairBeforeBy r) (near_pairs r e v i 0 list) (pairs_from r e list (suc i) vs) (near_later e v i 0 list) (pairs_later e list (suc i) vs)
      (λ p q k m. inl (let a : r.first p ≡ i = (near_low e v i 0 list p k).0 in let b : suc i ≤ r.first q = (pairs_within e list (suc i) vs q m).0 in omega arith))

  near_in : (e : ℕ → ℕ → Bool) (v low j : ℕ) (ws : List ℕ) (k : ℕ) → k < length ws → e v (get_or ws k 0) ≡ true → In (near_pairs r e v low j ws) (r.pair low (j + k))
  near_in e v low j [] k below t = let b : k < 0 = below in absurd (omega arith)
  near_in e v low j (w ∷ ws) zero below t =
      let none : j + 0 ≡ j = omega arith in
      ap_cond (e v w) t (inl (ap (λ n. r.pair low n) none))
    where
      ap_cond : (b : Bool) → b ≡ true → In (r.pair low j ∷ near_pairs r e v low (suc j) ws) (r.pair low (j + 0)) → In (cond b (r.pair low j ∷ near_pairs r e v low (suc j) ws) (near_pairs r e v low (suc j) ws)) (r.pair low (j + 0))
      ap_cond true is h = h
      ap_cond false is h = absurd (true≢false (sym is))
  near_in e v low j (w ∷ ws) (suc k) below t =
      let b : suc k < suc (length ws) = below in
      let sum : j + suc k ≡ suc j + k = omega arith in
      here (e v w) (subst (λ n. In (near_pairs r e v low (suc j) ws) (r.pair low n)) (sym sum) (near_in e v low (suc j) ws k (omega arith) t))
    where
      here : (b : Bool) → In (near_pairs r e v low (suc j) ws) (r.pair low (j + suc k)) → In (cond b (r.pair low j ∷ near_pairs r e v low (suc j) ws) (near_pairs r e v low (suc j) ws)) (r.pair low (j + suc k))
      here true h = inr h
      here false h = h

  same_second : (low j k : ℕ) → r.pair low j ≡ r.pair low k → j ≡ k
  same_second low j k same = sym (law.second_of low j) ∙ ap r.second same ∙ law.second_of low k

  in_near : (e : ℕ → ℕ → Bool) (v low j : ℕ) (ws : List ℕ) (k : ℕ) → In (near_pairs r e v low j ws) (r.pair low (j + k)) → e v (get_or ws k 0) ≡ true
  in_near e v low j [] k i = absurd i
  in_near e v low j (w ∷ ws) k i = here (λ m. in_near e v low (suc j) ws m) (e v w) refl k i
    where
      here : ((m : ℕ) → In (near_pairs r e v low (suc j) ws) (r.pair low (suc j + m)) → e v (get_or ws m 0) ≡ true) → (b : Bool) → e v w ≡ b → (k : ℕ) →
          In (cond b (r.pair low j ∷ near_pairs r e v low (suc j) ws) (near_pairs r e v low (suc j) ws)) (r.pair low (j + k)) → e v (get_or (w ∷ ws) k 0) ≡ true
      here more true is zero h = is
      here more true is (suc k) (inl same) = let f : j + suc k ≡ j = same_second low (j + suc k) j same in absurd (omega arith)
      here more true is (suc k) (inr h) =
          let sum : j + suc k ≡ suc j + k = omega arith in
          more k (subst (λ n. In (near_pairs r e v low (suc j) ws) (r.pair low n)) sum h)
      here more false is zero h =
          let t = near_low e v low (suc j) ws (r.pair low (j + 0)) h in
          let s : r.second (r.pair low (j + 0)) ≡ j + 0 = law.second_of low (j + 0) in
          let f : suc j ≤ r.second (r.pair low (j + 0)) = t.1 in absurd (omega arith)
      here more false is (suc k) h =
          let sum : j + suc k ≡ suc j + k = omega arith in
          more k (subst (λ n. In (near_pairs r e v low (suc j) ws) (r.pair low n)) sum h)

  heads_in : (e : ℕ → ℕ → Bool) (list : List ℕ) (o : ℕ) (vs : List ℕ) (i k : ℕ) → i < length vs → k < length list → e (get_or vs i 0) (get_or list k 0) ≡ true → In (pairs_from r e list o vs) (r.pair (o + i) k)
  heads_in e list o [] i k below in_list t = let b : i < 0 = below in absurd (omega arith)
  heads_in e list o (v ∷ vs) zero k below in_list t =
      let first : o + 0 ≡ o = omega arith in
      let second : 0 + k ≡ k = omega arith in
      in_left (near_pairs r e v o 0 list) (pairs_from r e list (suc o) vs) (r.pair (o + 0) k)
      (subst (λ n. In (near_pairs r e v o 0 list) (r.pair n k)) (sym first) (subst (λ n. In (near_pairs r e v o 0 list) (r.pair o n)) second (near_in e v o 0 list k in_list t)))
  heads_in e list o (v ∷ vs) (suc i) k below in_list t =
      let b : suc i < suc (length vs) = below in
      let first : o + suc i ≡ suc o + i = omega arith in
      in_right (near_pairs r e v o 0 list) (pairs_from r e list (suc o) vs) (r.pair (o + suc i) k)
      (subst (λ n. In (pairs_from r e list (suc o) vs) (r.pair n k)) (sym first) (heads_in e list (suc o) vs i k (omega arith) in_list t))

  in_heads : (e : ℕ → ℕ → Bool) (list : List ℕ) (o : ℕ) (vs : List ℕ) (i k : ℕ) → In (pairs_from r e list o vs) (r.pair (o + i) k) → e (get_or vs i 0) (get_or list k 0) ≡ true
  in_heads e list o [] i k h = absurd h
  in_heads e list o (v ∷ vs) zero k h =
      let first : o + 0 ≡ o = omega arith in
      let second : 0 + k ≡ k = omega arith in
      elim (of_append (near_pairs r e v o 0 list) (pairs_from r e list (suc o) vs) (r.pair (o + 0) k) h) [
        | inl n ↦ in_near e v o 0 list k (subst (λ m. In (near_pairs r e v o 0 list) (r.pair o m)) (sym second) (subst (λ m. In (near_pairs r e v o 0 list) (r.pair m k)) first n))
        | inr m ↦
            (let a : suc o ≤ r.first (r.pair (o + 0) k) = (pairs_within e list (suc o) vs (r.pair (o + 0) k) m).0 in
            let b : r.first (r.pair (o + 0) k) ≡ o + 0 = law.first_of (o + 0) k in absurd (omega arith))
      ]
  in_heads e list o (v ∷ vs) (suc i) k h =
      let first : o + suc i ≡ suc o + i = omega arith in
      elim (of_append (near_pairs r e v o 0 list) (pairs_from r e list (suc o) vs) (r.pair (o + suc i) k) h) [
        | inl n ↦
            (let a : r.first (r.pair (o + suc i) k) ≡ o = (near_low e v o 0 list (r.pair (o + suc i) k) n).0 in
            let b : r.first (r.pair (o + suc i) k) ≡ o + suc i = law.first_of (o + suc i) k in absurd (omega arith))
        | inr m ↦ in_heads e list (suc o) vs i k (subst (λ n. In (pairs_from r e list (suc o) vs) (r.pair n k)) first m)
      ]

  -- a pair of positions is listed exactly where the names there have a pair
  pub listed_in : (e : ℕ → ℕ → Bool) (list : List ℕ) (i k : ℕ) → i < length list → k < length list → e (get_or list i 0) (get_or list k 0) ≡ true → In (head_pairs r e list) (r.pair i k)
  listed_in e list i k below in_list t = let none : 0 + i ≡ i = omega arith in subst (λ n. In (head_pairs r e list) (r.pair n k)) none (heads_in e list 0 list i k below in_list t)

  pub in_listed : (e : ℕ → ℕ → Bool) (list : List ℕ) (i k : ℕ) → In (head_pairs r e list) (r.pair i k) → e (get_or list i 0) (get_or list k 0) ≡ true
  in_listed e list i k h = let none : 0 + i ≡ i = omega arith in in_heads e list 0 list i k (subst (λ n. In (head_pairs r e list) (r.pair n k)) (sym none) h)
