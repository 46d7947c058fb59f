-- How texts go on behind a part that is read, and where they can't.
use Rattle.std.proofs.Common.{◌≡◌, ◌≢◌, ℕ, ◌<◌, ◌≤◌, Bool, true, false, List, [], ◌∷◌, ◌++◌, length, get_or, take, drop, zero, suc, true≢false, append_assoc, append-nil, refl, sym, ◌∙◌, ap, subst, inl, inr, arith}
use Rattle.std.specs.Prelude.{Result, Ok, Err, IfErr}
use Rattle.md_text.specs.Numbers.{decimal, value, IsCanonical}
use Rattle.std.specs.Char.{is_ascii_digit}
use Rattle.std.specs.List.{list_all}
use Rattle.std.proofs.lemmas.List.{take-append-drop, length-take-le, get_or-take, same_from_push}
use Rattle.md_text.proofs.NumberLemmas.{decimal_digit, decimal-value, digit_within, digit_bounds, AllPass-from_list_all}
use Rattle.md_tree.specs.Trees.{PlainTreeOf, PlainTreesOf, leaf, node, no_tree, one_more, count, EachNode, EachNodeBelow}
use Rattle.md_tree.specs.Spellings.{Spelling, IsSpelling}
use Rattle.md_tree.specs.TreeTexts.{pairs_text_by, tree_text_by, row_text_by}
use Rattle.md_tree.specs.Grammar.{HasPairsIf, IsSpelledNode}
use Rattle.md_text.specs.Fronts.{IsDigit, IsPastDigits, LacksFirst}
use Rattle.md_tree.specs.Languages.{HeadsAgree, IsTreeText, Tail, TreeThen, NumberThen, ByteThen, PairsThen, PairThen, GoesOn, IsStuck, IsNumberBefore, IsNoNumber, outermost_first}
use Rattle.md_text.proofs.FrontLemmas.{same_number, number_first, number_no_stop, zero_alone}
use Rattle.md_tree.proofs.Texts.{pairs_stop, pair_spelled, row_stops, pairs_end, node_spelled, row_spelled}

agree_more : (tail front x : List ℕ) → HeadsAgree tail x → HeadsAgree (front ++ tail) (front ++ x)
agree_more tail [] x h = h
agree_more tail (b ∷ front) x h = (front ++ x, refl)

agree_stops : (r z : List ℕ) → HeadsAgree r z → IsPastDigits r → IsPastDigits z
agree_stops [] z h s = subst IsPastDigits (sym h) tt
agree_stops (b ∷ r) z h s = subst IsPastDigits (sym h.1) s

agree_digit : (r z : List ℕ) → HeadsAgree r z → ¬ (IsPastDigits r) → ¬ (IsPastDigits z)
agree_digit [] z h n s = n tt
agree_digit (b ∷ r) z h n s = let t : IsPastDigits (b ∷ h.0) = subst IsPastDigits h.1 s in n t

agree_lacks : (b : ℕ) (r z : List ℕ) → HeadsAgree r z → LacksFirst b r → LacksFirst b z
agree_lacks b [] z h n x e = let f : [] ≡ b ∷ x = sym h ∙ e in cc
agree_lacks b (c ∷ r) z h n x e = let f : c ∷ h.0 ≡ b ∷ x = sym h.1 ∙ e in let g : c ≡ b = cc in n r (ap (λ w. w ∷ r) g)

module _ (L K : List ℕ → Type 0) where
  pub goes_then : (M : List ℕ → Type 0) (text mid tail : List ℕ) → GoesOn L text K mid → GoesOn K mid M tail → GoesOn L text M tail
  goes_then M text mid tail a b = record {
    front = a.front ++ b.front;
    whole = a.whole ∙ ap (λ w. a.front ++ w) b.whole ∙ sym (append_assoc a.front b.front tail);
    makes = λ x m. subst L (sym (append_assoc a.front b.front x)) (a.makes (b.front ++ x) (b.makes x m));
    leaves = λ x h l. b.leaves x h (a.leaves (b.front ++ x) (subst (λ y. HeadsAgree y (b.front ++ x)) (sym b.whole) (agree_more tail b.front x h)) (subst L (append_assoc a.front b.front x) l));
  }

  pub stuck_then : (text mid tail : List ℕ) → GoesOn L text K mid → IsStuck K mid tail → IsStuck L text tail
  stuck_then text mid tail a b = record {
    front = a.front ++ b.front;
    whole = a.whole ∙ ap (λ w. a.front ++ w) b.whole ∙ sym (append_assoc a.front b.front tail);
    more = b.more;
    begins = subst L (sym (append_assoc a.front b.front b.more)) (a.makes (b.front ++ b.more) b.begins);
    ends = λ x h l. b.ends x h (a.leaves (b.front ++ x) (subst (λ y. HeadsAgree y (b.front ++ x)) (sym b.whole) (agree_more tail b.front x h)) (subst L (append_assoc a.front b.front x) l));
  }

module _ (L : List ℕ → Type 0) where
  stuck_here : (text more : List ℕ) → L more → ((x : List ℕ) → HeadsAgree text x → L x → ⊥) → IsStuck L text text
  stuck_here text more m ends = record { front = []; whole = refl; more = more; begins = m; ends = ends }

  pub goes_here : (text : List ℕ) → GoesOn L text L text
  goes_here text = record { front = []; whole = refl; makes = λ x m. m; leaves = λ x h l. l }

-- numbers
module _ (P : List ℕ → Type 0) (stops : (x : List ℕ) → P x → IsPastDigits x) where
  pub number_goes : (text tail : List ℕ) → IsNumberBefore text tail → GoesOn (NumberThen P) text P tail
  number_goes text tail b = record {
    front = decimal b.0;
    whole = b.1;
    makes = λ x p. record { number = b.0; behind = x; text = refl; then = p };
    leaves = λ x h l.
        let same : (b.0 ≡ l.number) × (x ≡ l.behind) = same_number b.0 l.number x l.behind (agree_stops tail x h b.2) (stops l.behind l.then) l.text in
        subst P (sym same.1) l.then;
  }

  pub number_stuck : (some : List ℕ) → P some → (text tail : List ℕ) → IsNoNumber text tail → IsStuck (NumberThen P) text tail
  number_stuck some p text tail (inl e) =
      subst (λ y. IsStuck (NumberThen P) y tail) (sym e.0)
      (stuck_here (NumberThen P) tail (decimal 0 ++ some) (record { number = 0; behind = some; text = refl; then = p })
      (λ x h l. number_no_stop l.number l.behind x l.text (agree_stops tail x h e.1)))
  number_stuck some p text tail (inr e) = record {
    front = 48 ∷ [];
    whole = e.0;
    more = some;
    begins = record { number = 0; behind = some; text = ap (λ ds. ds ++ some) (sym (decimal_digit 0 (omega arith))); then = p };
    ends = λ x h l. agree_digit tail x h e.1 (zero_alone l.number l.behind x (stops l.behind l.then) (sym l.text));
  }

-- bytes
module _ (b : ℕ) (P : List ℕ → Type 0) where
  pub byte_goes : (text tail : List ℕ) → text ≡ b ∷ tail → GoesOn (ByteThen b P) text P tail
  byte_goes text tail e = record {
    front = b ∷ [];
    whole = e;
    makes = λ x p. record { behind = x; text = refl; then = p };
    leaves = λ x h l. let f : b ∷ x ≡ b ∷ l.behind = l.text in let g : x ≡ l.behind = cc in subst P (sym g) l.then;
  }

  pub byte_stuck : (some : List ℕ) → P some → (text tail : List ℕ) → tail ≡ text → LacksFirst b text → IsStuck (ByteThen b P) text tail
  byte_stuck some p text tail e lacks =
      subst (λ y. IsStuck (ByteThen b P) text y) (sym e)
      (stuck_here (ByteThen b P) text (b ∷ some) (record { behind = some; text = refl; then = p })
      (λ x h l. agree_lacks b text x h lacks l.behind l.text))

module _ {K P : Type 0} {sp : Spelling K P} (law : IsSpelling sp) where
  abbrev letter : K → ℕ
  letter = sp.kinds.letter

  abbrev lists : K → Bool
  lists = sp.kinds.lists

  abbrev fst : P → ℕ
  fst = sp.pairs.first

  abbrev snd : P → ℕ
  snd = sp.pairs.second

  abbrev between : ℕ
  between = sp.pairs.between

  abbrev pairs_text : ℕ → List P → List ℕ
  pairs_text = pairs_text_by sp.pairs

  abbrev tree_text : PlainTreeOf K P → List ℕ
  tree_text = tree_text_by sp

  abbrev row_text : ℕ → PlainTreesOf K P → List ℕ
  row_text = row_text_by sp

  -- the ends of nodes
  abbrev some_pairs : Bool → List P
  some_pairs true = sp.pairs.pair 0 1 ∷ []
  some_pairs false = []

  some_right : (b : Bool) → HasPairsIf b (some_pairs b)
  some_right true = λ e. cc
  some_right false = refl

  pub some_tail : (ks : List K) → (x : List ℕ) × Tail sp ks x
  some_tail [] = ([], refl)
  some_tail (k ∷ ks) =
      let r = some_tail ks in
      (pairs_text 59 (some_pairs (lists k)) ++ 41 ∷ r.0, record { others = no_tree; pairs = some_pairs (lists k); behind = r.0; spelled = tt; right = some_right (lists k); text = refl; then = r.1 })

  pub tail_stops : (ks : List K) (x : List ℕ) → Tail sp ks x → IsPastDigits x
  tail_stops [] x t = subst IsPastDigits (sym t) tt
  tail_stops (k ∷ ks) x t = subst IsPastDigits (sym t.text) (row_stops law t.others (pairs_text 59 t.pairs ++ 41 ∷ t.behind) (pairs_end law.pairs t.pairs t.behind))

  pub pairs_then_stops : (ks : List K) (x : List ℕ) → PairsThen sp ks x → IsPastDigits x
  pairs_then_stops ks x p = subst IsPastDigits (sym p.text) (pairs_stop law.pairs p.pairs p.behind)

  pub between_stops : (L : List ℕ → Type 0) (x : List ℕ) → ByteThen between L x → IsPastDigits x
  between_stops L x p = subst IsPastDigits (sym p.text) law.pairs.no_digit

  pub some_pairs_then : (ks : List K) → (x : List ℕ) × PairsThen sp ks x
  some_pairs_then ks = let r = some_tail ks in (41 ∷ r.0, record { pairs = []; behind = r.0; text = refl; then = r.1 })

  -- the marks behind a pair
  pair_made : (mark : ℕ) (ks : List K) (x : List ℕ) → PairThen sp ks x → (ps : List P) × (r : List ℕ) × (ps ≢ []) × (mark ∷ x ≡ pairs_text mark ps ++ 41 ∷ r) × Tail sp ks r
  pair_made mark ks x p =
      let h = p.then in let n = h.then in let q = n.then in
      let pair : P = sp.pairs.pair p.number n.number in (
        pair ∷ q.pairs,
        q.behind,
        (λ e. cc),
        ap (λ w. mark ∷ w) (p.text ∙ ap (λ w. decimal p.number ++ w) (h.text ∙ ap (λ w. between ∷ w) (n.text ∙ ap (λ w. decimal n.number ++ w) q.text)))
            ∙ (λ i. mark ∷ (decimal (sym (law.pairs.first_of p.number n.number) i) ++ between ∷ (decimal (sym (law.pairs.second_of p.number n.number) i) ++ (pairs_text 44 q.pairs ++ 41 ∷ q.behind))))
            ∙ sym (pair_spelled law.pairs mark pair q.pairs (41 ∷ q.behind)),
        q.then,
      )

  pair_of : (mark : ℕ) (ks : List K) (x r : List ℕ) (ps : List P) → mark ≢ 41 → mark ∷ x ≡ pairs_text mark ps ++ 41 ∷ r → Tail sp ks r → PairThen sp ks x
  pair_of mark ks x r [] n e t = let f : mark ∷ x ≡ 41 ∷ r = e in let g : mark ≡ 41 = cc in absurd (n g)
  pair_of mark ks x r (p ∷ ps) n e t =
      let f : mark ∷ x ≡ mark ∷ (decimal (fst p) ++ between ∷ (decimal (snd p) ++ (pairs_text 44 ps ++ 41 ∷ r))) = e ∙ pair_spelled law.pairs mark p ps (41 ∷ r) in
      record {
        number = fst p;
        behind = between ∷ (decimal (snd p) ++ (pairs_text 44 ps ++ 41 ∷ r));
        text = cc;
        then = record {
          behind = decimal (snd p) ++ (pairs_text 44 ps ++ 41 ∷ r);
          text = refl;
          then = record {
            number = snd p;
            behind = pairs_text 44 ps ++ 41 ∷ r;
            text = refl;
            then = record { pairs = ps; behind = r; text = refl; then = t };
          };
        };
      }

  pub comma_pairs : (ks : List K) (text tail : List ℕ) → text ≡ 44 ∷ tail → GoesOn (PairsThen sp ks) text (PairThen sp ks) tail
  comma_pairs ks text tail e = record {
    front = 44 ∷ [];
    whole = e;
    makes = λ x p. let m = pair_made 44 ks x p in record { pairs = m.0; behind = m.1; text = m.3; then = m.4 };
    leaves = λ x h l. pair_of 44 ks x l.behind l.pairs (λ w. omega arith) l.text l.then;
  }

  -- where no comma stands, the bracket has to
  last_pair : (ks : List K) (x r : List ℕ) (ps : List P) → LacksFirst 44 x → x ≡ pairs_text 44 ps ++ 41 ∷ r → Tail sp ks r → ByteThen 41 (Tail sp ks) x
  last_pair ks x r [] n e t = record { behind = r; text = e; then = t }
  last_pair ks x r (p ∷ ps) n e t = absurd (n ((decimal (fst p) ++ between ∷ (decimal (snd p) ++ pairs_text 44 ps)) ++ 41 ∷ r) e)

  pub pairs_last : (ks : List K) (text : List ℕ) → LacksFirst 44 text → GoesOn (PairsThen sp ks) text (ByteThen 41 (Tail sp ks)) text
  pairs_last ks text lacks = record {
    front = [];
    whole = refl;
    makes = λ x p. record { pairs = []; behind = p.behind; text = p.text; then = p.then };
    leaves = λ x h l. last_pair ks x l.behind l.pairs (agree_lacks 44 text x h lacks) l.text l.then;
  }

  -- behind a child
  child_of : (k : K) (ks : List K) (x r : List ℕ) (ts : PlainTreesOf K P) (ps : List P) → EachNodeBelow (IsSpelledNode sp) ts → HasPairsIf (lists k) ps →
      44 ∷ x ≡ row_text 44 ts ++ (pairs_text 59 ps ++ 41 ∷ r) → Tail sp ks r → TreeThen sp (k ∷ ks) x
  child_of k ks x r no_tree [] s h e t = let f : 44 ∷ x ≡ 41 ∷ r = e in let g : ◌≡◌ {A = ℕ} 44 41 = cc in absurd (omega arith)
  child_of k ks x r no_tree (p ∷ ps) s h e t = let f : 44 ∷ x ≡ 59 ∷ ((decimal (fst p) ++ between ∷ (decimal (snd p) ++ pairs_text 44 ps)) ++ 41 ∷ r) = e in let g : ◌≡◌ {A = ℕ} 44 59 = cc in absurd (omega arith)
  child_of k ks x r (one_more u us) ps s h e t =
      let f : 44 ∷ x ≡ 44 ∷ (tree_text u ++ (row_text 44 us ++ (pairs_text 59 ps ++ 41 ∷ r))) = e ∙ row_spelled law 44 u us (pairs_text 59 ps ++ 41 ∷ r) in
      record {
        tree = u;
        behind = row_text 44 us ++ (pairs_text 59 ps ++ 41 ∷ r);
        spelled = s.0;
        text = cc;
        then = record { others = us; pairs = ps; behind = r; spelled = s.1; right = h; text = refl; then = t };
      }

  pub comma_tail : (k : K) (ks : List K) (text tail : List ℕ) → text ≡ 44 ∷ tail → GoesOn (Tail sp (k ∷ ks)) text (TreeThen sp (k ∷ ks)) tail
  comma_tail k ks text tail e = record {
    front = 44 ∷ [];
    whole = e;
    makes = λ x p.
        let t = p.then in
        record {
          others = one_more p.tree t.others;
          pairs = t.pairs;
          behind = t.behind;
          spelled = (p.spelled, t.spelled);
          right = t.right;
          text = ap (λ w. 44 ∷ w) (p.text ∙ ap (λ w. tree_text p.tree ++ w) t.text) ∙ sym (row_spelled law 44 p.tree t.others (pairs_text 59 t.pairs ++ 41 ∷ t.behind));
          then = t.then;
        };
    leaves = λ x h l. child_of k ks x l.behind l.others l.pairs l.spelled l.right l.text l.then;
  }

  bracket_of : (k : K) (ks : List K) (x r : List ℕ) (ts : PlainTreesOf K P) (ps : List P) → LacksFirst 44 x → ps ≡ [] →
      x ≡ row_text 44 ts ++ (pairs_text 59 ps ++ 41 ∷ r) → Tail sp ks r → ByteThen 41 (Tail sp ks) x
  bracket_of k ks x r no_tree ps n h e t = record { behind = r; text = e ∙ ap (λ y. pairs_text 59 y ++ 41 ∷ r) h; then = t }
  bracket_of k ks x r (one_more u us) ps n h e t = absurd (n (tree_text u ++ (row_text 44 us ++ (pairs_text 59 ps ++ 41 ∷ r))) (e ∙ row_spelled law 44 u us (pairs_text 59 ps ++ 41 ∷ r)))

  pub tail_bracket : (k : K) (ks : List K) (text : List ℕ) → LacksFirst 44 text → ((ps : List P) → HasPairsIf (lists k) ps → ps ≡ []) → HasPairsIf {P = P} (lists k) [] →
      GoesOn (Tail sp (k ∷ ks)) text (ByteThen 41 (Tail sp ks)) text
  tail_bracket k ks text lacks none right = record {
    front = [];
    whole = refl;
    makes = λ x p. record { others = no_tree; pairs = []; behind = p.behind; spelled = tt; right = right; text = p.text; then = p.then };
    leaves = λ x h l. bracket_of k ks x l.behind l.others l.pairs (agree_lacks 44 text x h lacks) (none l.pairs l.right) l.text l.then;
  }

  semicolon_of : (ks : List K) (x r : List ℕ) (ts : PlainTreesOf K P) (ps : List P) → LacksFirst 44 x → ps ≢ [] →
      x ≡ row_text 44 ts ++ (pairs_text 59 ps ++ 41 ∷ r) → Tail sp ks r → ByteThen 59 (PairThen sp ks) x
  semicolon_of ks x r no_tree [] n h e t = absurd (h refl)
  semicolon_of ks x r no_tree (p ∷ ps) n h e t =
      let inner : List ℕ = (decimal (fst p) ++ between ∷ (decimal (snd p) ++ pairs_text 44 ps)) ++ 41 ∷ r in
      record { behind = inner; text = e; then = pair_of 59 ks inner r (p ∷ ps) (λ w. omega arith) refl t }
  semicolon_of ks x r (one_more u us) ps n h e t = absurd (n (tree_text u ++ (row_text 44 us ++ (pairs_text 59 ps ++ 41 ∷ r))) (e ∙ row_spelled law 44 u us (pairs_text 59 ps ++ 41 ∷ r)))

  pub tail_semicolon : (k : K) (ks : List K) (text : List ℕ) → LacksFirst 44 text → ((ps : List P) → HasPairsIf (lists k) ps → ps ≢ []) → ((ps : List P) → ps ≢ [] → HasPairsIf (lists k) ps) →
      GoesOn (Tail sp (k ∷ ks)) text (ByteThen 59 (PairThen sp ks)) text
  tail_semicolon k ks text lacks some right = record {
    front = [];
    whole = refl;
    makes = λ x p. let m = pair_made 59 ks p.behind p.then in record { others = no_tree; pairs = m.0; behind = m.1; spelled = tt; right = right m.0 m.2; text = p.text ∙ m.3; then = m.4 };
    leaves = λ x h l. semicolon_of ks x l.behind l.others l.pairs (agree_lacks 44 text x h lacks) (some l.pairs l.right) l.text l.then;
  }

  -- where a tree is due
  leaf_of : (ks : List K) (x r : List ℕ) (t : PlainTreeOf K P) → ((k : K) → LacksFirst (letter k) x) → x ≡ tree_text t ++ r → Tail sp ks r → NumberThen (Tail sp ks) x
  leaf_of ks x r (leaf v) n e t = record { number = v; behind = r; text = e; then = t }
  leaf_of ks x r (node k cs ps) n e t = absurd (n k (row_text 40 cs ++ (pairs_text 59 ps ++ 41 ∷ r)) (e ∙ node_spelled law k cs ps r))

  pub due_number : (ks : List K) (text : List ℕ) → ((k : K) → LacksFirst (letter k) text) → GoesOn (TreeThen sp ks) text (NumberThen (Tail sp ks)) text
  due_number ks text lacks = record {
    front = [];
    whole = refl;
    makes = λ x p. record { tree = leaf p.number; behind = p.behind; spelled = tt; text = p.text; then = p.then };
    leaves = λ x h l. leaf_of ks x l.behind l.tree (λ k. agree_lacks (letter k) text x h (lacks k)) l.text l.then;
  }

  letter_of : (k : K) (ks : List K) (x r : List ℕ) (t : PlainTreeOf K P) → EachNode (IsSpelledNode sp) t → letter k ∷ x ≡ tree_text t ++ r → Tail sp ks r → ByteThen 40 (TreeThen sp (k ∷ ks)) x
  letter_of k ks x r (leaf v) s e t = absurd (law.kinds.no_digit k (number_first v r (letter k) x (sym e)))
  letter_of k ks x r (node l no_tree ps) s e t = let c : 1 ≤ 0 = s.0.some_child in absurd (omega arith)
  letter_of k ks x r (node l (one_more u us) ps) s e t =
      let f : letter k ∷ x ≡ letter l ∷ (row_text 40 (one_more u us) ++ (pairs_text 59 ps ++ 41 ∷ r)) = e ∙ node_spelled law l (one_more u us) ps r in
      let g : letter k ≡ letter l = cc in
      let same : l ≡ k = law.kinds.one_letter l k (sym g) in
      record {
        behind = tree_text u ++ (row_text 44 us ++ (pairs_text 59 ps ++ 41 ∷ r));
        text = (let y : x ≡ row_text 40 (one_more u us) ++ (pairs_text 59 ps ++ 41 ∷ r) = cc in y ∙ row_spelled law 40 u us (pairs_text 59 ps ++ 41 ∷ r));
        then = record {
          tree = u;
          behind = row_text 44 us ++ (pairs_text 59 ps ++ 41 ∷ r);
          spelled = s.1.0;
          text = refl;
          then = record { others = us; pairs = ps; behind = r; spelled = s.1.1; right = subst (λ y. HasPairsIf (lists y) ps) same s.0.pairs; text = refl; then = t };
        };
      }

  pub due_letter : (k : K) (ks : List K) (text tail : List ℕ) → text ≡ letter k ∷ tail → GoesOn (TreeThen sp ks) text (ByteThen 40 (TreeThen sp (k ∷ ks))) tail
  due_letter k ks text tail e = record {
    front = letter k ∷ [];
    whole = e;
    makes = λ x p.
        let d = p.then in let c = d.then in
        record {
          tree = node k (one_more d.tree c.others) c.pairs;
          behind = c.behind;
          spelled = (record { some_child = (let h : 1 ≤ suc (count c.others) = omega arith in h); pairs = c.right }, (d.spelled, c.spelled));
          text = ap (λ w. letter k ∷ w) (p.text ∙ ap (λ w. 40 ∷ w) (d.text ∙ ap (λ w. tree_text d.tree ++ w) c.text))
              ∙ sym (node_spelled law k (one_more d.tree c.others) c.pairs c.behind ∙ ap (λ w. letter k ∷ w) (row_spelled law 40 d.tree c.others (pairs_text 59 c.pairs ++ 41 ∷ c.behind)));
          then = c.then;
        };
    leaves = λ x h l. letter_of k ks x l.behind l.tree l.spelled l.text l.then;
  }

  -- a tree's text is a tree with nothing behind it
  pub start_goes : (text : List ℕ) → GoesOn (IsTreeText sp) text (TreeThen sp []) text
  start_goes text = record {
    front = [];
    whole = refl;
    makes = λ x p. (p.tree, p.spelled, p.text ∙ ap (λ w. tree_text p.tree ++ w) p.then ∙ append-nil (tree_text p.tree));
    leaves = λ x h l. record { tree = l.0; behind = []; spelled = l.1; text = l.2 ∙ sym (append-nil (tree_text l.0)); then = refl };
  }

  pub some_due : (ks : List K) → (x : List ℕ) × TreeThen sp ks x
  some_due ks = let r = some_tail ks in (decimal 0 ++ r.0, record { tree = leaf 0; behind = r.0; spelled = tt; text = refl; then = r.1 })

  pub some_high : (ks : List K) → (x : List ℕ) × NumberThen (PairsThen sp ks) x
  some_high ks = let r = some_pairs_then ks in (decimal 0 ++ r.0, record { number = 0; behind = r.0; text = refl; then = r.1 })

  pub some_hyphen : (ks : List K) → (x : List ℕ) × ByteThen between (NumberThen (PairsThen sp ks)) x
  some_hyphen ks = let r = some_high ks in (between ∷ r.0, record { behind = r.0; text = refl; then = r.1 })

  pub some_pair_then : (ks : List K) → (x : List ℕ) × PairThen sp ks x
  some_pair_then ks = let r = some_hyphen ks in (decimal 0 ++ r.0, record { number = 0; behind = r.0; text = refl; then = r.1 })

  -- past the first number of a pair, the mark between and the second one
  pub past_first : (ks : List K) (text mark : List ℕ) → IsNumberBefore text mark → GoesOn (PairThen sp ks) text (ByteThen between (NumberThen (PairsThen sp ks))) mark
  past_first ks text mark n = number_goes (ByteThen between (NumberThen (PairsThen sp ks))) (between_stops (NumberThen (PairsThen sp ks))) text mark n

  pub past_between : (ks : List K) (text mark second : List ℕ) → IsNumberBefore text mark → mark ≡ between ∷ second → GoesOn (PairThen sp ks) text (NumberThen (PairsThen sp ks)) second
  past_between ks text mark second n e =
      goes_then (PairThen sp ks) (ByteThen between (NumberThen (PairsThen sp ks))) (NumberThen (PairsThen sp ks)) text mark second (past_first ks text mark n)
      (byte_goes between (NumberThen (PairsThen sp ks)) mark second e)

  pub past_second : (ks : List K) (text mark second rest : List ℕ) → IsNumberBefore text mark → mark ≡ between ∷ second → IsNumberBefore second rest → GoesOn (PairThen sp ks) text (PairsThen sp ks) rest
  past_second ks text mark second rest n e m =
      goes_then (PairThen sp ks) (NumberThen (PairsThen sp ks)) (PairsThen sp ks) text second rest (past_between ks text mark second n e)
      (number_goes (PairsThen sp ks) (pairs_then_stops ks) second rest m)

  -- the mark behind the children of a node, and what comes behind it
  abbrev pub end_mark : Bool → ℕ
  end_mark true = 59
  end_mark false = 41

  abbrev pub EndThen : Bool → List K → List ℕ → Type 0
  EndThen true ks = PairThen sp ks
  EndThen false ks = Tail sp ks

  some_end : (b : Bool) (ks : List K) → (x : List ℕ) × EndThen b ks x
  some_end true ks = some_pair_then ks
  some_end false ks = some_tail ks

  tail_end : (k : K) (ks : List K) (b : Bool) → lists k ≡ b → (text : List ℕ) → LacksFirst 44 text → GoesOn (Tail sp (k ∷ ks)) text (ByteThen (end_mark b) (EndThen b ks)) text
  tail_end k ks true e text lacks =
      tail_semicolon k ks text lacks (λ ps h. subst (λ y. HasPairsIf y ps) e h) (λ ps h. subst (λ y. HasPairsIf y ps) (sym e) h)
  tail_end k ks false e text lacks =
      tail_bracket k ks text lacks (λ ps h. subst (λ y. HasPairsIf y ps) e h) (subst (λ y. HasPairsIf {P = P} y []) (sym e) refl)

  pub end_goes : (k : K) (ks : List K) (b : Bool) → lists k ≡ b → (text tail : List ℕ) → LacksFirst 44 text → text ≡ end_mark b ∷ tail → GoesOn (Tail sp (k ∷ ks)) text (EndThen b ks) tail
  end_goes k ks b e text tail lacks f =
      goes_then (Tail sp (k ∷ ks)) (ByteThen (end_mark b) (EndThen b ks)) (EndThen b ks) text text tail (tail_end k ks b e text lacks) (byte_goes (end_mark b) (EndThen b ks) text tail f)

  pub end_stuck : (k : K) (ks : List K) (b : Bool) → lists k ≡ b → (text tail : List ℕ) → LacksFirst 44 text → tail ≡ text → LacksFirst (end_mark b) text → IsStuck (Tail sp (k ∷ ks)) text tail
  end_stuck k ks b e text tail lacks f other =
      stuck_then (Tail sp (k ∷ ks)) (ByteThen (end_mark b) (EndThen b ks)) text text tail (tail_end k ks b e text lacks)
      (byte_stuck (end_mark b) (EndThen b ks) (some_end b ks).0 (some_end b ks).1 text tail f other)

  -- at the outside of all nodes
  pub tail_over : (text : List ℕ) → 0 < length text → IsStuck (Tail sp []) text text
  tail_over [] some = absurd (omega arith)
  tail_over (b ∷ text) some = stuck_here (Tail sp []) (b ∷ text) [] refl (λ x h l. let f : b ∷ h.0 ≡ [] = sym h.1 ∙ l in cc)

-- digits at the beginning of a text
stops_drop : (text : List ℕ) (end : ℕ) → (end < length text → is_ascii_digit (get_or text end 0) ≡ false) → IsPastDigits (drop end text)
stops_drop [] zero h = tt
stops_drop [] (suc end) h = tt
stops_drop (b ∷ text) zero h = λ d.
    let f : is_ascii_digit b ≡ false = h (let l : 0 < suc (length text) = omega arith in l) in
    true≢false (sym (digit_within b d.0 d.1) ∙ f)
stops_drop (b ∷ text) (suc end) h = stops_drop text end (λ l. h (let m : suc end < suc (length text) = omega arith in m))

canonical_front : (text : List ℕ) (end : ℕ) → end ≤ length text → list_all is_ascii_digit (take end text) ≡ true → 0 < end → (get_or text 0 0 ≡ 48 → end ≤ 1) → IsCanonical (take end text)
canonical_front text end within all some none = record {
  some_digit = omega (arith, length-take-le end text within);
  all_digits = AllPass-from_list_all (take end text) all;
  no_leading_zero = λ e.
      let same : get_or (take end text) 0 0 ≡ get_or text 0 0 = get_or-take end text 0 0 some in
      let one : end ≤ 1 = none (sym same ∙ e) in
      omega (arith, length-take-le end text within);
}

pub number_before : (text tail : List ℕ) (end : ℕ) → end ≤ length text → list_all is_ascii_digit (take end text) ≡ true → 0 < end → (get_or text 0 0 ≡ 48 → end ≤ 1) →
    (end < length text → is_ascii_digit (get_or text end 0) ≡ false) → tail ≡ drop end text → IsNumberBefore text tail
number_before text tail end within all some none stops is = (
  value (take end text),
  sym (take-append-drop end text) ∙ ap (λ w. w ++ drop end text) (sym (decimal-value (take end text) (canonical_front text end within all some none))) ∙ ap (λ w. decimal (value (take end text)) ++ w) (sym is),
  subst IsPastDigits (sym is) (stops_drop text end stops),
)

pub zero_before : (text tail : List ℕ) (end : ℕ) → end ≤ length text → list_all is_ascii_digit (take end text) ≡ true → 1 < end → get_or text 0 0 ≡ 48 → tail ≡ drop 1 text → IsNoNumber text tail
zero_before [] tail end within all some first is = absurd (let l : end ≤ 0 = within in omega arith)
zero_before (b ∷ []) tail end within all some first is = absurd (let l : end ≤ 1 = within in omega arith)
zero_before (b ∷ c ∷ text) tail end within all some first is =
    let d : is_ascii_digit (get_or (take end (b ∷ c ∷ text)) 1 0) ≡ true = AllPass-from_list_all (take end (b ∷ c ∷ text)) all 1 0 (omega (arith, length-take-le end (b ∷ c ∷ text) within)) in
    let same : get_or (take end (b ∷ c ∷ text)) 1 0 ≡ c = get_or-take end (b ∷ c ∷ text) 1 0 some in
    let is_digit : IsDigit c = digit_bounds c (ap is_ascii_digit (sym same) ∙ d) in
    let head : b ≡ 48 = first in
    inr (cc, subst (λ w. ¬ (IsPastDigits w)) (sym is) (λ s. s is_digit))

-- the open nodes
pub opened_again : {K : Type 0} (k : K) (ks : List K) (opens : List K) → opens ≡ outermost_first ks → opens ++ k ∷ [] ≡ outermost_first (k ∷ ks)
opened_again k ks opens e = ap (λ w. w ++ k ∷ []) e

pub no_snoc : {A : Type 0} (xs : List A) (k : A) → [] ≡ xs ++ k ∷ [] → ⊥
no_snoc [] k e = cc
no_snoc (x ∷ xs) k e = let f : [] ≡ x ∷ (xs ++ k ∷ []) = e in cc

-- the innermost node is taken off
pub popped : {K : Type 0} (ks opens others : List K) (k : K) → opens ≡ outermost_first ks → opens ≡ others ++ k ∷ [] → (js : List K) × (ks ≡ k ∷ js) × (others ≡ outermost_first js)
popped [] opens others k a e = absurd (no_snoc others k (sym a ∙ e))
popped (j ∷ ks) opens others k a e =
    let r = same_from_push (outermost_first ks) others j k (sym a ∙ e) in
    let s : j ≡ k = r.1 in
    (ks, cc, sym r.0)

pub none_open : {K : Type 0} (ks opens : List K) → opens ≡ outermost_first ks → opens ≡ [] → ks ≡ []
none_open [] opens a e = refl
none_open (k ∷ ks) opens a e = absurd (no_snoc (outermost_first ks) k (sym e ∙ a))

-- two clauses on an error
pub both_err : {T E : Type 0} (r : Result T E) (P Q S : E → Type 0) → ((x : E) → P x → Q x → S x) → IfErr r P → IfErr r Q → IfErr r S
both_err (Ok x) P Q S f p q = tt
both_err (Err x) P Q S f p q = f x p q
