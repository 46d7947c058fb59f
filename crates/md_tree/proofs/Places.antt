-- Where bytes leave the grammar, by where the reading of a tree's text is stuck, or the word `empty` ends.
use Rattle.std.proofs.Common.{◌≡◌, ◌≢◌, ℕ, zero, suc, ◌+◌, ◌-◌, ◌<◌, ◌≤◌, List, [], ◌∷◌, ◌++◌, length, get_or, take, drop, Some, None, codes, append_assoc, length-append, refl, sym, ◌∙◌, ap, subst, arith}
use Rattle.std.proofs.lemmas.List.{take-append-drop, length-take-le, get_or-take, get_or_append_left}
use Rattle.md_tree.specs.Trees.{PlainTreeOf, PlainTreesOf, leaf, node}
use Rattle.md_tree.specs.Spellings.{Spelling, IsSpelling}
use Rattle.md_tree.specs.TreeTexts.{tree_text_by, row_text_by, pairs_text_by}
use Rattle.md_tree.specs.Grammar.{InGrammarBy, LeavesAtBy}
use Rattle.md_text.specs.Fronts.{IsDigit, LacksFirst}
use Rattle.md_tree.specs.Languages.{HeadsAgree, IsStuck, IsTreeText}
use Rattle.md_text.proofs.FrontLemmas.{number_first}
use Rattle.std.proofs.lemmas.List.{append-nil}

heads_same : (x : List ℕ) → HeadsAgree x x
heads_same [] = refl
heads_same (b ∷ x) = (x, refl)

take_front : (front tail : List ℕ) (k : ℕ) → length front ≤ k → take k (front ++ tail) ≡ front ++ take (k - length front) tail
take_front [] tail k h = let z : k - 0 ≡ k = omega arith in ap (λ n. take n tail) (sym z)
take_front (b ∷ front) tail zero h = let l : suc (length front) ≤ 0 = h in absurd (omega arith)
take_front (b ∷ front) tail (suc k) h =
    let l : suc (length front) ≤ suc k = h in
    let e : suc k - suc (length front) ≡ k - length front = omega arith in
    ap (λ w. b ∷ w) (take_front front tail k (omega arith) ∙ ap (λ n. front ++ take n tail) (sym e))

agree_take : (tail : List ℕ) (j : ℕ) (rest : List ℕ) → 0 < j → j ≤ length tail → HeadsAgree tail (take j tail ++ rest)
agree_take [] j rest some h = let l : j ≤ 0 = h in absurd (omega arith)
agree_take (b ∷ tail) zero rest some h = absurd (omega arith)
agree_take (b ∷ tail) (suc j) rest some h = (take j tail ++ rest, refl)

take_head : (bytes : List ℕ) (k : ℕ) (rest x : List ℕ) (b : ℕ) → 0 < k → k ≤ length bytes → take k bytes ++ rest ≡ b ∷ x → (y : List ℕ) × (bytes ≡ b ∷ y)
take_head [] k rest x b some h e = let l : k ≤ 0 = h in absurd (omega arith)
take_head (c ∷ bytes) zero rest x b some h e = absurd (omega arith)
take_head (c ∷ bytes) (suc k) rest x b some h e = let f : c ∷ (take k bytes ++ rest) ≡ b ∷ x = e in let g : c ≡ b = cc in (bytes, ap (λ w. w ∷ bytes) g)

module _ {K P : Type 0} {sp : Spelling K P} (law : IsSpelling sp) where
  abbrev letter : K → ℕ
  letter = sp.kinds.letter

  abbrev pairs_text : ℕ → List P → List ℕ
  pairs_text = pairs_text_by sp.pairs

  abbrev tree_text : PlainTreeOf K P → List ℕ
  tree_text = tree_text_by sp

  abbrev row_text : ℕ → PlainTreesOf K P → List ℕ
  row_text = row_text_by sp

  -- the word begins as no tree's text
  pub word_head : (t : PlainTreeOf K P) (x : List ℕ) → tree_text t ≡ 101 ∷ x → ⊥
  word_head (leaf v) x e = let d : IsDigit 101 = number_first v [] 101 x (append-nil _ ∙ e) in let b : 101 ≤ 57 = d.1 in omega arith
  word_head (node k cs ps) x e =
      let f : letter k ∷ (row_text 40 cs ++ (pairs_text 59 ps ++ 41 ∷ [])) ≡ 101 ∷ x = e in
      let g : letter k ≡ 101 = cc in
      law.kinds.no_word k g

  -- where the bytes don't begin as the word does
  module _ (bytes tail : List ℕ) (lacks : LacksFirst 101 bytes) (s : IsStuck (IsTreeText sp) bytes tail) where
    no_text : InGrammarBy sp bytes → ⊥
    no_text (None, is, e) = lacks (codes "mpty") e
    no_text (Some t, is, e) = s.ends tail (heads_same tail) (t, is, sym s.whole ∙ e)

    no_longer : (k : ℕ) → length s.front < k → k ≤ length bytes → (rest : List ℕ) → InGrammarBy sp (take k bytes ++ rest) → ⊥
    no_longer k more within rest (None, is, e) = let h = take_head bytes k rest (codes "mpty") 101 (omega arith) within e in lacks h.0 h.1
    no_longer k more within rest (Some t, is, e) =
        let whole : bytes ≡ s.front ++ tail = s.whole in
        let count : length bytes ≡ length s.front + length tail = ap length whole ∙ length-append s.front tail in
        let j : ℕ = k - length s.front in
        let front : take k bytes ++ rest ≡ s.front ++ (take (k - length s.front) tail ++ rest) =
        ap (λ w. take k w ++ rest) whole ∙ ap (λ w. w ++ rest) (take_front s.front tail k (omega arith)) ∙ append_assoc s.front (take (k - length s.front) tail) rest in
        s.ends (take (k - length s.front) tail ++ rest) (agree_take tail (k - length s.front) rest (omega arith) (omega arith)) (t, is, sym front ∙ e)

    leaves_trees : LeavesAtBy sp bytes (length s.front)
    leaves_trees =
        let whole : bytes ≡ s.front ++ tail = s.whole in
        let count : length bytes ≡ length s.front + length tail = ap length whole ∙ length-append s.front tail in
        let begins : take (length s.front) bytes ≡ s.front =
        ap (take (length s.front)) whole ∙ take_front s.front tail (length s.front) (omega arith)
        ∙ (let none : length s.front - length s.front ≡ 0 = omega arith in ap (λ n. s.front ++ take n tail) none) ∙ append-nil s.front in
        record {
          outside = no_text;
          within = omega arith;
          begins = (s.more, (Some s.begins.0, s.begins.1, ap (λ w. w ++ s.more) begins ∙ s.begins.2));
          longest = λ k more within b. no_longer k more within b.0 b.1;
        }

    pub leaves_at_place : (place : ℕ) → place ≡ length bytes - length tail → LeavesAtBy sp bytes place
    leaves_at_place place is =
        let count : length bytes ≡ length s.front + length tail = ap length s.whole ∙ length-append s.front tail in
        let same : length s.front ≡ place = omega arith in
        subst (LeavesAtBy sp bytes) same leaves_trees

  pub tree_in_grammar : (bytes : List ℕ) → IsTreeText sp bytes → InGrammarBy sp bytes
  tree_in_grammar bytes t = (Some t.0, t.1, t.2)

  -- the bytes and the word begin alike up to a place
  same_front : (xs ys : List ℕ) (place : ℕ) → place ≤ length xs → place ≤ length ys → ((k : ℕ) → k < place → get_or xs k 0 ≡ get_or ys k 0) → take place xs ≡ take place ys
  same_front xs ys zero a b same = refl
  same_front [] ys (suc place) a b same = let l : suc place ≤ 0 = a in absurd (omega arith)
  same_front (x ∷ xs) [] (suc place) a b same = let l : suc place ≤ 0 = b in absurd (omega arith)
  same_front (x ∷ xs) (y ∷ ys) (suc place) a b same =
      let l : suc place ≤ suc (length xs) = a in let m : suc place ≤ suc (length ys) = b in
      let head : x ≡ y = same 0 (omega arith) in
      let others : take place xs ≡ take place ys = same_front xs ys place (omega arith) (omega arith) (λ k h. same (suc k) (omega arith)) in
      cc

  abbrev word : List ℕ
  word = codes "empty"

  module _ (bytes after : List ℕ) (place : ℕ) (first : bytes ≡ 101 ∷ after) (other : bytes ≢ word) (within : place ≤ length bytes) (in_word : place ≤ 5)
      (same : (k : ℕ) → k < place → get_or bytes k 0 ≡ get_or word k 0) (stops : place < length bytes → place < 5 → get_or bytes place 0 ≢ get_or word place 0) where
    no_word : InGrammarBy sp bytes → ⊥
    no_word (None, is, e) = other e
    no_word (Some t, is, e) = word_head t after (sym e ∙ first)

    word_ends : (k : ℕ) → place < k → k ≤ length bytes → (rest : List ℕ) → InGrammarBy sp (take k bytes ++ rest) → ⊥
    word_ends k more inside rest (Some t, is, e) =
        let h : take k bytes ++ rest ≡ 101 ∷ (take (k - 1) after ++ rest) = ap (λ w. take k w ++ rest) first ∙ take_one k (omega arith) in
        word_head t (take (k - 1) after ++ rest) (sym e ∙ h)
      where
        take_one : (n : ℕ) → 0 < n → take n (101 ∷ after) ++ rest ≡ 101 ∷ (take (n - 1) after ++ rest)
        take_one zero some = absurd (omega arith)
        take_one (suc n) some = let e : suc n - 1 ≡ n = omega arith in ap (λ m. 101 ∷ (take m after ++ rest)) (sym e)
    word_ends k more inside rest (None, is, e) =
        let taken : length (take k bytes) ≡ k = length-take-le k bytes inside in
        let count : k + length rest ≡ 5 = ap (λ n. n + length rest) (sym taken) ∙ sym (length-append (take k bytes) rest) ∙ ap length e in
        let at_place : get_or bytes place 0 ≡ get_or word place 0 =
        sym (get_or-take k bytes place 0 more) ∙ sym (get_or_append_left (take k bytes) rest 0 place (omega arith)) ∙ ap (λ w. get_or w place 0) e in
        stops (omega arith) (omega arith) at_place

    pub leaves_word : LeavesAtBy sp bytes place
    leaves_word = record {
      outside = no_word;
      within = within;
      begins = (drop place word, (None, tt, ap (λ w. w ++ drop place word) (same_front bytes word place within in_word same) ∙ take-append-drop place word));
      longest = λ k more inside b. word_ends k more inside b.0 b.1;
    }
