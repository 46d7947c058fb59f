-- A text that begins with the text of a tree tells the tree and where it ends.
use Rattle.std.proofs.Common.{◌≡◌, ◌≢◌, ℕ, ◌≤◌, ◌⊎◌, List, [], ◌∷◌, ◌++◌, Some, None, codes, append_assoc, append-nil, refl, sym, ◌∙◌, ap, inl, inr, arith}
use Rattle.md_text.specs.Numbers.{decimal}
use Rattle.md_text.proofs.FrontLemmas.{same_number, number_first, stops_at}
use Rattle.md_tree.specs.Trees.{PlainTreeOf, PlainTreesOf, leaf, node, no_tree, one_more}
use Rattle.md_tree.specs.Spellings.{PairRules, ArePairRules, Spelling, IsSpelling}
use Rattle.md_tree.specs.TreeTexts.{pairs_text_by, tree_text_by, row_text_by}
use Rattle.md_tree.specs.Laws.{OneTreeOneTextBy}
use Rattle.md_text.specs.Fronts.{IsDigit, IsPastDigits}

-- the text begins with the byte that ends a row of trees
abbrev pub Ends : List ℕ → Type 0
Ends [] = ⊥
Ends (b ∷ r) = (b ≡ 41) ⊎ (b ≡ 59)

module _ {P : Type 0} {rules : PairRules P} (law : ArePairRules rules) where
  abbrev fst : P → ℕ
  fst = rules.first

  abbrev snd : P → ℕ
  snd = rules.second

  abbrev between : ℕ
  between = rules.between

  abbrev pairs_text : ℕ → List P → List ℕ
  pairs_text = pairs_text_by rules

  -- pairs before a closing bracket
  pub pairs_stop : (ps : List P) (r : List ℕ) → IsPastDigits (pairs_text 44 ps ++ 41 ∷ r)
  pairs_stop [] r = stops_at 41 r (inl (omega arith))
  pairs_stop (p ∷ ps) r = stops_at 44 ((decimal (fst p) ++ between ∷ (decimal (snd p) ++ pairs_text 44 ps)) ++ 41 ∷ r) (inl (omega arith))

  pub pair_spelled : (mark : ℕ) (p : P) (ps : List P) (r : List ℕ) →
      pairs_text mark (p ∷ ps) ++ r ≡ mark ∷ (decimal (fst p) ++ between ∷ (decimal (snd p) ++ (pairs_text 44 ps ++ r)))
  pair_spelled mark p ps r =
      ap (λ w. mark ∷ w) (append_assoc (decimal (fst p)) (between ∷ (decimal (snd p) ++ pairs_text 44 ps)) r
      ∙ ap (λ w. decimal (fst p) ++ between ∷ w) (append_assoc (decimal (snd p)) (pairs_text 44 ps) r))

  pub same_pairs : (mark : ℕ) (ps qs : List P) (r s : List ℕ) → mark ≢ 41 → pairs_text mark ps ++ 41 ∷ r ≡ pairs_text mark qs ++ 41 ∷ s → (ps ≡ qs) × (r ≡ s)
  same_pairs mark [] [] r s n e = let f : 41 ∷ r ≡ 41 ∷ s = e in (refl, cc)
  same_pairs mark [] (q ∷ qs) r s n e =
      let f : 41 ∷ r ≡ mark ∷ (decimal (fst q) ++ between ∷ (decimal (snd q) ++ (pairs_text 44 qs ++ 41 ∷ s))) = e ∙ pair_spelled mark q qs (41 ∷ s) in
      let g : mark ≡ 41 = cc in
      absurd (n g)
  same_pairs mark (p ∷ ps) [] r s n e =
      let f : 41 ∷ s ≡ mark ∷ (decimal (fst p) ++ between ∷ (decimal (snd p) ++ (pairs_text 44 ps ++ 41 ∷ r))) = sym e ∙ pair_spelled mark p ps (41 ∷ r) in
      let g : mark ≡ 41 = cc in
      absurd (n g)
  same_pairs mark (p ∷ ps) (q ∷ qs) r s n e =
      let f : mark ∷ (decimal (fst p) ++ between ∷ (decimal (snd p) ++ (pairs_text 44 ps ++ 41 ∷ r))) ≡ mark ∷ (decimal (fst q) ++ between ∷ (decimal (snd q) ++ (pairs_text 44 qs ++ 41 ∷ s))) =
      sym (pair_spelled mark p ps (41 ∷ r)) ∙ e ∙ pair_spelled mark q qs (41 ∷ s) in
      let g : decimal (fst p) ++ between ∷ (decimal (snd p) ++ (pairs_text 44 ps ++ 41 ∷ r)) ≡ decimal (fst q) ++ between ∷ (decimal (snd q) ++ (pairs_text 44 qs ++ 41 ∷ s)) = cc in
      let low : (fst p ≡ fst q) × (between ∷ (decimal (snd p) ++ (pairs_text 44 ps ++ 41 ∷ r)) ≡ between ∷ (decimal (snd q) ++ (pairs_text 44 qs ++ 41 ∷ s))) =
      same_number (fst p) (fst q) (between ∷ (decimal (snd p) ++ (pairs_text 44 ps ++ 41 ∷ r))) (between ∷ (decimal (snd q) ++ (pairs_text 44 qs ++ 41 ∷ s)))
      law.no_digit law.no_digit g in
      let h : between ∷ (decimal (snd p) ++ (pairs_text 44 ps ++ 41 ∷ r)) ≡ between ∷ (decimal (snd q) ++ (pairs_text 44 qs ++ 41 ∷ s)) = low.1 in
      let i : decimal (snd p) ++ (pairs_text 44 ps ++ 41 ∷ r) ≡ decimal (snd q) ++ (pairs_text 44 qs ++ 41 ∷ s) = cc in
      let high : (snd p ≡ snd q) × (pairs_text 44 ps ++ 41 ∷ r ≡ pairs_text 44 qs ++ 41 ∷ s) =
      same_number (snd p) (snd q) (pairs_text 44 ps ++ 41 ∷ r) (pairs_text 44 qs ++ 41 ∷ s) (pairs_stop ps r) (pairs_stop qs s) i in
      let others : (ps ≡ qs) × (r ≡ s) = same_pairs 44 ps qs r s (λ w. omega arith) high.1 in
      let j : p ≡ q = sym (law.pair_of p) ∙ (λ n. rules.pair (low.0 n) (high.0 n)) ∙ law.pair_of q in
      let k : ps ≡ qs = others.0 in
      (cc, others.1)

  pub pairs_end : (ps : List P) (r : List ℕ) → Ends (pairs_text 59 ps ++ 41 ∷ r)
  pairs_end [] r = inl refl
  pairs_end (p ∷ ps) r = inr refl

module _ {K P : Type 0} {sp : Spelling K P} (law : IsSpelling sp) where
  abbrev letter : K → ℕ
  letter = sp.kinds.letter

  abbrev tree_text : PlainTreeOf K P → List ℕ
  tree_text = tree_text_by sp

  abbrev row_text : ℕ → PlainTreesOf K P → List ℕ
  row_text = row_text_by sp

  -- trees before a semicolon or a closing bracket
  pub row_stops : (ts : PlainTreesOf K P) (r : List ℕ) → Ends r → IsPastDigits (row_text 44 ts ++ r)
  row_stops no_tree [] ends = absurd ends
  row_stops no_tree (b ∷ r) (inl e) = stops_at b r (inl (omega arith))
  row_stops no_tree (b ∷ r) (inr e) = stops_at b r (inr (omega arith))
  row_stops (one_more t ts) r ends = stops_at 44 ((tree_text t ++ row_text 44 ts) ++ r) (inl (omega arith))

  mark_is_no_end : (mark : ℕ) (r xs : List ℕ) → (mark ≡ 40) ⊎ (mark ≡ 44) → Ends r → r ≡ mark ∷ xs → ⊥
  mark_is_no_end mark [] xs m ends e = ends
  mark_is_no_end mark (b ∷ r) xs m ends e =
      let f : b ≡ mark = cc in
      elim m [
        | inl p ↦ elim ends [ inl q ↦ omega arith | inr q ↦ omega arith ]
        | inr p ↦ elim ends [ inl q ↦ omega arith | inr q ↦ omega arith ]
      ]

  pub node_spelled : (k : K) (cs : PlainTreesOf K P) (ps : List P) (r : List ℕ) →
      tree_text (node k cs ps) ++ r ≡ letter k ∷ (row_text 40 cs ++ (pairs_text_by sp.pairs 59 ps ++ 41 ∷ r))
  node_spelled k cs ps r =
      ap (λ w. letter k ∷ w) (append_assoc (row_text 40 cs) (pairs_text_by sp.pairs 59 ps ++ 41 ∷ []) r
      ∙ ap (λ w. row_text 40 cs ++ w) (append_assoc (pairs_text_by sp.pairs 59 ps) (41 ∷ []) r))

  pub row_spelled : (mark : ℕ) (t : PlainTreeOf K P) (ts : PlainTreesOf K P) (r : List ℕ) → row_text mark (one_more t ts) ++ r ≡ mark ∷ (tree_text t ++ (row_text 44 ts ++ r))
  row_spelled mark t ts r = ap (λ w. mark ∷ w) (append_assoc (tree_text t) (row_text 44 ts) r)

  pub leaf_is_no_node : (v : ℕ) (k : K) (r xs : List ℕ) → decimal v ++ r ≡ letter k ∷ xs → ⊥
  leaf_is_no_node v k r xs e = law.kinds.no_digit k (number_first v r (letter k) xs e)

  mutual
    pub same_text : (t u : PlainTreeOf K P) (r s : List ℕ) → IsPastDigits r → IsPastDigits s → tree_text t ++ r ≡ tree_text u ++ s → (t ≡ u) × (r ≡ s)
    same_text (leaf v) (leaf w) r s p q e = let i : (v ≡ w) × (r ≡ s) = same_number v w r s p q e in (ap leaf i.0, i.1)
    same_text (leaf v) (node l ds qs) r s p q e = absurd (leaf_is_no_node v l r (row_text 40 ds ++ (pairs_text_by sp.pairs 59 qs ++ 41 ∷ s)) (e ∙ node_spelled l ds qs s))
    same_text (node k cs ps) (leaf w) r s p q e = absurd (leaf_is_no_node w k s (row_text 40 cs ++ (pairs_text_by sp.pairs 59 ps ++ 41 ∷ r)) (sym e ∙ node_spelled k cs ps r))
    same_text (node k cs ps) (node l ds qs) r s p q e =
        let f : letter k ∷ (row_text 40 cs ++ (pairs_text_by sp.pairs 59 ps ++ 41 ∷ r)) ≡ letter l ∷ (row_text 40 ds ++ (pairs_text_by sp.pairs 59 qs ++ 41 ∷ s)) =
        sym (node_spelled k cs ps r) ∙ e ∙ node_spelled l ds qs s in
        let g : letter k ≡ letter l = cc in
        let h : row_text 40 cs ++ (pairs_text_by sp.pairs 59 ps ++ 41 ∷ r) ≡ row_text 40 ds ++ (pairs_text_by sp.pairs 59 qs ++ 41 ∷ s) = cc in
        let kinds : k ≡ l = law.kinds.one_letter k l g in
        let rows : (cs ≡ ds) × (pairs_text_by sp.pairs 59 ps ++ 41 ∷ r ≡ pairs_text_by sp.pairs 59 qs ++ 41 ∷ s) =
        same_row 40 cs ds (pairs_text_by sp.pairs 59 ps ++ 41 ∷ r) (pairs_text_by sp.pairs 59 qs ++ 41 ∷ s) (inl refl) (pairs_end law.pairs ps r) (pairs_end law.pairs qs s) h in
        let lists : (ps ≡ qs) × (r ≡ s) = same_pairs law.pairs 59 ps qs r s (λ w. omega arith) rows.1 in
        let a : cs ≡ ds = rows.0 in
        let b : ps ≡ qs = lists.0 in
        (cc, lists.1)

    pub same_row : (mark : ℕ) (ts us : PlainTreesOf K P) (r s : List ℕ) → (mark ≡ 40) ⊎ (mark ≡ 44) → Ends r → Ends s → row_text mark ts ++ r ≡ row_text mark us ++ s → (ts ≡ us) × (r ≡ s)
    same_row mark no_tree no_tree r s m p q e = (refl, e)
    same_row mark no_tree (one_more u us) r s m p q e =
        absurd (mark_is_no_end mark r (tree_text u ++ (row_text 44 us ++ s)) m p (e ∙ row_spelled mark u us s))
    same_row mark (one_more t ts) no_tree r s m p q e =
        absurd (mark_is_no_end mark s (tree_text t ++ (row_text 44 ts ++ r)) m q (sym e ∙ row_spelled mark t ts r))
    same_row mark (one_more t ts) (one_more u us) r s m p q e =
        let f : mark ∷ (tree_text t ++ (row_text 44 ts ++ r)) ≡ mark ∷ (tree_text u ++ (row_text 44 us ++ s)) = sym (row_spelled mark t ts r) ∙ e ∙ row_spelled mark u us s in
        let g : tree_text t ++ (row_text 44 ts ++ r) ≡ tree_text u ++ (row_text 44 us ++ s) = cc in
        let first : (t ≡ u) × (row_text 44 ts ++ r ≡ row_text 44 us ++ s) =
        same_text t u (row_text 44 ts ++ r) (row_text 44 us ++ s) (row_stops ts r p) (row_stops us s q) g in
        let others : (ts ≡ us) × (r ≡ s) = same_row 44 ts us r s (inr refl) p q first.1 in
        let a : t ≡ u = first.0 in
        let b : ts ≡ us = others.0 in
        (cc, others.1)

  -- the word `empty` is no tree's text
  pub not_empty : (t : PlainTreeOf K P) → tree_text t ≡ codes "empty" → ⊥
  not_empty (leaf v) e =
      let d : IsDigit 101 = number_first v [] 101 (codes "mpty") (append-nil (decimal v) ∙ e) in
      let b : 101 ≤ 57 = d.1 in
      omega arith
  not_empty (node k cs ps) e =
      let f : letter k ∷ (row_text 40 cs ++ (pairs_text_by sp.pairs 59 ps ++ 41 ∷ [])) ≡ 101 ∷ codes "mpty" = e in
      let g : letter k ≡ 101 = cc in
      law.kinds.no_word k g

  pub one_text_proof : OneTreeOneTextBy sp
  one_text_proof None None e = refl
  one_text_proof None (Some t) e = absurd (not_empty t (sym e))
  one_text_proof (Some t) None e = absurd (not_empty t e)
  one_text_proof (Some t) (Some u) e =
      ap Some (same_text t u [] [] tt tt (append-nil (tree_text t) ∙ e ∙ sym (append-nil (tree_text u)))).0
