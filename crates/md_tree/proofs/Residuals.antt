-- How a part of a tree's text is read: what each token makes of that which may still come.
use Rattle.std.proofs.Common.{◌≡◌, ℕ, ◌⊎◌, List, [], ◌∷◌, ◌++◌, refl, sym, ◌∙◌, ap, subst, inl, inr, arith}
use Rattle.std.specs.Prelude.{◌↔◌}
use Rattle.md_tree.specs.Trees.{PlainTreeOf, PlainTreesOf, leaf, node, no_tree, one_more, EachNode, EachNodeBelow, row}
use Rattle.md_tree.specs.Spellings.{Spelling, IsSpelling}
use Rattle.md_tree.specs.TreeTexts.{pairs_text_by, tree_text_by, row_text_by}
use Rattle.md_text.specs.Fronts.{IsPastDigits}
use Rattle.md_tree.specs.Residual.{OpenNode, ahead, closed, with_child, Follows, Due}
use Rattle.md_tree.proofs.Texts.{same_text, same_row, same_pairs, row_stops, pairs_end, row_spelled, node_spelled, leaf_is_no_node}

pub ahead_more : {K P : Type 0} (xs : List (PlainTreeOf K P)) (t : PlainTreeOf K P) (cs : PlainTreesOf K P) → ahead (xs ++ t ∷ []) cs ≡ ahead xs (one_more t cs)
ahead_more [] t cs = refl
ahead_more (x ∷ xs) t cs = ap (one_more x) (ahead_more xs t cs)

pub ahead_row : {K P : Type 0} (xs : List (PlainTreeOf K P)) (t : PlainTreeOf K P) → ahead xs (one_more t no_tree) ≡ row (xs ++ t ∷ [])
ahead_row [] t = refl
ahead_row (x ∷ xs) t = ap (one_more x) (ahead_row xs t)

module _ {K P : Type 0} {sp : Spelling K P} (law : IsSpelling sp) where
  abbrev letter : K → ℕ
  letter = sp.kinds.letter

  abbrev pairs_text : ℕ → List P → List ℕ
  pairs_text = pairs_text_by sp.pairs

  abbrev tree_text : PlainTreeOf K P → List ℕ
  tree_text = tree_text_by sp

  abbrev row_text : ℕ → PlainTreesOf K P → List ℕ
  row_text = row_text_by sp

  -- what follows a tree begins with no digit
  pub follows_stops : (s : List (OpenNode K P)) (t : PlainTreeOf K P) (r : List ℕ) (w : PlainTreeOf K P) → Follows sp s t r w → IsPastDigits r
  follows_stops [] t r w f = subst IsPastDigits (sym f.0) tt
  follows_stops (o ∷ s) t r w f = subst IsPastDigits (sym f.text) (row_stops law f.others (pairs_text 59 f.pairs ++ 41 ∷ f.behind) (pairs_end law.pairs f.pairs f.behind))

  -- a tree's text, behind which no digit stands
  pub tree_step : (s : List (OpenNode K P)) (t : PlainTreeOf K P) (r : List ℕ) (w : PlainTreeOf K P) → IsPastDigits r → Due sp s (tree_text t ++ r) w ↔ Follows sp s t r w
  tree_step s t r w stops = (
    (λ d.
        let same : (t ≡ d.tree) × (r ≡ d.behind) = same_text law t d.tree r d.behind stops (follows_stops s d.tree d.behind w d.follows) d.text in
        subst (λ u. Follows sp s u r w) (sym same.0) (subst (λ x. Follows sp s d.tree x w) (sym same.1) d.follows)),
    (λ f. record { tree = t; behind = r; text = refl; follows = f }),
  )

  -- the head of what follows a row
  pub other_head : (k : K) (ps : List P) (r x : List ℕ) (b : ℕ) → pairs_text 59 ps ++ 41 ∷ r ≡ b ∷ x → (b ≡ 41) ⊎ (b ≡ 59)
  other_head k [] r x b e = let f : 41 ∷ r ≡ b ∷ x = e in inl cc
  other_head k (p ∷ ps) r x b e = let f : 59 ∷ _ ≡ b ∷ x = e in inr cc

  -- a letter and an opening bracket
  open_text : (k l : K) (cs : PlainTreesOf K P) (ps : List P) (r x : List ℕ) → letter k ∷ 40 ∷ r ≡ letter l ∷ (row_text 40 cs ++ (pairs_text 59 ps ++ 41 ∷ x)) →
      (l ≡ k) × (u : PlainTreeOf K P) × (us : PlainTreesOf K P) × (cs ≡ one_more u us) × (r ≡ tree_text u ++ (row_text 44 us ++ (pairs_text 59 ps ++ 41 ∷ x)))
  open_text k l no_tree ps r x e =
      let a : 40 ∷ r ≡ pairs_text 59 ps ++ 41 ∷ x = cc in
      absurd (elim (other_head k ps x r 40 (sym a)) [ inl q ↦ omega arith | inr q ↦ omega arith ])
  open_text k l (one_more u us) ps r x e =
      let f : letter k ∷ 40 ∷ r ≡ letter l ∷ 40 ∷ (tree_text u ++ (row_text 44 us ++ (pairs_text 59 ps ++ 41 ∷ x))) = e ∙ ap (λ w. letter l ∷ w) (row_spelled law 40 u us (pairs_text 59 ps ++ 41 ∷ x)) in
      let g : letter k ≡ letter l = cc in
      (law.kinds.one_letter l k (sym g), u, us, refl, cc)

  due_open : (s : List (OpenNode K P)) (k : K) (r : List ℕ) (w t : PlainTreeOf K P) (x : List ℕ) → letter k ∷ 40 ∷ r ≡ tree_text t ++ x → Follows sp s t x w → Due sp (record { kind = k; before = [] } ∷ s) r w
  due_open s k r w (leaf v) x e f = absurd (leaf_is_no_node law v k x (40 ∷ r) (sym e))
  due_open s k r w (node l cs ps) x e f =
      let o = open_text k l cs ps r x (e ∙ node_spelled law l cs ps x) in
      record {
        tree = o.1;
        behind = row_text 44 o.2 ++ (pairs_text 59 ps ++ 41 ∷ x);
        text = o.4;
        follows = record {
          others = o.2;
          pairs = ps;
          behind = x;
          text = refl;
          whole = subst (λ y. Follows sp s (node y (one_more o.1 o.2) ps) x w) o.0 (subst (λ y. Follows sp s (node l y ps) x w) o.3 f);
        };
      }

  pub open_step : (s : List (OpenNode K P)) (k : K) (r : List ℕ) (w : PlainTreeOf K P) → Due sp s (letter k ∷ 40 ∷ r) w ↔ Due sp (record { kind = k; before = [] } ∷ s) r w
  open_step s k r w = (
    (λ d. due_open s k r w d.tree d.behind d.text d.follows),
    (λ d.
        let f = d.follows in
        record {
          tree = node k (one_more d.tree f.others) f.pairs;
          behind = f.behind;
          text = ap (λ x. letter k ∷ 40 ∷ x) (d.text ∙ ap (λ x. tree_text d.tree ++ x) f.text)
              ∙ sym (node_spelled law k (one_more d.tree f.others) f.pairs f.behind ∙ ap (λ x. letter k ∷ x) (row_spelled law 40 d.tree f.others (pairs_text 59 f.pairs ++ 41 ∷ f.behind)));
          follows = f.whole;
        }),
  )

  -- a comma behind a child
  due_more : (o : OpenNode K P) (s : List (OpenNode K P)) (t : PlainTreeOf K P) (r : List ℕ) (w : PlainTreeOf K P) (ts : PlainTreesOf K P) (ps : List P) (x : List ℕ) →
      44 ∷ r ≡ row_text 44 ts ++ (pairs_text 59 ps ++ 41 ∷ x) → Follows sp s (closed o t ts ps) x w → Due sp (with_child o t ∷ s) r w
  due_more o s t r w no_tree ps x e f = absurd (elim (other_head o.kind ps x r 44 (sym e)) [ inl q ↦ omega arith | inr q ↦ omega arith ])
  due_more o s t r w (one_more u us) ps x e f =
      let g : 44 ∷ r ≡ 44 ∷ (tree_text u ++ (row_text 44 us ++ (pairs_text 59 ps ++ 41 ∷ x))) = e ∙ row_spelled law 44 u us (pairs_text 59 ps ++ 41 ∷ x) in
      record {
        tree = u;
        behind = row_text 44 us ++ (pairs_text 59 ps ++ 41 ∷ x);
        text = cc;
        follows = record {
          others = us;
          pairs = ps;
          behind = x;
          text = refl;
          whole = subst (λ y. Follows sp s (node o.kind y ps) x w) (sym (ahead_more o.before t (one_more u us))) f;
        };
      }

  pub comma_step : (o : OpenNode K P) (s : List (OpenNode K P)) (t : PlainTreeOf K P) (r : List ℕ) (w : PlainTreeOf K P) → Follows sp (o ∷ s) t (44 ∷ r) w ↔ Due sp (with_child o t ∷ s) r w
  comma_step o s t r w = (
    (λ f. due_more o s t r w f.others f.pairs f.behind f.text f.whole),
    (λ d.
        let f = d.follows in
        record {
          others = one_more d.tree f.others;
          pairs = f.pairs;
          behind = f.behind;
          text = ap (λ x. 44 ∷ x) (d.text ∙ ap (λ x. tree_text d.tree ++ x) f.text) ∙ sym (row_spelled law 44 d.tree f.others (pairs_text 59 f.pairs ++ 41 ∷ f.behind));
          whole = subst (λ y. Follows sp s (node o.kind y f.pairs) f.behind w) (ahead_more o.before t (one_more d.tree f.others)) f.whole;
        }),
  )

  -- the pairs and the bracket at the end of a node
  pub end_step : (o : OpenNode K P) (s : List (OpenNode K P)) (t : PlainTreeOf K P) (ps : List P) (r : List ℕ) (w : PlainTreeOf K P) →
      Follows sp (o ∷ s) t (pairs_text 59 ps ++ 41 ∷ r) w ↔ Follows sp s (closed o t no_tree ps) r w
  end_step o s t ps r w = (
    (λ f.
        let rows : (no_tree ≡ f.others) × (pairs_text 59 ps ++ 41 ∷ r ≡ pairs_text 59 f.pairs ++ 41 ∷ f.behind) =
        same_row law 44 no_tree f.others (pairs_text 59 ps ++ 41 ∷ r) (pairs_text 59 f.pairs ++ 41 ∷ f.behind) (inr refl) (pairs_end law.pairs ps r) (pairs_end law.pairs f.pairs f.behind) f.text in
        let lists : (ps ≡ f.pairs) × (r ≡ f.behind) = same_pairs law.pairs 59 ps f.pairs r f.behind (λ e. omega arith) rows.1 in
        subst (λ y. Follows sp s (closed o t y ps) r w) (sym rows.0) (subst (λ y. Follows sp s (closed o t f.others y) r w) (sym lists.0) (subst (λ y. Follows sp s (closed o t f.others f.pairs) y w) (sym lists.1) f.whole))),
    (λ f. record { others = no_tree; pairs = ps; behind = r; text = refl; whole = f }),
  )

  -- what holds of each node of the whole holds of each node of a part
  module _ (H : K → PlainTreesOf K P → List P → Type 0) where
    of_ahead : (xs : List (PlainTreeOf K P)) (cs : PlainTreesOf K P) → EachNodeBelow H (ahead xs cs) → EachNodeBelow H cs
    of_ahead [] cs e = e
    of_ahead (x ∷ xs) cs e = of_ahead xs cs e.1

    pub each_follows : (s : List (OpenNode K P)) (t : PlainTreeOf K P) (r : List ℕ) (w : PlainTreeOf K P) → Follows sp s t r w → EachNode H w → EachNode H t
    each_follows [] t r w f e = subst (EachNode H) f.1 e
    each_follows (o ∷ s) t r w f e = (of_ahead o.before (one_more t f.others) (each_follows s (closed o t f.others f.pairs) f.behind w f.whole e).1).0
