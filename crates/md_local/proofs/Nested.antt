-- The nodes of a tree, read from the last to the first: behind each come those below it.
use Rattle.std.proofs.Common.{◌≡◌, ◌⊎◌, List, [], ◌∷◌, ◌++◌, refl, sym, ◌∙◌, ap, append_assoc, append-nil, inl, inr}
use Rattle.std.proofs.lemmas.List.{append_cancel_left}
use Rattle.md_tree.specs.Trees.{PlainTreeOf, leaf, node, PlainTreesOf, no_tree, one_more, row}
use Rattle.md_tree.specs.Parts.{below_node}
use Rattle.md_local.specs.NodeLists.{nodes_backward, row_nodes_backward}
use Rattle.md_tree.proofs.Folding.{row_listed}

-- where an element of two lists in a row stands
split_at : {X : Type 0} (ps : List X) (p : X) (xs ls bs : List X) → ps ++ p ∷ xs ≡ ls ++ bs →
    ((ys : List X) × (xs ≡ ys ++ bs) × (ls ≡ ps ++ p ∷ ys)) ⊎ ((qs : List X) × (qs ++ p ∷ xs ≡ bs))
split_at ps p xs [] bs e = inr (ps, e)
split_at [] p xs (a ∷ ls) bs e = let h : p ∷ xs ≡ a ∷ (ls ++ bs) = e in let first : a ≡ p = cc in let rest : xs ≡ ls ++ bs = cc in inl (ls, rest, ap (λ x. x ∷ ls) first)
split_at (q ∷ ps) p xs (a ∷ ls) bs e =
    let h : q ∷ (ps ++ p ∷ xs) ≡ a ∷ (ls ++ bs) = e in
    let first : a ≡ q = cc in
    let rest : ps ++ p ∷ xs ≡ ls ++ bs = cc in
    elim (split_at ps p xs ls bs rest) [
      | inl found ↦ inl (found.0, found.1, ap (λ x. x ∷ ls) first ∙ ap (λ l. q ∷ l) found.2)
      | inr found ↦ inr found
    ]

-- there is no element in no list
pub none_there : {X : Type 0} {A : Type 0} (ps : List X) (p : X) (xs : List X) → ps ++ p ∷ xs ≡ [] → A
none_there [] p xs e = let h : p ∷ xs ≡ [] = e in absurd (cc)
none_there (q ∷ ps) p xs e = let h : q ∷ (ps ++ p ∷ xs) ≡ [] = e in absurd (cc)

-- a list is empty or has a last element
pub last_of : {X : Type 0} (xs : List X) → (xs ≡ []) ⊎ ((ys : List X) × (y : X) × (xs ≡ ys ++ y ∷ []))
last_of [] = inl refl
last_of (x ∷ xs) = elim (last_of xs) [
  | inl none ↦ inr ([], x, ap (λ l. x ∷ l) none)
  | inr last ↦ inr (x ∷ last.0, last.1, ap (λ l. x ∷ l) last.2)
]

module _ {K P : Type 0} where
  -- behind a node come the nodes below it
  abbrev IsBehind : PlainTreeOf K P → List (PlainTreeOf K P) → Type 0
  IsBehind p xs = (ys : List (PlainTreeOf K P)) × (xs ≡ row_nodes_backward (row (below_node p)) ++ ys)

  mutual
    behind : (t : PlainTreeOf K P) (ps : List (PlainTreeOf K P)) (p : PlainTreeOf K P) (xs : List (PlainTreeOf K P)) → ps ++ p ∷ xs ≡ nodes_backward t → IsBehind p xs
    behind (leaf v) [] p xs e =
        let h : p ∷ xs ≡ leaf v ∷ [] = e in
        let first : p ≡ leaf v = cc in
        let rest : xs ≡ [] = cc in
        ([], rest ∙ sym (ap (λ t. row_nodes_backward (row (below_node t)) ++ []) first))
    behind (leaf v) (q ∷ ps) p xs e = let h : q ∷ (ps ++ p ∷ xs) ≡ leaf v ∷ [] = e in let rest : ps ++ p ∷ xs ≡ [] = cc in none_there ps p xs rest
    behind (node k cs es) [] p xs e =
        let h : p ∷ xs ≡ node k cs es ∷ row_nodes_backward cs = e in
        let first : p ≡ node k cs es = cc in
        let rest : xs ≡ row_nodes_backward cs = cc in
        ([], rest ∙ sym (append-nil (row_nodes_backward cs)) ∙ ap (λ ts. row_nodes_backward ts ++ []) (sym (row_listed cs)) ∙ sym (ap (λ t. row_nodes_backward (row (below_node t)) ++ []) first))
    behind (node k cs es) (q ∷ ps) p xs e =
        let h : q ∷ (ps ++ p ∷ xs) ≡ node k cs es ∷ row_nodes_backward cs = e in
        let rest : ps ++ p ∷ xs ≡ row_nodes_backward cs = cc in
        behind_below cs ps p xs rest

    behind_below : (cs : PlainTreesOf K P) (ps : List (PlainTreeOf K P)) (p : PlainTreeOf K P) (xs : List (PlainTreeOf K P)) → ps ++ p ∷ xs ≡ row_nodes_backward cs → IsBehind p xs
    behind_below no_tree ps p xs e = none_there ps p xs e
    behind_below (one_more t ts) ps p xs e = elim (split_at ps p xs (row_nodes_backward ts) (nodes_backward t) e) [
      | inl found ↦
          let more : IsBehind p found.0 = behind_below ts ps p found.0 (sym found.2) in
          (more.0 ++ nodes_backward t, found.1 ∙ ap (λ l. l ++ nodes_backward t) more.1 ∙ append_assoc (row_nodes_backward (row (below_node p))) more.0 (nodes_backward t))
      | inr found ↦ behind t found.0 p xs found.1
    ]

  pub rows-append : (xs ys : List (PlainTreeOf K P)) → row_nodes_backward (row (xs ++ ys)) ≡ row_nodes_backward (row ys) ++ row_nodes_backward (row xs)
  rows-append [] ys = sym (append-nil (row_nodes_backward (row ys)))
  rows-append (x ∷ xs) ys = ap (λ l. l ++ nodes_backward x) (rows-append xs ys) ∙ append_assoc (row_nodes_backward (row ys)) (row_nodes_backward (row xs)) (nodes_backward x)

  -- the node that its own nodes begin with
  first_node : (t u : PlainTreeOf K P) (xs ys : List (PlainTreeOf K P)) → nodes_backward t ++ xs ≡ nodes_backward u ++ ys → t ≡ u
  first_node (leaf v) (leaf w) xs ys e = let h : leaf v ∷ xs ≡ leaf w ∷ ys = e in cc
  first_node (leaf v) (node l ds qs) xs ys e = let h : leaf v ∷ xs ≡ node l ds qs ∷ (row_nodes_backward ds ++ ys) = e in cc
  first_node (node k cs ps) (leaf w) xs ys e = let h : node k cs ps ∷ (row_nodes_backward cs ++ xs) ≡ leaf w ∷ ys = e in cc
  first_node (node k cs ps) (node l ds qs) xs ys e =
      let h : node k cs ps ∷ (row_nodes_backward cs ++ xs) ≡ node l ds qs ∷ (row_nodes_backward ds ++ ys) = e in cc

  no_nodes : {A : Type 0} (t : PlainTreeOf K P) (xs : List (PlainTreeOf K P)) → nodes_backward t ++ xs ≡ [] → A
  no_nodes (leaf v) xs e = let h : leaf v ∷ xs ≡ [] = e in absurd (cc)
  no_nodes (node k cs ps) xs e = let h : node k cs ps ∷ (row_nodes_backward cs ++ xs) ≡ [] = e in absurd (cc)

  -- trees whose nodes begin with those of others end with these
  pub ends_with : (bs ts ys : List (PlainTreeOf K P)) → row_nodes_backward (row ts) ≡ row_nodes_backward (row bs) ++ ys → (us : List (PlainTreeOf K P)) × (ts ≡ us ++ bs)
  ends_with [] ts ys e = (ts, sym (append-nil ts))
  ends_with (b ∷ bs) ts ys e =
      let before : (us : List (PlainTreeOf K P)) × (ts ≡ us ++ bs) =
      ends_with bs ts (nodes_backward b ++ ys) (e ∙ append_assoc (row_nodes_backward (row bs)) (nodes_backward b) ys) in
      let same : row_nodes_backward (row before.0) ≡ nodes_backward b ++ ys =
      append_cancel_left (row_nodes_backward (row bs)) (row_nodes_backward (row before.0)) (nodes_backward b ++ ys)
      (sym (rows-append before.0 bs) ∙ ap (λ l. row_nodes_backward (row l)) (sym before.1) ∙ e ∙ append_assoc (row_nodes_backward (row bs)) (nodes_backward b) ys) in
      elim (last_of before.0) [
        | inl none ↦ no_nodes b ys (sym same ∙ ap (λ l. row_nodes_backward (row l)) none)
        | inr last ↦
            let there : nodes_backward last.1 ++ row_nodes_backward (row last.0) ≡ nodes_backward b ++ ys =
            sym (rows-append last.0 (last.1 ∷ [])) ∙ ap (λ l. row_nodes_backward (row l)) (sym last.2) ∙ same in
            let own : last.1 ≡ b = first_node last.1 b (row_nodes_backward (row last.0)) ys there in (
              last.0,
              before.1 ∙ ap (λ l. l ++ bs) (last.2 ∙ ap (λ x. last.0 ++ x ∷ []) own) ∙ append_assoc last.0 (b ∷ []) bs,
            )
      ]

  -- the children of the last node that is left are the last trees
  pub children_last : (t : PlainTreeOf K P) (left ps : List (PlainTreeOf K P)) (p : PlainTreeOf K P) (ts : List (PlainTreeOf K P)) → left ++ row_nodes_backward (row ts) ≡ nodes_backward t →
      left ≡ ps ++ p ∷ [] → (us : List (PlainTreeOf K P)) × (ts ≡ us ++ below_node p)
  children_last t left ps p ts so pop =
      let more : IsBehind p (row_nodes_backward (row ts)) =
      behind t ps p (row_nodes_backward (row ts)) (sym (append_assoc ps (p ∷ []) (row_nodes_backward (row ts))) ∙ ap (λ l. l ++ row_nodes_backward (row ts)) (sym pop) ∙ so) in
      ends_with (below_node p) ts more.0 more.1

  pub own_nodes : (p : PlainTreeOf K P) → nodes_backward p ≡ p ∷ row_nodes_backward (row (below_node p))
  own_nodes (leaf v) = refl
  own_nodes (node k cs es) = ap (λ ts. node k cs es ∷ row_nodes_backward ts) (sym (row_listed cs))

  -- and it takes their place
  pub node_last : (t : PlainTreeOf K P) (left ps : List (PlainTreeOf K P)) (p : PlainTreeOf K P) (ts us : List (PlainTreeOf K P)) → left ++ row_nodes_backward (row ts) ≡ nodes_backward t →
      left ≡ ps ++ p ∷ [] → ts ≡ us ++ below_node p → ps ++ row_nodes_backward (row (us ++ p ∷ [])) ≡ nodes_backward t
  node_last t left ps p ts us so pop below =
      ap (λ l. ps ++ l)
      (rows-append us (p ∷ []) ∙ ap (λ l. l ++ row_nodes_backward (row us)) (own_nodes p)
      ∙ ap (λ l. p ∷ l) (sym (rows-append us (below_node p)) ∙ ap (λ l. row_nodes_backward (row l)) (sym below)))
      ∙ sym (append_assoc ps (p ∷ []) (row_nodes_backward (row ts))) ∙ ap (λ l. l ++ row_nodes_backward (row ts)) (sym pop) ∙ so

  -- at the end the tree is alone
  pub alone_last : (t : PlainTreeOf K P) (left ts : List (PlainTreeOf K P)) → left ++ row_nodes_backward (row ts) ≡ nodes_backward t → left ≡ [] → ts ≡ t ∷ []
  alone_last t left ts so none =
      let whole : row_nodes_backward (row ts) ≡ nodes_backward t ++ [] = ap (λ l. l ++ row_nodes_backward (row ts)) (sym none) ∙ so ∙ sym (append-nil (nodes_backward t)) in
      let us : (us : List (PlainTreeOf K P)) × (ts ≡ us ++ t ∷ []) = ends_with (t ∷ []) ts [] whole in
      let rest : row_nodes_backward (row us.0) ≡ [] =
      append_cancel_left (nodes_backward t) (row_nodes_backward (row us.0)) [] (sym (rows-append us.0 (t ∷ [])) ∙ ap (λ l. row_nodes_backward (row l)) (sym us.1) ∙ whole) in
      elim (last_of us.0) [
        | inl empty ↦ us.1 ∙ ap (λ l. l ++ t ∷ []) empty
        | inr last ↦ no_nodes last.1 (row_nodes_backward (row last.0)) (sym (rows-append last.0 (last.1 ∷ [])) ∙ ap (λ l. row_nodes_backward (row l)) (sym last.2) ∙ rest)
      ]
