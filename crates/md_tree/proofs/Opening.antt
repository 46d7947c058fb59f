-- What is left to write of open nodes.
use Rattle.std.proofs.Common.{◌≡◌, ℕ, ◌<◌, List, [], ◌∷◌, ◌++◌, length, map, sym, ◌∙◌, ap, append_assoc, length-append, arith}
use Rattle.std.proofs.lemmas.List.{append-nil}
use Rattle.md_text.specs.Numbers.{decimal}
use Rattle.md_tree.specs.declared.writer.Open.{Open}
use Rattle.md_tree.specs.declared.PairsOf.{PairsOf}
use Rattle.md_tree.specs.declared.ChildrenOf.{ChildrenOf, out-ChildrenOf}
use Rattle.md_tree.specs.declared.TreeOf.{TreeOf, Leaf, Node}
use Rattle.md_tree.specs.Trees.{PlainTreeOf, PlainTreesOf, row}
use Rattle.md_tree.specs.Plain.{plain}
use Rattle.md_tree.specs.Spellings.{Spelling}
use Rattle.md_tree.specs.TreeTexts.{tree_text_by, row_text_by, pairs_text_by}
use Rattle.md_tree.specs.OpenNodes.{open_text, rest_text}
use Rattle.md_tree.proofs.Plain.{plain_is_leaf, plain_is_node}

module _ {K P : Type 0} (sp : Spelling K P) where
  abbrev letter : K → ℕ
  letter = sp.kinds.letter

  abbrev tree_text : PlainTreeOf K P → List ℕ
  tree_text = tree_text_by sp

  abbrev row_text : ℕ → PlainTreesOf K P → List ℕ
  row_text = row_text_by sp

  -- one node more
  pub rest_text_push : (os : List (Open K P)) (o : Open K P) → rest_text sp (os ++ o ∷ []) ≡ open_text sp o ++ rest_text sp os
  rest_text_push [] o = sym (append-nil (open_text sp o))
  rest_text_push (p ∷ os) o = ap (λ l. l ++ open_text sp p) (rest_text_push os o) ∙ append_assoc (open_text sp o) (rest_text sp os) (open_text sp p)

  -- a name that is written
  pub leaf_begun : (t : TreeOf K P) (v n : ℕ) (text new rest : List ℕ) → t ≡ Leaf v → n ≡ v → new ≡ text ++ decimal n → new ++ rest ≡ text ++ (tree_text (plain t) ++ rest)
  leaf_begun t v n text new rest is same e =
      ap (λ l. l ++ rest) (e ∙ ap (λ m. text ++ decimal m) same) ∙ append_assoc text (decimal v) rest ∙ ap (λ p. text ++ (tree_text p ++ rest)) (sym (plain_is_leaf t v is))

  -- a node of which the letter is written
  pub node_begun : (t : TreeOf K P) (k : K) (cs : ChildrenOf K P) (es : PairsOf P) (first : ℕ) (text new : List ℕ) (os opened : List (Open K P)) (o : Open K P) → t ≡ Node k cs es → first ≡ letter k →
      open_text sp o ≡ row_text 40 (row (map plain (out-ChildrenOf _ _ cs).list.items)) ++ (pairs_text_by sp.pairs 59 es.list.items ++ 41 ∷ []) →
      new ≡ text ++ first ∷ [] → opened ≡ os ++ o ∷ [] → new ++ rest_text sp opened ≡ text ++ (tree_text (plain t) ++ rest_text sp os)
  node_begun t k cs es first text new os opened o is same left e more =
      ap (λ l. l ++ rest_text sp opened) (e ∙ ap (λ m. text ++ m ∷ []) same) ∙ append_assoc text (letter k ∷ []) (rest_text sp opened)
      ∙ ap (λ l. text ++ (letter k ∷ l)) (ap (rest_text sp) more ∙ rest_text_push os o ∙ ap (λ l. l ++ rest_text sp os) left)
      ∙ ap (λ p. text ++ (tree_text p ++ rest_text sp os)) (sym (plain_is_node t k cs es is))

  -- a child more, in front of what is left behind it
  pub child_text : (mark : ℕ) (ts others : List (TreeOf K P)) (t : TreeOf K P) (behind : List ℕ) → ts ≡ t ∷ others →
      row_text mark (row (map plain ts)) ++ behind ≡ mark ∷ (tree_text (plain t) ++ (row_text 44 (row (map plain others)) ++ behind))
  child_text mark ts others t behind cut =
      ap (λ l. row_text mark (row (map plain l)) ++ behind) cut ∙ ap (λ l. mark ∷ l) (append_assoc (tree_text (plain t)) (row_text 44 (row (map plain others))) behind)

  -- a name more of an open node
  pub leaf_more : (mark v n : ℕ) (ts others : List (TreeOf K P)) (t : TreeOf K P) (text marked new behind total : List ℕ) → ts ≡ t ∷ others → t ≡ Leaf v → n ≡ v →
      marked ≡ text ++ mark ∷ [] → new ≡ marked ++ decimal n → text ++ (row_text mark (row (map plain ts)) ++ behind) ≡ total →
      new ++ (row_text 44 (row (map plain others)) ++ behind) ≡ total
  leaf_more mark v n ts others t text marked new behind total cut is same one two before =
      let rest = row_text 44 (row (map plain others)) ++ behind in
      ap (λ l. l ++ rest) (two ∙ (λ i. one i ++ decimal (same i))) ∙ append_assoc (text ++ mark ∷ []) (decimal v) rest ∙ append_assoc text (mark ∷ []) (decimal v ++ rest)
      ∙ ap (λ p. text ++ (mark ∷ (tree_text p ++ rest))) (sym (plain_is_leaf t v is))
      ∙ ap (λ l. text ++ l) (sym (child_text mark ts others t behind cut)) ∙ before

  -- a child more of an open node, of which the other children are left
  pub child_more : (mark : ℕ) (ts others : List (TreeOf K P)) (t : TreeOf K P) (behind text leaves marked new : List ℕ) (os opened last : List (Open K P)) (o : Open K P) (whole : List ℕ) → ts ≡ t ∷ others →
      leaves ++ (row_text mark (row (map plain ts)) ++ behind) ≡ text ++ whole → marked ≡ leaves ++ mark ∷ [] →
      opened ≡ os ++ o ∷ [] → open_text sp o ≡ row_text 44 (row (map plain others)) ++ behind →
      new ++ rest_text sp last ≡ marked ++ (tree_text (plain t) ++ rest_text sp opened) → new ++ rest_text sp last ≡ text ++ (whole ++ rest_text sp os)
  child_more mark ts others t behind text leaves marked new os opened last o whole cut before one more left child =
      let rest = row_text 44 (row (map plain others)) ++ behind in
      child ∙ ap (λ l. l ++ (tree_text (plain t) ++ rest_text sp opened)) one ∙ append_assoc leaves (mark ∷ []) (tree_text (plain t) ++ rest_text sp opened)
      ∙ ap (λ l. leaves ++ (mark ∷ (tree_text (plain t) ++ l))) (ap (rest_text sp) more ∙ rest_text_push os o ∙ ap (λ l. l ++ rest_text sp os) left)
      ∙ ap (λ l. leaves ++ (mark ∷ l)) (sym (append_assoc (tree_text (plain t)) rest (rest_text sp os)))
      ∙ ap (λ l. leaves ++ (l ++ rest_text sp os)) (sym (child_text mark ts others t behind cut))
      ∙ sym (append_assoc leaves (row_text mark (row (map plain ts)) ++ behind) (rest_text sp os))
      ∙ ap (λ l. l ++ rest_text sp os) before ∙ append_assoc text whole (rest_text sp os)

  -- the innermost open node goes on
  pub turn_written : (text new total : List ℕ) (os rest last : List (Open K P)) (o : Open K P) → os ≡ rest ++ o ∷ [] → text ++ rest_text sp os ≡ total →
      new ++ rest_text sp last ≡ text ++ (open_text sp o ++ rest_text sp rest) → new ++ rest_text sp last ≡ total
  turn_written text new total os rest last o popped before turn =
      turn ∙ ap (λ l. text ++ l) (sym (ap (rest_text sp) popped ∙ rest_text_push rest o)) ∙ before

  -- what is left to write becomes shorter where the text becomes longer
  pub less_left : (text new : List ℕ) (os last : List (Open K P)) → new ++ rest_text sp last ≡ text ++ rest_text sp os → length text < length new → length (rest_text sp last) < length (rest_text sp os)
  less_left text new os last same longer =
      let l = sym (length-append new (rest_text sp last)) ∙ ap length same ∙ length-append text (rest_text sp os) in
      omega arith
