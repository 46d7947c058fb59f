-- The outlines of trees in a row; the parts of a tree so far, and the outlines of the trees that wait.
use Rattle.std.proofs.Common.{◌≡◌, ℕ, ◌+◌, ◌<◌, ◌≤◌, ◌^◌, List, [], ◌∷◌, ◌++◌, length, get_or, drop, map, reverse, refl, sym, ◌∙◌, ap, arith, append_assoc, append-nil, length-append}
use Rattle.std.proofs.lemmas.List.{map-append, reverse-append, reverse-reverse, drop_all, at_drop_more}
use Rattle.std.specs.Borrow.{Bor}
use Rattle.md_tree.specs.declared.Kind.{Kind}
use Rattle.md_tree.specs.declared.Pair.{Pair}
use Rattle.md_tree.specs.declared.TreeOf.{TreeOf, Leaf, Node as NodeTree}
use Rattle.md_tree.specs.declared.ChildrenOf.{ChildrenOf}
use Rattle.md_tree.specs.declared.PairsOf.{PairsOf}
use Rattle.md_tree.specs.Plain.{plain, trees_of}
use Rattle.md_tree.specs.Parts.{plain_at}
use Rattle.md_tree.specs.Trees.{PlainTreeOf, PlainTree, leaf, node, PlainTrees, no_tree, one_more, count, row}
use Rattle.md_tree.proofs.Loops.{count_plain}
use Rattle.md_tree.proofs.Plain.{plain_is_leaf, plain_is_node}
use Rattle.md_outline.specs.declared.outline.OutlinePart.{OutlinePart}
use Rattle.md_outline.specs.declared.outline.OutlinePart.TheVariants.{Name, Node}
use Rattle.md_outline.specs.Outlines.{outline_of, row_outline}
use Rattle.md_outline.specs.OutlineParts.{waiting_outline}

pub map_reverse : {A B : Type 0} (f : A → B) (xs : List A) → map f (reverse xs) ≡ reverse (map f xs)
map_reverse f [] = refl
map_reverse f (x ∷ xs) =
    ap (map f) (reverse-append (x ∷ []) xs) ∙ map-append f (reverse xs) (x ∷ []) ∙ ap (λ ys. ys ++ f x ∷ []) (map_reverse f xs) ∙ sym (reverse-append (f x ∷ []) (map f xs))

pub outline-append : {K P : Type 0} (xs ys : List (PlainTreeOf K P)) → row_outline (row (xs ++ ys)) ≡ row_outline (row xs) ++ row_outline (row ys)
outline-append [] ys = refl
outline-append (x ∷ xs) ys = ap (λ ps. outline_of x ++ ps) (outline-append xs ys) ∙ sym (append_assoc (outline_of x) (row_outline (row xs)) (row_outline (row ys)))

-- ---- the trees that wait

last_waits : (waiting popped : List (Bor (TreeOf Kind Pair))) (one : Bor (TreeOf Kind Pair)) → waiting ≡ popped ++ one ∷ [] → waiting_outline waiting ≡ outline_of (plain_at one) ++ waiting_outline popped
last_waits waiting popped one pop =
    ap waiting_outline pop ∙ ap (λ ts. row_outline (row (reverse ts))) (map-append plain_at popped (one ∷ []))
    ∙ ap (λ ts. row_outline (row ts)) (reverse-append (map plain_at popped) (plain_at one ∷ []))

pub wait_begin : (t : PlainTree) (parts : List (OutlinePart Kind)) (none waiting : List (Bor (TreeOf Kind Pair))) (tree : Bor (TreeOf Kind Pair)) → parts ≡ [] → none ≡ [] → waiting ≡ none ++ tree ∷ [] → plain_at tree ≡ t →
    parts ++ waiting_outline waiting ≡ outline_of t
wait_begin t parts none waiting tree no_parts empty push is =
    (λ i. no_parts i ++ waiting_outline ((push ∙ ap (λ ws. ws ++ tree ∷ []) empty) i)) ∙ append-nil (outline_of (plain_at tree)) ∙ ap outline_of is

module _ (whole parts now : List (OutlinePart Kind)) (waiting popped more : List (Bor (TreeOf Kind Pair))) (one : Bor (TreeOf Kind Pair)) (pop : waiting ≡ popped ++ one ∷ []) (so : parts ++ waiting_outline waiting ≡ whole) where
  pub next_short : length whole < 2 ^ 32 → length (outline_of (plain_at one)) < 2 ^ 32
  next_short short =
      let all = ap length so in let a = length-append parts (waiting_outline waiting) in
      let e = ap length (last_waits waiting popped one pop) in let b = length-append (outline_of (plain_at one)) (waiting_outline popped) in
      omega arith

  module _ (part : OutlinePart Kind) (push : now ≡ parts ++ part ∷ []) (below : part ∷ waiting_outline more ≡ outline_of (plain_at one) ++ waiting_outline popped) where
    turned : part ∷ waiting_outline more ≡ waiting_outline waiting
    turned = below ∙ sym (last_waits waiting popped one pop)

    pub wait_more : now ++ waiting_outline more ≡ whole
    wait_more =
        ap (λ ps. ps ++ waiting_outline more) push ∙ append_assoc parts (part ∷ []) (waiting_outline more)
        ∙ ap (λ ps. parts ++ ps) turned ∙ so

    pub wait_less : length (waiting_outline more) < length (waiting_outline waiting)
    wait_less = let e = ap length turned in omega arith

pub wait_end : (whole parts : List (OutlinePart Kind)) (waiting : List (Bor (TreeOf Kind Pair))) → waiting ≡ [] → parts ++ waiting_outline waiting ≡ whole → parts ≡ whole
wait_end whole parts waiting none so = sym (append-nil parts) ∙ ap (λ ws. parts ++ waiting_outline ws) (sym none) ∙ so

-- ---- one node

row_long : (ts : PlainTrees) → count ts ≤ length (row_outline ts)
row_long no_tree = omega arith
row_long (one_more t ts) =
    let rest = row_long ts in let a = length-append (outline_of t) (row_outline ts) in let one = some_part t in omega arith
  where
    some_part : (t : PlainTree) → 0 < length (outline_of t)
    some_part (leaf v) = omega arith
    some_part (node k cs ps) = omega arith

module _ (t : TreeOf Kind Pair) (k : Kind) (cs : ChildrenOf Kind Pair) (es : PairsOf Pair) (is : t ≡ NodeTree k cs es) where
  abbrev zs : List PlainTree
  zs = map plain (trees_of cs)

  pub few_below : length (outline_of (plain t)) < 2 ^ 32 → length (trees_of cs) < 2 ^ 32
  few_below short =
      let e = ap (λ p. length (outline_of p)) (plain_is_node t k cs es is) in let a = row_long (row (map plain (trees_of cs))) in let n = count_plain (trees_of cs) in
      omega arith

  pub node_waits : (n : ℕ) → n ≡ length (trees_of cs) → (old new : List (Bor (TreeOf Kind Pair))) → map plain_at new ≡ map plain_at old ++ reverse (map plain (trees_of cs)) →
      Node k n ∷ waiting_outline new ≡ outline_of (plain t) ++ waiting_outline old
  node_waits n long old new below =
      ap (λ m. Node k m ∷ waiting_outline new) (long ∙ sym (count_plain (trees_of cs)))
      ∙ ap (λ ts. Node k (count (row zs)) ∷ row_outline (row (reverse ts))) below
      ∙ ap (λ ts. Node k (count (row zs)) ∷ row_outline (row ts)) (reverse-append (map plain_at old) (reverse zs))
      ∙ ap (λ ts. Node k (count (row zs)) ∷ row_outline (row (ts ++ reverse (map plain_at old)))) (reverse-reverse zs)
      ∙ ap (λ ps. Node k (count (row zs)) ∷ ps) (outline-append zs (reverse (map plain_at old)))
      ∙ sym (ap (λ p. outline_of p ++ waiting_outline old) (plain_is_node t k cs es is))

pub leaf_waits : (t : TreeOf Kind Pair) (v : ℕ) (old : List (Bor (TreeOf Kind Pair))) → t ≡ Leaf v → Name v ∷ waiting_outline old ≡ outline_of (plain t) ++ waiting_outline old
leaf_waits t v old is = sym (ap (λ p. outline_of p ++ waiting_outline old) (plain_is_leaf t v is))

-- ---- the children of a node, from the last to the first

pub back_begin : (xs : List PlainTree) (ts : List (TreeOf Kind Pair)) (n : ℕ) → n ≡ length ts → xs ≡ xs ++ reverse (map plain (drop n ts))
back_begin xs ts n all = sym (ap (λ l. xs ++ reverse (map plain l)) (drop_all n ts (omega arith)) ∙ append-nil xs)

pub back_more : (xs : List PlainTree) (now more : List (Bor (TreeOf Kind Pair))) (ts : List (TreeOf Kind Pair)) (i : ℕ) (r : Bor (TreeOf Kind Pair)) → map plain_at now ≡ xs ++ reverse (map plain (drop (i + 1) ts)) → i < length ts →
    r.now ≡ get_or ts i r.now → more ≡ now ++ r ∷ [] → map plain_at more ≡ xs ++ reverse (map plain (drop i ts))
back_more xs now more ts i r so less is push =
    ap (map plain_at) push ∙ map-append plain_at now (r ∷ []) ∙ ap (λ l. l ++ plain r.now ∷ []) so
    ∙ append_assoc xs (reverse (map plain (drop (i + 1) ts))) (plain r.now ∷ [])
    ∙ ap (λ l. xs ++ l) (sym (reverse-append (plain r.now ∷ []) (map plain (drop (i + 1) ts))))
    ∙ ap (λ t. xs ++ reverse (map plain (t ∷ drop (i + 1) ts))) is
    ∙ ap (λ l. xs ++ l) (sym (at_drop_more (λ l. reverse (map plain l)) ts i r.now less))
