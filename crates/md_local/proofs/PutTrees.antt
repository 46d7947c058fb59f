-- Trees that are put in place of the leaves of a tree: their places, and the stack.
use Rattle.std.proofs.Common.{◌≡◌, ◌≢◌, ℕ, zero, suc, ◌-◌, ◌≤◌, true, false, List, [], ◌∷◌, ◌++◌, length, map, take, drop, get_or, length-append, append-nil, Option, None, refl, sym, ◌∙◌, ap, subst, inl, inr, arith}
use Rattle.std.proofs.lemmas.Bool.{cases_Bool, false≢true, eqb-true}
use Rattle.std.proofs.lemmas.List.{length-map, map-append, take-map, drop-map, same_from_push}
use Rattle.std.specs.Prelude.{◌||◌, cond, nat_eq}
use Rattle.std.specs.List.{list_any}
use Rattle.md_graph.specs.Sets.{Has, only_name}
use Rattle.md_graph.proofs.SetLemmas.{clash, only_has, union_left, union_right}
use Rattle.md_text.proofs.Lists.{In, Later, in_left, in_right, of_append, later_left, later_across, later_append}
use Rattle.md_tree.specs.declared.Kind.{Kind}
use Rattle.md_tree.specs.declared.Kind.TheVariants.{Parallel, Series, Prime}
use Rattle.md_tree.specs.declared.Pair.{Pair}
use Rattle.md_tree.specs.declared.PairsOf.{PairsOf}
use Rattle.md_tree.specs.declared.TreeOf.{TreeOf}
use Rattle.md_tree.specs.declared.parts.PartOf.{PartOf}
use Rattle.md_tree.specs.declared.parts.PartOf.TheVariants.{Node as NodePart}
use Rattle.md_tree.specs.Trees.{PlainTree, leaf, node, PlainTrees, no_tree, one_more, names, names_below, count, row, EachNode, EachNodeBelow}
use Rattle.md_local.specs.NodeLists.{nodes_backward, row_nodes_backward}
use Rattle.md_tree.specs.Parts.{PlainPart, name, inner, plain_part, part_of, parts_of, parts_backward, listed, below_node}
use Rattle.md_tree.specs.Stacks.{HasChildrenOf}
use Rattle.md_tree.specs.Plain.{plain}
use Rattle.md_tree.specs.WellFormed.{AreDisjoint, NoneOfKind, HasShape, IsCanonicalNode, IsCanonicalTree}
use Rattle.md_tree.proofs.Folding.{row_listed, length_listed}
use Rattle.md_local.specs.Growing.{IsJoined, are_one_split, is_merged}
use Rattle.md_local.specs.Substitution.{IsSubstituted, AreSubstituted, IsPartTurn, is_inner, tree_at, tree_or_leaf, standing_at}
use Rattle.md_local.proofs.Joining.{prime_keeps}
use Rattle.md_local.proofs.Nested.{none_there, last_of, children_last, node_last, alone_last}
use Rattle.md_local.proofs.Placing.{kept_ordered}

-- ---- places

none_past : (xs : List (Option (TreeOf Kind Pair))) (x : ℕ) → length xs ≤ x → get_or xs x None ≡ None
none_past [] x past = refl
none_past (o ∷ xs) zero past = absurd (omega arith)
none_past (o ∷ xs) (suc x) past = none_past xs x (omega arith)

pub place_past : (xs : List (Option (TreeOf Kind Pair))) (x : ℕ) → length xs ≤ x → leaf x ≡ standing_at xs x
place_past xs x past = sym (ap (tree_or_leaf x) (none_past xs x past))

pub place_empty : (xs : List (Option (TreeOf Kind Pair))) (x : ℕ) (o : Option (TreeOf Kind Pair)) → o ≡ get_or xs x o → o ≡ None → leaf x ≡ standing_at xs x
place_empty xs x o is none = sym (ap (tree_or_leaf x) (subst (λ d. get_or xs x d ≡ None) none (sym is ∙ none)))

-- ---- the leaves of a tree

mutual
  listed_leaf : (t : PlainTree) (x : ℕ) → In (nodes_backward t) (leaf x) → Has (names t) x
  listed_leaf (leaf v) x (inl e) = let h : leaf x ≡ leaf v = e in let same : x ≡ v = cc in subst (Has (only_name v)) (sym same) (only_has v)
  listed_leaf (leaf v) x (inr i) = absurd i
  listed_leaf (node k cs ps) x (inl e) = let h : leaf x ≡ node k cs ps = e in absurd (cc)
  listed_leaf (node k cs ps) x (inr i) = below_leaf cs x i

  below_leaf : (ts : PlainTrees) (x : ℕ) → In (row_nodes_backward ts) (leaf x) → Has (names_below ts) x
  below_leaf no_tree x i = absurd i
  below_leaf (one_more t ts) x i = elim (of_append (row_nodes_backward ts) (nodes_backward t) (leaf x) i) [
    | inl j ↦ union_right (names t) (names_below ts) x (below_leaf ts x j)
    | inr j ↦ union_left (names t) (names_below ts) x (listed_leaf t x j)
  ]

-- not both are the leaf of one name
abbrev AreOtherLeaves : PlainTree → PlainTree → Type 0
AreOtherLeaves a b = (x : ℕ) → a ≡ leaf x → b ≡ leaf x → ⊥

no_leaf : (k : Kind) (cs : PlainTrees) (ps : List Pair) (x : ℕ) → node k cs ps ≡ leaf x → ⊥
no_leaf k cs ps x e = absurd (cc)

mutual
  once_leaves : (t : PlainTree) → EachNode IsCanonicalNode t → Later AreOtherLeaves (nodes_backward t)
  once_leaves (leaf v) each = ((λ b i. absurd i), tt)
  once_leaves (node k cs ps) each = ((λ b i x is other. no_leaf k cs ps x is), once_below cs each.0.apart each.1)

  once_below : (ts : PlainTrees) → AreDisjoint ts → EachNodeBelow IsCanonicalNode ts → Later AreOtherLeaves (row_nodes_backward ts)
  once_below no_tree apart each = tt
  once_below (one_more t ts) apart each =
      later_append AreOtherLeaves (row_nodes_backward ts) (nodes_backward t) (once_below ts apart.1 each.1) (once_leaves t each.0)
      (λ a b i j x p q. clash (below_leaf ts x (subst (In (row_nodes_backward ts)) p i)) (apart.0 x (listed_leaf t x (subst (In (nodes_backward t)) q j))))

-- ---- parts

-- a node's part tells how many children it has
has_children : (p : PlainTree) (us : List PlainTree) → length (below_node p) ≤ length us → HasChildrenOf (part_of p) us
has_children (leaf x) us enough = tt
has_children (node k cs ps) us enough = let number = length_listed cs in omega arith

named_leaf : (p : PlainTree) (x : ℕ) → part_of p ≡ name x → p ≡ leaf x
named_leaf (leaf v) x is = let h : name v ≡ name x = is in let same : v ≡ x = cc in ap leaf same
named_leaf (node k cs ps) x is = let h : inner k (count cs) ps ≡ name x = is in absurd (cc)

mutual
  node_parts : (t : PlainTree) → parts_of t ≡ map part_of (nodes_backward t)
  node_parts (leaf v) = refl
  node_parts (node k cs ps) = ap (λ l. part_of (node k cs ps) ∷ l) (row_parts cs)

  row_parts : (ts : PlainTrees) → parts_backward ts ≡ map part_of (row_nodes_backward ts)
  row_parts no_tree = refl
  row_parts (one_more t ts) =
      ap (λ l. l ++ parts_of t) (row_parts ts) ∙ ap (λ l. map part_of (row_nodes_backward ts) ++ l) (node_parts t)
      ∙ sym (map-append part_of (row_nodes_backward ts) (nodes_backward t))

-- the last of the nodes that have these parts
last_part : (left : List PlainTree) (qs : List PlainPart) (q : PlainPart) → map part_of left ≡ qs ++ q ∷ [] →
    (ps : List PlainTree) × (p : PlainTree) × (left ≡ ps ++ p ∷ []) × (map part_of ps ≡ qs) × (part_of p ≡ q)
last_part left qs q are = elim (last_of left) [
  | inl none ↦ none_there qs q [] (sym are ∙ ap (map part_of) none)
  | inr last ↦
      let same = same_from_push (map part_of last.0) qs (part_of last.1) q (sym (map-append part_of last.0 (last.1 ∷ [])) ∙ ap (map part_of) (sym last.2) ∙ are) in
      (last.0, last.1, last.2, same.0, same.1)
]

-- ---- the stack

module _ (Fits : ℕ → PlainTree → Type 0) where
  put_length : (ts us : List PlainTree) → AreSubstituted Fits (row ts) us → length us ≡ length ts
  put_length [] [] are = refl
  put_length [] (u ∷ us) are = absurd are
  put_length (t ∷ ts) [] are = absurd are
  put_length (t ∷ ts) (u ∷ us) are = ap (λ n. suc n) (put_length ts us are.1)

  put_front : (ts bs us : List PlainTree) → AreSubstituted Fits (row (ts ++ bs)) us → AreSubstituted Fits (row ts) (take (length ts) us)
  put_front [] bs us are = tt
  put_front (t ∷ ts) bs [] are = absurd are
  put_front (t ∷ ts) bs (u ∷ us) are = (are.0, put_front ts bs us are.1)

  put_back : (ts bs us : List PlainTree) → AreSubstituted Fits (row (ts ++ bs)) us → AreSubstituted Fits (row bs) (drop (length ts) us)
  put_back [] bs us are = are
  put_back (t ∷ ts) bs [] are = absurd are
  put_back (t ∷ ts) bs (u ∷ us) are = put_back ts bs us are.1

  put_more : (ts us : List PlainTree) (t u : PlainTree) → AreSubstituted Fits (row ts) us → IsSubstituted Fits t u → AreSubstituted Fits (row (ts ++ t ∷ [])) (us ++ u ∷ [])
  put_more [] [] t u are is = (is, tt)
  put_more [] (w ∷ us) t u are is = absurd are
  put_more (s ∷ ts) [] t u are is = absurd are
  put_more (s ∷ ts) (w ∷ us) t u are is = (are.0, put_more ts us t u are.1 is)

  put_over : (place : ℕ → PlainTree) (ws : List PlainTree) (p : PlainTree) (us vs : List PlainTree) → AreSubstituted Fits (row (ws ++ below_node p)) us → ((x : ℕ) → p ≡ leaf x → Fits x (place x)) →
      IsPartTurn place (part_of p) us vs → AreSubstituted Fits (row (ws ++ p ∷ [])) vs
  put_over place ws (leaf x) us vs are fits put =
      subst (AreSubstituted Fits (row (ws ++ leaf x ∷ []))) (sym put)
      (put_more ws us (leaf x) (place x) (subst (λ l. AreSubstituted Fits (row l) us) (append-nil ws) are) (fits x refl))
  put_over place ws (node k cs ps) us vs are fits put =
      let at : length us - count cs ≡ length ws =
      (let all = put_length (ws ++ listed cs) us are in let both = length-append ws (listed cs) in let number = length_listed cs in omega arith) in
      let back : AreSubstituted Fits (row (listed cs)) (drop (length ws) us) = put_back ws (listed cs) us are in
      let below : AreSubstituted Fits cs (drop (length us - count cs) us) =
      subst (λ n. AreSubstituted Fits cs (drop n us)) (sym at) (subst (λ l. AreSubstituted Fits l (drop (length ws) us)) (row_listed cs) back) in
      let front : AreSubstituted Fits (row ws) (take (length us - count cs) us) = subst (λ n. AreSubstituted Fits (row ws) (take n us)) (sym at) (put_front ws (listed cs) us are) in
      subst (AreSubstituted Fits (row (ws ++ node k cs ps ∷ []))) (sym put.2)
      (put_more ws (take (length us - count cs) us) (node k cs ps) put.0 front (drop (length us - count cs) us, below, put.1))

  module _ (t : PlainTree) where
    -- the trees of the nodes that have been looked at, and what was put for them
    abbrev pub IsPutStack : List PlainTree → List PlainTree → Type 0
    IsPutStack left us = (ts : List PlainTree) × (left ++ row_nodes_backward (row ts) ≡ nodes_backward t) × AreSubstituted Fits (row ts) us

    put_begin : (left us : List PlainTree) → left ≡ nodes_backward t → us ≡ [] → IsPutStack left us
    put_begin left us are none = ([], append-nil left ∙ are, subst (AreSubstituted Fits no_tree) (sym none) tt)

    put_enough : (left ps : List PlainTree) (p : PlainTree) (us : List PlainTree) → IsPutStack left us → left ≡ ps ++ p ∷ [] → HasChildrenOf (part_of p) us
    put_enough left ps p us is pop =
        let ws : (ws : List PlainTree) × (is.0 ≡ ws ++ below_node p) = children_last t left ps p is.0 is.1 pop in
        let all = put_length is.0 us is.2 in
        let cut = ap length ws.1 in
        let both = length-append ws.0 (below_node p) in
        has_children p us (omega arith)

    put_step : (place : ℕ → PlainTree) (left ps : List PlainTree) (p : PlainTree) (us vs : List PlainTree) → IsPutStack left us → left ≡ ps ++ p ∷ [] →
        ((x : ℕ) → p ≡ leaf x → Fits x (place x)) → IsPartTurn place (part_of p) us vs → IsPutStack ps vs
    put_step place left ps p us vs is pop fits put =
        let ws : (ws : List PlainTree) × (is.0 ≡ ws ++ below_node p) = children_last t left ps p is.0 is.1 pop in
        let are : AreSubstituted Fits (row (ws.0 ++ below_node p)) us = subst (λ l. AreSubstituted Fits (row l) us) ws.1 is.2 in
        (ws.0 ++ p ∷ [], node_last t left ps p is.0 ws.0 is.1 pop ws.1, put_over place ws.0 p us vs are fits put)

    put_end : (left us rest : List PlainTree) (u : PlainTree) → IsPutStack left us → left ≡ [] → us ≡ rest ++ u ∷ [] → IsSubstituted Fits t u
    put_end left us rest u is none top =
        only_put us rest u (subst (λ l. AreSubstituted Fits (row l) us) (alone_last t left is.0 is.1 none) is.2) top
      where
        only_put : (us rest : List PlainTree) (u : PlainTree) → AreSubstituted Fits (row (t ∷ [])) us → us ≡ rest ++ u ∷ [] → IsSubstituted Fits t u
        only_put [] rest u are top = absurd are
        only_put (w ∷ []) [] u are top = let h : w ∷ [] ≡ u ∷ [] = top in let same : w ≡ u = cc in subst (IsSubstituted Fits t) same are.0
        only_put (w ∷ []) (z ∷ rest) u are top = let long = ap length top in let both = length-append rest (u ∷ []) in absurd (omega arith)
        only_put (w ∷ z ∷ us) rest u are top = absurd are.1

    put_some : (left us : List PlainTree) → IsPutStack left us → left ≡ [] → us ≡ [] → ⊥
    put_some left us is none empty = subst (λ l. AreSubstituted Fits (row l) []) (alone_last t left is.0 is.1 none) (subst (AreSubstituted Fits (row is.0)) empty is.2)

    -- a leaf that comes isn't among the nodes that are left
    leaf_once : (left ps : List PlainTree) (x : ℕ) (us : List PlainTree) → IsCanonicalTree t → IsPutStack left us → left ≡ ps ++ leaf x ∷ [] → In ps (leaf x) → ⊥
    leaf_once left ps x us each is pop i =
        let all : Later AreOtherLeaves (left ++ row_nodes_backward (row is.0)) = subst (Later AreOtherLeaves) (sym is.1) (once_leaves t each) in
        let front : Later AreOtherLeaves (ps ++ leaf x ∷ []) = subst (Later AreOtherLeaves) pop (later_left AreOtherLeaves left (row_nodes_backward (row is.0)) all) in
        later_across AreOtherLeaves ps (leaf x ∷ []) front (leaf x) (leaf x) i (inl refl) x refl refl

    -- a place that isn't the leaf's is kept
    leaves_keep : (old new begun : ℕ → PlainTree) (left ps : List PlainTree) (p : PlainTree) (us : List PlainTree) → IsCanonicalTree t → IsPutStack left us → left ≡ ps ++ p ∷ [] →
        ((x : ℕ) → p ≢ leaf x → new x ≡ old x) → ((x : ℕ) → In left (leaf x) → old x ≡ begun x) → (x : ℕ) → In ps (leaf x) → new x ≡ begun x
    leaves_keep old new begun left ps p us each is pop kept before x i =
        kept x (λ same. leaf_once left ps x us each is (pop ∙ ap (λ q. ps ++ q ∷ []) same) i)
        ∙ before x (subst (λ l. In l (leaf x)) (sym pop) (in_left ps (p ∷ []) (leaf x) i))

    leaf_fits : (old begun : ℕ → PlainTree) (left ps : List PlainTree) (p : PlainTree) → left ≡ ps ++ p ∷ [] → ((x : ℕ) → In left (leaf x) → old x ≡ begun x) → (x : ℕ) → p ≡ leaf x → old x ≡ begun x
    leaf_fits old begun left ps p pop before x same =
        before x (subst (λ l. In l (leaf x)) (sym (pop ∙ ap (λ q. ps ++ q ∷ []) same)) (in_right ps (leaf x ∷ []) (leaf x) (inl refl)))

-- ---- what is put for a node

-- ---- the parts that are left, and what was put

-- of the parts of t these are left, and the trees were put for the others; `begun` says what stood at the places at first, and `now` what stands there
abbrev pub IsPutting : (ℕ → PlainTree) → (ℕ → PlainTree) → PlainTree → List PlainPart → List PlainTree → Type 0
IsPutting begun now t parts us =
    (left : List PlainTree) × (map part_of left ≡ parts) × IsPutStack (λ x part. part ≡ begun x) t left us × ((x : ℕ) → In left (leaf x) → now x ≡ begun x)

pub putting_begin : (begun : ℕ → PlainTree) (t : PlainTree) (parts : List PlainPart) (us : List PlainTree) → parts ≡ parts_of t → us ≡ [] → IsPutting begun begun t parts us
putting_begin begun t parts us are none =
    (nodes_backward t, sym (are ∙ node_parts t), put_begin (λ x part. part ≡ begun x) t (nodes_backward t) us refl none, λ x i. refl)

pub putting_enough : (begun now : ℕ → PlainTree) (t : PlainTree) (parts qs : List PlainPart) (q : PlainPart) (us : List PlainTree) → IsPutting begun now t parts us → parts ≡ qs ++ q ∷ [] → HasChildrenOf q us
putting_enough begun now t parts qs q us is pop =
    let last = last_part is.0 qs q (is.1 ∙ pop) in
    subst (λ p. HasChildrenOf p us) last.4 (put_enough (λ x part. part ≡ begun x) t is.0 last.0 last.1 us is.2 last.2)

pub putting_step : (begun now new : ℕ → PlainTree) (t : PlainTree) (parts qs : List PlainPart) (q : PlainPart) (us vs : List PlainTree) → IsCanonicalTree t → IsPutting begun now t parts us → parts ≡ qs ++ q ∷ [] →
    IsPartTurn now q us vs → ((x : ℕ) → q ≢ name x → new x ≡ now x) → IsPutting begun new t qs vs
putting_step begun now new t parts qs q us vs each is pop put kept =
    let last = last_part is.0 qs q (is.1 ∙ pop) in
    let p = last.1 in (
      last.0,
      last.3,
      put_step (λ x part. part ≡ begun x) t now is.0 last.0 p us vs is.2 last.2
          (leaf_fits (λ x part. part ≡ begun x) t now begun is.0 last.0 p last.2 is.3) (subst (λ w. IsPartTurn now w us vs) (sym last.4) put),
      leaves_keep (λ x part. part ≡ begun x) t now new begun is.0 last.0 p us each is.2 last.2
          (λ x differs. kept x (λ same. differs (named_leaf p x (last.4 ∙ same)))) is.3,
    )

none_left : (left : List PlainTree) (parts : List PlainPart) → map part_of left ≡ parts → parts ≡ [] → left ≡ []
none_left [] parts are none = refl
none_left (p ∷ left) parts are none = let h : part_of p ∷ map part_of left ≡ [] = are ∙ none in absurd (cc)

pub putting_end : (begun now : ℕ → PlainTree) (t : PlainTree) (parts : List PlainPart) (us rest : List PlainTree) (u : PlainTree) → IsPutting begun now t parts us → parts ≡ [] → us ≡ rest ++ u ∷ [] →
    IsSubstituted (λ x part. part ≡ begun x) t u
putting_end begun now t parts us rest u is none top = put_end (λ x part. part ≡ begun x) t is.0 us rest u is.2 (none_left is.0 parts is.1 none) top

pub putting_some : (begun now : ℕ → PlainTree) (t : PlainTree) (parts : List PlainPart) (us : List PlainTree) → IsPutting begun now t parts us → parts ≡ [] → us ≡ [] → ⊥
putting_some begun now t parts us is none empty = put_some (λ x part. part ≡ begun x) t is.0 us is.2 (none_left is.0 parts is.1 none) empty

-- ---- one part

pub node_turn : (place : ℕ → PlainTree) (part : PartOf Kind Pair) (k : Kind) (n m : ℕ) (es : PairsOf Pair) (u : TreeOf Kind Pair) (xs ys zs cs : List (TreeOf Kind Pair)) → part ≡ NodePart k n es → m ≡ length xs - n →
    cs ≡ drop m xs → ys ≡ take m xs → zs ≡ ys ++ u ∷ [] → IsJoined k es.list.items (map plain cs) (plain u) → IsPartTurn place (plain_part part) (map plain xs) (map plain zs)
node_turn place part k n m es u xs ys zs cs is at cut kept push joined =
    let same : m ≡ length (map plain xs) - n = (let long = length-map xs plain in omega arith) in
    subst (λ p. IsPartTurn place (plain_part p) (map plain xs) (map plain zs)) (sym is) (
      plain u,
      subst (λ l. IsJoined k es.list.items l (plain u)) (ap (map plain) cut ∙ sym (drop-map plain m xs) ∙ ap (λ i. drop i (map plain xs)) same) joined,
      ap (map plain) push ∙ map-append plain ys (u ∷ [])
          ∙ ap (λ l. l ++ plain u ∷ []) (ap (map plain) kept ∙ sym (take-map plain m xs) ∙ ap (λ i. take i (map plain xs)) same),
    )

-- ---- a tree over leaves alone

leaves_there : (ts : List PlainTree) (x : ℕ) → list_any is_inner ts ≡ false → leaf x ≡ tree_at ts x
leaves_there [] x none = refl
leaves_there (leaf y ∷ ts) x none = elim (cases_Bool (nat_eq y x)) [
  | inl same ↦ sym (ap (λ b. cond b (leaf y) (tree_at ts x)) same ∙ ap leaf (eqb-true y x same))
  | inr other ↦ leaves_there ts x none ∙ sym (ap (λ b. cond b (leaf y) (tree_at ts x)) other)
]
leaves_there (node k cs ps ∷ ts) x none = absurd (false≢true (sym none))

none_of_kind : (k : Kind) → ((l : Kind) → are_one_split k l ≡ true → l ≡ k) → (cs : PlainTrees) → NoneOfKind cs k → list_any (is_merged k) (listed cs) ≡ false
none_of_kind k own no_tree none = refl
none_of_kind k own (one_more (leaf x) cs) none = none_of_kind k own cs none.1
none_of_kind k own (one_more (node l ds ps) cs) none = elim (cases_Bool (are_one_split k l)) [
  | inl same ↦ absurd (none.0 (own l same))
  | inr other ↦ ap (λ b. b || list_any (is_merged k) (listed cs)) other ∙ none_of_kind k own cs none.1
]

one_kind : (k l : Kind) → are_one_split k l ≡ true → l ≡ k
one_kind Parallel Parallel same = refl
one_kind Parallel Series same = absurd (false≢true same)
one_kind Parallel Prime same = absurd (false≢true same)
one_kind Series Parallel same = absurd (false≢true same)
one_kind Series Series same = refl
one_kind Series Prime same = absurd (false≢true same)
one_kind Prime l same = absurd (false≢true same)

none_to_merge : (k : Kind) (cs : PlainTrees) (ps : List Pair) → HasShape k cs ps → list_any (is_merged k) (listed cs) ≡ false
none_to_merge Parallel cs ps shape = none_of_kind Parallel (one_kind Parallel) cs shape.other_kinds
none_to_merge Series cs ps shape = none_of_kind Series (one_kind Series) cs shape.other_kinds
none_to_merge Prime cs ps shape = prime_keeps (listed cs)

pub any_inner : (xs : List (TreeOf Kind Pair)) → list_any (λ (t : TreeOf Kind Pair). is_inner (plain t)) xs ≡ list_any is_inner (map plain xs)
any_inner [] = refl
any_inner (x ∷ xs) = ap (λ b. is_inner (plain x) || b) (any_inner xs)

module _ (ts : List PlainTree) (none : list_any is_inner ts ≡ false) where
  mutual
    pub leaves_substituted : (t : PlainTree) → IsCanonicalTree t → IsSubstituted (λ x part. part ≡ tree_at ts x) t t
    leaves_substituted (leaf x) each = leaves_there ts x none
    leaves_substituted (node k cs ps) each =
        (listed cs, row_substituted cs each.1, (listed cs, kept_ordered k (listed cs) (none_to_merge k cs ps each.0.shape), ap (λ l. node k l ps) (sym (row_listed cs))))

    row_substituted : (cs : PlainTrees) → EachNodeBelow IsCanonicalNode cs → AreSubstituted (λ x part. part ≡ tree_at ts x) cs (listed cs)
    row_substituted no_tree each = tt
    row_substituted (one_more t cs) each = (leaves_substituted t each.0, row_substituted cs each.1)
