-- The parts of a tree, put from the last to the first on a stack of trees, leave the tree on top of it.
use Rattle.std.proofs.Common.{◌≡◌, suc, ◌-◌, ◌≤◌, List, [], ◌∷◌, ◌++◌, length, take, drop, refl, sym, ◌∙◌, ap, subst, append_assoc, append-nil, length-append, arith}
use Rattle.std.proofs.Math.Seq.{take-append_seam, drop-append_seam}
use Rattle.std.proofs.lemmas.List.{same_from_push}
use Rattle.std.specs.Prelude.{⊤}
use Rattle.md_tree.specs.Trees.{PlainTreeOf, leaf, node, PlainTreesOf, no_tree, one_more, count, row, EachNodeBelow}
use Rattle.md_tree.specs.Parts.{PlainPartOf, inner, parts_of, parts_backward, listed}
use Rattle.md_tree.specs.Stacks.{with_part, HasChildrenOf}

-- the stack after these parts, from the last to the first
abbrev pub folded : {K P : Type 0} → List (PlainPartOf K P) → List (PlainTreeOf K P) → List (PlainTreeOf K P)
folded [] ts = ts
folded (p ∷ ps) ts = with_part p (folded ps ts)

-- each part finds its children on the stack
abbrev pub Finds : {K P : Type 0} → List (PlainPartOf K P) → List (PlainTreeOf K P) → Type 0
Finds [] ts = ⊤
Finds (p ∷ ps) ts = Finds ps ts × HasChildrenOf p (folded ps ts)

folded-append : {K P : Type 0} (ps qs : List (PlainPartOf K P)) (ts : List (PlainTreeOf K P)) → folded (ps ++ qs) ts ≡ folded ps (folded qs ts)
folded-append [] qs ts = refl
folded-append (p ∷ ps) qs ts = ap (with_part p) (folded-append ps qs ts)

finds_append : {K P : Type 0} (ps qs : List (PlainPartOf K P)) (ts : List (PlainTreeOf K P)) → Finds qs ts → Finds ps (folded qs ts) → Finds (ps ++ qs) ts
finds_append [] qs ts h k = h
finds_append (p ∷ ps) qs ts h k = (finds_append ps qs ts h k.0, subst (HasChildrenOf p) (sym (folded-append ps qs ts)) k.1)

of_finds : {K P : Type 0} (ps qs : List (PlainPartOf K P)) (ts : List (PlainTreeOf K P)) → Finds (ps ++ qs) ts → Finds ps (folded qs ts) × Finds qs ts
of_finds [] qs ts h = (tt, h)
of_finds (p ∷ ps) qs ts h =
    let r : Finds ps (folded qs ts) × Finds qs ts = of_finds ps qs ts h.0 in
    ((r.0, subst (HasChildrenOf p) (folded-append ps qs ts) h.1), r.1)

pub row_listed : {K P : Type 0} (ts : PlainTreesOf K P) → row (listed ts) ≡ ts
row_listed no_tree = refl
row_listed (one_more t ts) = ap (one_more t) (row_listed ts)

pub count_row : {K P : Type 0} (ts : List (PlainTreeOf K P)) → count (row ts) ≡ length ts
count_row [] = refl
count_row (t ∷ ts) = ap (λ n. suc n) (count_row ts)

-- what holds of the nodes of trees, one row behind the other
module _ {K P : Type 0} (N : K → PlainTreesOf K P → List P → Type 0) where
  pub each_join : (xs ys : List (PlainTreeOf K P)) → EachNodeBelow N (row xs) → EachNodeBelow N (row ys) → EachNodeBelow N (row (xs ++ ys))
  each_join [] ys a b = b
  each_join (x ∷ xs) ys a b = (a.0, each_join xs ys a.1 b)

  pub each_parts : (xs ys : List (PlainTreeOf K P)) → EachNodeBelow N (row (xs ++ ys)) → EachNodeBelow N (row xs) × EachNodeBelow N (row ys)
  each_parts [] ys a = (tt, a)
  each_parts (x ∷ xs) ys a = let rest = each_parts xs ys a.1 in ((a.0, rest.0), rest.1)

pub length_listed : {K P : Type 0} (ts : PlainTreesOf K P) → length (listed ts) ≡ count ts
length_listed no_tree = refl
length_listed (one_more t ts) = ap (λ n. suc n) (length_listed ts)

-- a node over its children, on top of the stack
over_children : {K P : Type 0} (k : K) (cs : PlainTreesOf K P) (ps : List P) (ts : List (PlainTreeOf K P)) →
    with_part (inner k (count cs) ps) (ts ++ listed cs) ≡ ts ++ node k cs ps ∷ []
over_children k cs ps ts =
    let seam : length (ts ++ listed cs) - count cs ≡ length ts = omega (arith, length-append ts (listed cs), length_listed cs) in
    ap (λ n. take n (ts ++ listed cs) ++ node k (row (drop n (ts ++ listed cs))) ps ∷ []) seam
    ∙ ap (λ xs. xs ++ node k (row (drop (length ts) (ts ++ listed cs))) ps ∷ []) (take-append_seam ts (listed cs))
    ∙ ap (λ xs. ts ++ node k (row xs) ps ∷ []) (drop-append_seam ts (listed cs))
    ∙ ap (λ xs. ts ++ node k xs ps ∷ []) (row_listed cs)

mutual
  pub folded_tree : {K P : Type 0} (t : PlainTreeOf K P) (ts : List (PlainTreeOf K P)) → folded (parts_of t) ts ≡ ts ++ t ∷ []
  folded_tree (leaf v) ts = refl
  folded_tree (node k cs ps) ts = ap (with_part (inner k (count cs) ps)) (folded_trees cs ts) ∙ over_children k cs ps ts

  folded_trees : {K P : Type 0} (cs : PlainTreesOf K P) (ts : List (PlainTreeOf K P)) → folded (parts_backward cs) ts ≡ ts ++ listed cs
  folded_trees no_tree ts = sym (append-nil ts)
  folded_trees (one_more t cs) ts =
      folded-append (parts_backward cs) (parts_of t) ts ∙ ap (folded (parts_backward cs)) (folded_tree t ts)
      ∙ folded_trees cs (ts ++ t ∷ []) ∙ append_assoc ts (t ∷ []) (listed cs)

enough : {K P : Type 0} (cs : PlainTreesOf K P) (ts : List (PlainTreeOf K P)) → count cs ≤ length (folded (parts_backward cs) ts)
enough cs ts = omega (arith, ap length (folded_trees cs ts), length-append ts (listed cs), length_listed cs)

mutual
  finds_tree : {K P : Type 0} (t : PlainTreeOf K P) (ts : List (PlainTreeOf K P)) → Finds (parts_of t) ts
  finds_tree (leaf v) ts = (tt, tt)
  finds_tree (node k cs ps) ts = (finds_trees cs ts, enough cs ts)

  finds_trees : {K P : Type 0} (cs : PlainTreesOf K P) (ts : List (PlainTreeOf K P)) → Finds (parts_backward cs) ts
  finds_trees no_tree ts = tt
  finds_trees (one_more t cs) ts =
      finds_append (parts_backward cs) (parts_of t) ts (finds_tree t ts) (finds_trees cs (folded (parts_of t) ts))

-- a stack of trees on which the parts ps are still to be put, of all the parts of a tree
pub record IsFolding {K P : Type 0} (all ps : List (PlainPartOf K P)) (ts : List (PlainTreeOf K P)) : Type 0 where
  pub goes_on : folded ps ts ≡ folded all []
  pub finds : Finds ps ts

pub fold_begin : {K P : Type 0} (all : List (PlainPartOf K P)) (t : PlainTreeOf K P) → all ≡ parts_of t → IsFolding all all []
fold_begin all t e = record { goes_on = refl; finds = subst (λ ps. Finds ps []) (sym e) (finds_tree t []) }

pub fold_finds : {K P : Type 0} (all ps qs : List (PlainPartOf K P)) (p : PlainPartOf K P) (ts : List (PlainTreeOf K P)) → IsFolding all ps ts → ps ≡ qs ++ p ∷ [] → HasChildrenOf p ts
fold_finds all ps qs p ts is e = (of_finds qs (p ∷ []) ts (subst (λ xs. Finds xs ts) e is.finds)).1.1

pub fold_more : {K P : Type 0} (all ps qs : List (PlainPartOf K P)) (p : PlainPartOf K P) (ts us : List (PlainTreeOf K P)) → IsFolding all ps ts → ps ≡ qs ++ p ∷ [] → us ≡ with_part p ts →
    IsFolding all qs us
fold_more all ps qs p ts us is e made = record {
  goes_on = ap (folded qs) made ∙ sym (folded-append qs (p ∷ []) ts) ∙ ap (λ xs. folded xs ts) (sym e) ∙ is.goes_on;
  finds = subst (Finds qs) (sym made) (of_finds qs (p ∷ []) ts (subst (λ xs. Finds xs ts) e is.finds)).0;
}

-- nothing is left but the tree
pub fold_end : {K P : Type 0} (all ps : List (PlainPartOf K P)) (ts : List (PlainTreeOf K P)) → IsFolding all ps ts → ps ≡ [] → (t : PlainTreeOf K P) → all ≡ parts_of t → ts ≡ t ∷ []
fold_end all ps ts is none t e = sym (ap (λ xs. folded xs ts) none) ∙ is.goes_on ∙ ap (λ xs. folded xs []) e ∙ folded_tree t []

-- the last of the trees that are left is the tree
pub fold_top : {K P : Type 0} (all ps : List (PlainPartOf K P)) (ts us : List (PlainTreeOf K P)) (u : PlainTreeOf K P) → IsFolding all ps ts → ps ≡ [] → ts ≡ us ++ u ∷ [] →
    (t : PlainTreeOf K P) → all ≡ parts_of t → u ≡ t
fold_top all ps ts us u is none top t e = (same_from_push us [] u t (sym top ∙ fold_end all ps ts is none t e)).1

pub fold_some : {K P : Type 0} (all ps : List (PlainPartOf K P)) (ts : List (PlainTreeOf K P)) → IsFolding all ps ts → ps ≡ [] → ts ≡ [] → (t : PlainTreeOf K P) → all ≡ parts_of t → ⊥
fold_some all ps ts is none empty t e = let bad : [] ≡ t ∷ [] = sym empty ∙ fold_end all ps ts is none t e in cc
