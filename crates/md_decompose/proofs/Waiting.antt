-- The sets that wait to be taken apart, and what is laid down of a tree so far: whatever trees the sets have, with theirs it is what is laid down of a tree.
use Rattle.std.proofs.Common.{◌≡◌, suc, List, [], ◌∷◌, ◌++◌, length, map, refl, sym, ◌∙◌, ap, subst, append_assoc, append-nil}
use Rattle.std.proofs.lemmas.List.{map-append}
use Rattle.md_graph.specs.Sets.{NameSet}
use Rattle.md_tree.specs.Trees.{PlainTreeOf, PlainTreesOf, names, row, count, EachNode, EachNodeBelow}
use Rattle.md_tree.specs.Parts.{PlainPartOf, parts_backward}
use Rattle.md_tree.proofs.Folding.{each_join, each_parts}
use Rattle.md_tree.proofs.Listing.{backward-append}

module _ {K P : Type 0} where
  pub no_trees : (ts : List (PlainTreeOf K P)) → map names ts ≡ [] → ts ≡ []
  no_trees [] e = refl
  no_trees (t ∷ ts) e = absurd (cc)

  pub one_tree : (ts : List (PlainTreeOf K P)) (s : NameSet) → map names ts ≡ s ∷ [] → (t : PlainTreeOf K P) × (ts ≡ t ∷ []) × (names t ≡ s)
  one_tree [] s e = absurd (cc)
  one_tree (t ∷ []) s e = (t, refl, (cc))
  one_tree (t ∷ u ∷ ts) s e = absurd (cc)

  -- trees whose leaf sets are those of two lists in a row
  abbrev Parted : List (PlainTreeOf K P) → List NameSet → List NameSet → Type 0
  Parted ts a b = (xs : List (PlainTreeOf K P)) × (ys : List (PlainTreeOf K P)) × (ts ≡ xs ++ ys) × (map names xs ≡ a) × (map names ys ≡ b)

  one_more_parted : (t : PlainTreeOf K P) (ts : List (PlainTreeOf K P)) (s : NameSet) (a b : List NameSet) → names t ≡ s → Parted ts a b → Parted (t ∷ ts) (s ∷ a) b
  one_more_parted t ts s a b e r = (t ∷ r.0, r.1, ap (λ us. t ∷ us) r.2, ap (λ m. m ∷ map names r.0) e ∙ ap (λ ss. s ∷ ss) r.3, r.4)

  parted : (ts : List (PlainTreeOf K P)) (a b : List NameSet) → map names ts ≡ a ++ b → Parted ts a b
  parted ts [] b e = ([], ts, refl, refl, e)
  parted [] (s ∷ a) b e = absurd (cc)
  parted (t ∷ ts) (s ∷ a) b e = one_more_parted t ts s a b (cc) (parted ts a b (cc))

  pub count_trees : (ts : List (PlainTreeOf K P)) → count (row ts) ≡ length (map names ts)
  count_trees [] = refl
  count_trees (t ∷ ts) = ap (λ n. suc n) (count_trees ts)

-- trees in a row are laid down from the last to the first
pub record IsLaidBackward {K P X : Type 0} (laid : List (PlainTreeOf K P) → List X) : Type 0 where
  pub none : laid [] ≡ []
  pub append : (xs ys : List (PlainTreeOf K P)) → laid (xs ++ ys) ≡ laid ys ++ laid xs

-- the parts of trees
abbrev pub laid_parts : {K P : Type 0} → List (PlainTreeOf K P) → List (PlainPartOf K P)
laid_parts ts = parts_backward (row ts)

pub parts_laid : {K P : Type 0} → IsLaidBackward (laid_parts {K = K} {P = P})
parts_laid = record { none = refl; append = backward-append }

-- ps is laid down of a tree of all the names, each node of which is as B has it
abbrev pub IsBegun : {K P X : Type 0} → (List (PlainTreeOf K P) → List X) → (K → PlainTreesOf K P → List P → Type 0) → NameSet → List X → Type 0
IsBegun laid B all ps = (t : PlainTreeOf _ _) × (names t ≡ all) × EachNode B t × (ps ≡ laid (t ∷ []))

-- whatever trees the sets have, with theirs the parts are those of a tree
abbrev pub GoesOn : {K P X : Type 0} → (List (PlainTreeOf K P) → List X) → (K → PlainTreesOf K P → List P → Type 0) → NameSet → List X → List NameSet → Type 0
GoesOn laid B all parts ss = (ts : List (PlainTreeOf _ _)) → map names ts ≡ ss → EachNodeBelow B (row ts) → IsBegun laid B all (parts ++ laid ts)

-- a tree of s over trees of its children
abbrev pub HasTreeOver : {K P X : Type 0} → (List (PlainTreeOf K P) → List X) → (K → PlainTreesOf K P → List P → Type 0) → NameSet → X → List (PlainTreeOf K P) → Type 0
HasTreeOver laid B s p us = (t : PlainTreeOf _ _) × (names t ≡ s) × EachNode B t × (laid (t ∷ []) ≡ p ∷ laid us)

-- p is the part of a tree of s over whatever trees the sets have
abbrev pub IsPartOver : {K P X : Type 0} → (List (PlainTreeOf K P) → List X) → (K → PlainTreesOf K P → List P → Type 0) → NameSet → X → List NameSet → Type 0
IsPartOver laid B s p added = (us : List (PlainTreeOf _ _)) → map names us ≡ added → EachNodeBelow B (row us) → HasTreeOver laid B s p us

module _ {K P X : Type 0} {laid : List (PlainTreeOf K P) → List X} (is_laid : IsLaidBackward laid) (B : K → PlainTreesOf K P → List P → Type 0) (all : NameSet) where
  pub goes_begin : GoesOn laid B all [] (all ∷ [])
  goes_begin ts sets each =
      let r : (t : PlainTreeOf K P) × (ts ≡ t ∷ []) × (names t ≡ all) = one_tree ts all sets in
      (r.0, r.2, (subst (λ us. EachNodeBelow B (row us)) r.1 each).0, ap laid r.1)

  begun_as : {ps qs : List X} → ps ≡ qs → IsBegun laid B all ps → IsBegun laid B all qs
  begun_as same b = (b.0, b.1, b.2, sym same ∙ b.3)

  module _ (parts : List X) (waiting : List NameSet) (s : NameSet) (is : GoesOn laid B all parts (waiting ++ s ∷ [])) (p : X) (added : List NameSet)
      (over : IsPartOver laid B s p added) where
    moved : (ts xs ys : List (PlainTreeOf K P)) (t : PlainTreeOf K P) → ts ≡ xs ++ ys → laid (t ∷ []) ≡ p ∷ laid ys →
        parts ++ laid (xs ++ t ∷ []) ≡ (parts ++ p ∷ []) ++ laid ts
    moved ts xs ys t cut own =
        ap (λ ps. parts ++ ps) (is_laid.append xs (t ∷ [])) ∙ ap (λ ps. parts ++ (ps ++ laid xs)) own
        ∙ ap (λ ps. parts ++ p ∷ ps) (sym (is_laid.append xs ys)) ∙ sym (append_assoc parts (p ∷ []) (laid (xs ++ ys)))
        ∙ ap (λ us. (parts ++ p ∷ []) ++ laid us) (sym cut)

    with_tree : (ts : List (PlainTreeOf K P)) (r : Parted ts waiting added) → EachNodeBelow B (row r.0) → HasTreeOver laid B s p r.1 →
        IsBegun laid B all ((parts ++ p ∷ []) ++ laid ts)
    with_tree ts r each t =
        begun_as (moved ts r.0 r.1 t.0 r.2 t.3)
        (is (r.0 ++ t.0 ∷ [])
        (map-append names r.0 (t.0 ∷ []) ∙ ap (λ ss. ss ++ names t.0 ∷ []) r.3 ∙ ap (λ m. waiting ++ m ∷ []) t.1)
        (each_join B r.0 (t.0 ∷ []) each (t.2, tt)))

    with_parts : (ts : List (PlainTreeOf K P)) (r : Parted ts waiting added) →
        EachNodeBelow B (row r.0) × EachNodeBelow B (row r.1) → IsBegun laid B all ((parts ++ p ∷ []) ++ laid ts)
    with_parts ts r two = with_tree ts r two.0 (over r.1 r.4 two.1)

    pub goes_more : GoesOn laid B all (parts ++ p ∷ []) (waiting ++ added)
    goes_more ts sets each =
        let r : Parted ts waiting added = parted ts waiting added sets in
        with_parts ts r (each_parts B r.0 r.1 (subst (λ us. EachNodeBelow B (row us)) r.2 each))

  pub goes_end : (parts : List X) → GoesOn laid B all parts [] → IsBegun laid B all parts
  goes_end parts is = begun_as (ap (λ ps. parts ++ ps) is_laid.none ∙ append-nil parts) (is [] refl tt)
