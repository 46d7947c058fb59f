-- The part of a tree that is its root, and the parts of trees that are taken apart.
use Rattle.std.proofs.Common.{◌≡◌, ℕ, ◌<◌, List, [], ◌∷◌, ◌++◌, length, map, refl, sym, ◌∙◌, ap, append_assoc, append-nil, arith}
use Rattle.std.proofs.lemmas.List.{length-map}
use Rattle.md_tree.specs.declared.PairsOf.{PairsOf}
use Rattle.md_tree.specs.declared.ChildrenOf.{ChildrenOf}
use Rattle.md_tree.specs.declared.TreeOf.{TreeOf, Leaf, Node}
use Rattle.md_tree.specs.Trees.{PlainTreeOf, leaf, node, count, row}
use Rattle.md_tree.specs.Plain.{plain, trees_of}
use Rattle.md_tree.specs.Parts.{PlainPartOf, part_of, parts_of, parts_backward, plain_part, below_node, name, inner}
use Rattle.md_tree.proofs.Plain.{plain_is_leaf, plain_is_node}
use Rattle.md_tree.proofs.Folding.{count_row, row_listed}
use Rattle.md_tree.proofs.Listing.{backward-append}
use Rattle.md_tree.proofs.Stacking.{map_one_more}
use Rattle.md_tree.specs.declared.parts.PartOf.{PartOf}
use Rattle.md_tree.specs.declared.parts.PartOf.TheVariants.{Leaf as LeafPart, Node as NodePart}

module _ {K P : Type 0} where
  pub part_is_leaf : (t : TreeOf K P) (v : ℕ) → t ≡ Leaf v → name v ≡ part_of (plain t)
  part_is_leaf t v is = sym (ap part_of (plain_is_leaf t v is))

  pub part_is_node : (t : TreeOf K P) (k : K) (cs : ChildrenOf K P) (ps : PairsOf P) (n : ℕ) (list : List P) → t ≡ Node k cs ps → n ≡ length (trees_of cs) → list ≡ ps.list.items →
      inner k n list ≡ part_of (plain t)
  part_is_node t k cs ps n list is number same =
      ap (λ m. inner k m list) (number ∙ sym (count_row (map plain (trees_of cs)) ∙ length-map (trees_of cs) plain)) ∙ ap (inner k (count (row (map plain (trees_of cs))))) same ∙ sym (ap part_of (plain_is_node t k cs ps is))

  -- behind the part of a tree come those of its children
  own_parts : (t : PlainTreeOf K P) → parts_of t ≡ part_of t ∷ parts_backward (row (below_node t))
  own_parts (leaf v) = refl
  own_parts (node k cs ps) = ap (λ ts. inner k (count cs) ps ∷ parts_backward ts) (sym (row_listed cs))

  -- a tree that waited gives way to its children
  apart_waiting : (ts us vs : List (PlainTreeOf K P)) (t : PlainTreeOf K P) → ts ≡ us ++ t ∷ [] → vs ≡ us ++ below_node t → parts_backward (row ts) ≡ part_of t ∷ parts_backward (row vs)
  apart_waiting ts us vs t pop below =
      ap (λ l. parts_backward (row l)) pop ∙ backward-append us (t ∷ []) ∙ ap (λ l. l ++ parts_backward (row us)) (own_parts t)
      ∙ ap (λ l. part_of t ∷ l) (sym (backward-append us (below_node t)) ∙ ap (λ l. parts_backward (row l)) (sym below))

  pub apart_begin : (parts : List (PlainPartOf K P)) (ts : List (PlainTreeOf K P)) (t : PlainTreeOf K P) → parts ≡ [] → ts ≡ t ∷ [] → parts ++ parts_backward (row ts) ≡ parts_of t
  apart_begin parts ts t none one = ap (λ l. l ++ parts_backward (row ts)) none ∙ ap (λ l. parts_backward (row l)) one

  pub apart_more : (all parts more : List (PlainPartOf K P)) (ts us vs : List (PlainTreeOf K P)) (t : PlainTreeOf K P) → parts ++ parts_backward (row ts) ≡ all → ts ≡ us ++ t ∷ [] → vs ≡ us ++ below_node t →
      more ≡ parts ++ part_of t ∷ [] → more ++ parts_backward (row vs) ≡ all
  apart_more all parts more ts us vs t so pop below push =
      ap (λ l. l ++ parts_backward (row vs)) push ∙ append_assoc parts (part_of t ∷ []) (parts_backward (row vs))
      ∙ ap (λ l. parts ++ l) (sym (apart_waiting ts us vs t pop below)) ∙ so

  pub apart_less : (ts us vs : List (PlainTreeOf K P)) (t : PlainTreeOf K P) → ts ≡ us ++ t ∷ [] → vs ≡ us ++ below_node t → length (parts_backward (row vs)) < length (parts_backward (row ts))
  apart_less ts us vs t pop below = let e = ap length (apart_waiting ts us vs t pop below) in omega arith

  pub apart_end : (all parts : List (PlainPartOf K P)) (ts : List (PlainTreeOf K P)) → parts ++ parts_backward (row ts) ≡ all → ts ≡ [] → parts ≡ all
  apart_end all parts ts so none = sym (append-nil parts) ∙ ap (λ l. parts ++ parts_backward (row l)) (sym none) ∙ so

  -- ---- the root of a tree, put behind the parts

  pub leaf_parted : (t : TreeOf K P) (v : ℕ) (xs ys : List (PartOf K P)) → t ≡ Leaf v → ys ≡ xs ++ LeafPart v ∷ [] → map plain_part ys ≡ map plain_part xs ++ part_of (plain t) ∷ []
  leaf_parted t v xs ys is push = map_one_more plain_part ys xs (LeafPart v) push ∙ ap (λ p. map plain_part xs ++ p ∷ []) (part_is_leaf t v is)

  pub node_parted : (t : TreeOf K P) (k l : K) (cs : ChildrenOf K P) (ps qs : PairsOf P) (n : ℕ) (xs ys : List (PartOf K P)) → t ≡ Node k cs ps → ys ≡ xs ++ NodePart l n qs ∷ [] → l ≡ k →
      n ≡ length (trees_of cs) → qs.list.items ≡ ps.list.items → map plain_part ys ≡ map plain_part xs ++ part_of (plain t) ∷ []
  node_parted t k l cs ps qs n xs ys is push own number same =
      map_one_more plain_part ys xs (NodePart l n qs) push
      ∙ ap (λ p. map plain_part xs ++ p ∷ []) (ap (λ m. inner m n qs.list.items) own ∙ part_is_node t k cs ps n qs.list.items is number same)
