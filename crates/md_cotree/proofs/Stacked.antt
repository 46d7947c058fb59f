-- Trees put in order from the parts of a tree, which are read from the last to the first.
use Rattle.std.proofs.Common.{◌≡◌, ℕ, zero, suc, ◌-◌, ◌<◌, List, [], ◌∷◌, ◌++◌, length, take, drop, map, Option, Some, None, refl, sym, ap, subst, arith}
use Rattle.std.proofs.lemmas.List.{same_from_push}
use Rattle.std.specs.Prelude.{⊤}
use Rattle.md_lists.specs.declared.kinds.PlaceKind.{PlaceKind}
use Rattle.md_lists.specs.declared.kinds.PlaceKind.TheVariants.{Leaf, Parallel, Series}
use Rattle.md_tree.specs.declared.Kind.{Kind}
use Rattle.md_tree.specs.declared.Kind.TheVariants.{Parallel as ParallelKind, Series as SeriesKind}
use Rattle.md_tree.specs.Trees.{PlainTree, leaf, node, PlainTrees, no_tree, one_more, row, EachNodeBelow}
use Rattle.md_tree.specs.Parts.{PlainPart, name, inner as inner_part, parts_of, parts_backward}
use Rattle.md_tree.specs.Stacks.{with_part, HasChildrenOf}
use Rattle.md_tree.proofs.Spelled.{plain_two}
use Rattle.md_tree.proofs.Folding.{IsFolding, fold_begin, fold_finds, fold_more}
use Rattle.md_cotree.specs.Orders.{part_of_kind, PlainKeyed, tree_of, first_key, IsLooseNode, IsLoose, IsOrdered, IsPutOver, IsPartPut, HasBelow}
use Rattle.md_cotree.proofs.Arranging.{IsArranged, Along, along_long, AllArranged, leaf_arranged, node_arranged}
use Rattle.md_cotree.proofs.Rooted.{all_parts, one_tree}

-- each keyed tree is the other one in order, where that is loose
abbrev pub Matches : PlainKeyed → PlainTree → Type 0
Matches z s = IsLoose s → IsArranged z s

abbrev pub AllMatch : List PlainKeyed → List PlainTree → Type 0
AllMatch = Along Matches

match_push : (zs : List PlainKeyed) (ss : List PlainTree) (z : PlainKeyed) (s : PlainTree) → AllMatch zs ss → (IsLoose s → IsArranged z s) → AllMatch (zs ++ z ∷ []) (ss ++ s ∷ [])
match_push [] [] z s all one = (one, tt)
match_push [] (t ∷ ss) z s all one = absurd all
match_push (x ∷ zs) [] z s all one = absurd all
match_push (x ∷ zs) (t ∷ ss) z s all one = (all.0, match_push zs ss z s all.1 one)

match_take : (m : ℕ) (zs : List PlainKeyed) (ss : List PlainTree) → AllMatch zs ss → AllMatch (take m zs) (take m ss)
match_take zero zs ss all = tt
match_take (suc m) [] [] all = tt
match_take (suc m) [] (s ∷ ss) all = absurd all
match_take (suc m) (z ∷ zs) [] all = absurd all
match_take (suc m) (z ∷ zs) (s ∷ ss) all = (all.0, match_take m zs ss all.1)

match_drop : (m : ℕ) (zs : List PlainKeyed) (ss : List PlainTree) → AllMatch zs ss → AllMatch (drop m zs) (drop m ss)
match_drop zero zs ss all = all
match_drop (suc m) [] [] all = tt
match_drop (suc m) [] (s ∷ ss) all = absurd all
match_drop (suc m) (z ∷ zs) [] all = absurd all
match_drop (suc m) (z ∷ zs) (s ∷ ss) all = match_drop m zs ss all.1

match_all : (zs : List PlainKeyed) (ss : List PlainTree) → AllMatch zs ss → EachNodeBelow IsLooseNode (row ss) → AllArranged zs ss
match_all [] [] all loose = tt
match_all [] (s ∷ ss) all loose = absurd all
match_all (z ∷ zs) [] all loose = absurd all
match_all (z ∷ zs) (s ∷ ss) all loose = (all.0 loose.0, match_all zs ss all.1 loose.1)

-- a node more
node_more : (k : Kind) (n : ℕ) (zs ws : List PlainKeyed) (ss : List PlainTree) → AllMatch zs ss → IsPutOver k n zs ws → AllMatch ws (with_part (inner_part k n []) ss)
node_more k n zs ws ss all put =
    let long = along_long Matches zs ss all in
    let same : length zs - n ≡ length ss - n = ap (λ i. i - n) long in
    subst (λ xs. AllMatch xs (with_part (inner_part k n []) ss)) (sym put.whole)
    (subst
    (λ i. AllMatch (take (length zs - n) zs ++ record { least = first_key put.sorted; tree = node k (row (map tree_of put.sorted)) [] } ∷ []) (take i ss ++ node k (row (drop i ss)) [] ∷ []))
    same
    (match_push (take (length zs - n) zs) (take (length zs - n) ss) _ _ (match_take (length zs - n) zs ss all)
    (λ loose. node_arranged k (drop (length zs - n) ss) loose.0 (drop (length zs - n) zs) put.sorted
    (match_all (drop (length zs - n) zs) (drop (length zs - n) ss) (match_drop (length zs - n) zs ss all) loose.1) put.moved put.rising)))

part_more : (o : Option PlaceKind) (n : ℕ) (zs ws : List PlainKeyed) (ss : List PlainTree) → AllMatch zs ss → IsPartPut (part_of_kind o n) zs ws → AllMatch ws (with_part (part_of_kind o n) ss)
part_more None n zs ws ss all put = subst (λ xs. AllMatch xs (ss ++ leaf 0 ∷ [])) (sym put) (match_push zs ss _ _ all (λ loose. leaf_arranged 0))
part_more (Some (Leaf v)) n zs ws ss all put = subst (λ xs. AllMatch xs (ss ++ leaf v ∷ [])) (sym put) (match_push zs ss _ _ all (λ loose. leaf_arranged v))
part_more (Some Parallel) n zs ws ss all put = node_more ParallelKind n zs ws ss all put
part_more (Some Series) n zs ws ss all put = node_more SeriesKind n zs ws ss all put

-- ---- parts of a loose tree

-- P holds of each part
abbrev EachPart : (PlainPart → Type 0) → List PlainPart → Type 0
EachPart P [] = ⊤
EachPart P (p ∷ ps) = P p × EachPart P ps

each_both : (P : PlainPart → Type 0) (ps qs : List PlainPart) → EachPart P ps → EachPart P qs → EachPart P (ps ++ qs)
each_both P [] qs a b = b
each_both P (p ∷ ps) qs a b = (a.0, each_both P ps qs a.1 b)

abbrev IsBig : PlainPart → Type 0
IsBig (name v) = ⊤
IsBig (inner_part k n ps) = 0 < n

abbrev AreBig : List PlainPart → Type 0
AreBig = EachPart IsBig

big_first : (ps qs : List PlainPart) → AreBig (ps ++ qs) → AreBig ps
big_first [] qs a = tt
big_first (p ∷ ps) qs a = (a.0, big_first ps qs a.1)

big_last : (ps : List PlainPart) (p : PlainPart) → AreBig (ps ++ p ∷ []) → IsBig p
big_last [] p a = a.0
big_last (q ∷ ps) p a = big_last ps p a.1

mutual
  big_parts : (t : PlainTree) → IsLoose t → AreBig (parts_of t)
  big_parts (leaf v) loose = (tt, tt)
  big_parts (node k cs ps) loose = (let two = plain_two loose.0.plain in omega arith, big_below cs loose.1)

  big_below : (ts : PlainTrees) → EachNodeBelow IsLooseNode ts → AreBig (parts_backward ts)
  big_below no_tree loose = tt
  big_below (one_more t ts) loose = each_both IsBig (parts_backward ts) (parts_of t) (big_below ts loose.1) (big_parts t loose.0)

-- ---- the loop

pub record IsStacked (t : PlainTree) (parts : List PlainPart) (zs : List PlainKeyed) : Type 0 where
  pub trees : List PlainTree
  pub folding : IsFolding (parts_of t) parts trees
  pub match : AllMatch zs trees

pub stack_begin : (t : PlainTree) (parts : List PlainPart) (zs : List PlainKeyed) → parts ≡ parts_of t → zs ≡ [] → IsStacked t parts zs
stack_begin t parts zs all none = record {
  trees = [];
  folding = subst (λ ps. IsFolding (parts_of t) ps []) (sym all) (fold_begin (parts_of t) t refl);
  match = subst (λ xs. AllMatch xs []) (sym none) tt;
}

module _ (t : PlainTree) (parts left : List PlainPart) (zs : List PlainKeyed) (so : IsStacked t parts zs) (o : Option PlaceKind) (n : ℕ) (last : parts ≡ left ++ part_of_kind o n ∷ []) where
  finds : HasChildrenOf (part_of_kind o n) so.trees
  finds = fold_finds (parts_of t) parts left (part_of_kind o n) so.trees so.folding last

  pub stack_below : IsLoose t → HasBelow (part_of_kind o n) zs
  stack_below loose =
      go (part_of_kind o n) finds
      (big_last left (part_of_kind o n) (subst AreBig last (big_first parts (parts_backward (row so.trees)) (subst AreBig (sym (all_parts t parts so.trees so.folding)) (big_parts t loose)))))
    where
      go : (p : PlainPart) → HasChildrenOf p so.trees → IsBig p → HasBelow p zs
      go (name v) has big = tt
      go (inner_part k m ps) has big = (big, let long = along_long Matches zs so.trees so.match in omega arith)

  pub stack_more : (ws : List PlainKeyed) → IsPartPut (part_of_kind o n) zs ws → IsStacked t left ws
  stack_more ws put = record {
    trees = with_part (part_of_kind o n) so.trees;
    folding = fold_more (parts_of t) parts left (part_of_kind o n) so.trees (with_part (part_of_kind o n) so.trees) so.folding last refl;
    match = part_more o n zs ws so.trees so.match put;
  }

-- the one tree that is left
pub stack_end : (t : PlainTree) (parts : List PlainPart) (zs front : List PlainKeyed) (z : PlainKeyed) → parts ≡ [] → zs ≡ front ++ z ∷ [] → IsStacked t parts zs → IsLoose t → IsOrdered z.tree t
stack_end t parts zs front z none top so loose =
    go zs (subst (AllMatch zs) (one_tree t so.trees (subst (λ ps. IsFolding (parts_of t) ps so.trees) none so.folding)) so.match) top
  where
    go : (xs : List PlainKeyed) → AllMatch xs (t ∷ []) → xs ≡ front ++ z ∷ [] → IsOrdered z.tree t
    go [] all e = absurd all
    go (x ∷ y ∷ xs) all e = absurd all.1
    go (x ∷ []) all e =
        subst (λ k. IsOrdered k.tree t) (same_from_push [] front x z e).1 (all.0 loose).ordered

pub stack_some : (t : PlainTree) (parts : List PlainPart) (zs : List PlainKeyed) → parts ≡ [] → zs ≡ [] → IsStacked t parts zs → ⊥
stack_some t parts zs none empty so =
    subst (λ xs. AllMatch xs (t ∷ [])) empty (subst (AllMatch zs) (one_tree t so.trees (subst (λ ps. IsFolding (parts_of t) ps so.trees) none so.folding)) so.match)

pub stack_one : (t : PlainTree) (parts : List PlainPart) (zs : List PlainKeyed) → parts ≡ [] → IsStacked t parts zs → length zs ≡ 1
stack_one t parts zs none so = along_long Matches zs (t ∷ []) (subst (AllMatch zs) (one_tree t so.trees (subst (λ ps. IsFolding (parts_of t) ps so.trees) none so.folding)) so.match)
