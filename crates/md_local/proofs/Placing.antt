-- The list of what stands below a node for the trees that its children have grown to.
use Rattle.std.proofs.Common.{◌≡◌, ℕ, ◌<◌, ◌≤◌, Bool, true, false, ◌||◌, List, [], ◌∷◌, ◌++◌, length, get_or, map, refl, sym, ◌∙◌, ap, subst, append_assoc, append-nil, arith}
use Rattle.std.proofs.lemmas.List.{map-append, length-map, length-append, get_or-map}
use Rattle.std.proofs.lemmas.List.Sorted.{IsPermutation-refl, IsPermutation-map}
use Rattle.std.specs.List.{list_any}
use Rattle.std.specs.List.Sorted.{IsPermutation, IsNonDecreasingBy}
use Rattle.md_graph.proofs.SetLemmas.{clash}
use Rattle.md_tree.specs.declared.Kind.{Kind}
use Rattle.md_tree.specs.declared.Pair.{Pair}
use Rattle.md_tree.specs.declared.PairsOf.{PairsOf}
use Rattle.md_tree.specs.declared.ChildrenOf.{ChildrenOf}
use Rattle.md_tree.specs.declared.TreeOf.{TreeOf, Leaf, Node}
use Rattle.md_tree.specs.Trees.{PlainTree, node, one_more, row, node_sets, node_sets_below}
use Rattle.md_tree.specs.Heads.{head}
use Rattle.md_tree.specs.Parts.{listed, below_node}
use Rattle.md_tree.specs.Plain.{plain, trees_of}
use Rattle.md_tree.proofs.Plain.{plain_is_leaf, plain_is_node}
use Rattle.md_local.specs.Growing.{are_one_split, is_merged, in_place_of, all_in_place, AreOrdered}
use Rattle.md_local.proofs.Ordering.{place_kept, none_merged}

-- ---- a node and its children

listed_row : (ts : List PlainTree) → listed (row ts) ≡ ts
listed_row [] = refl
listed_row (t ∷ ts) = ap (λ l. t ∷ l) (listed_row ts)

pub leaf_below : (t : TreeOf Kind Pair) (v : ℕ) → t ≡ Leaf v → below_node (plain t) ≡ []
leaf_below t v is = ap below_node (plain_is_leaf t v is)

pub node_below : (t : TreeOf Kind Pair) (k : Kind) (cs : ChildrenOf Kind Pair) (ps : PairsOf Pair) → t ≡ Node k cs ps → below_node (plain t) ≡ map plain (trees_of cs)
node_below t k cs ps is = ap below_node (plain_is_node t k cs ps is) ∙ listed_row (map plain (trees_of cs))

pub leaf_unmerged : (kind : Kind) (t : TreeOf Kind Pair) (v : ℕ) → t ≡ Leaf v → false ≡ is_merged kind (plain t)
leaf_unmerged kind t v is = sym (ap (is_merged kind) (plain_is_leaf t v is))

pub node_merged : (kind : Kind) (t : TreeOf Kind Pair) (k : Kind) (cs : ChildrenOf Kind Pair) (ps : PairsOf Pair) (b : Bool) → t ≡ Node k cs ps → b ≡ are_one_split kind k → b ≡ is_merged kind (plain t)
node_merged kind t k cs ps b is told = told ∙ sym (ap (is_merged kind) (plain_is_node t k cs ps is))

pub leaf_appended : (t : TreeOf Kind Pair) (v : ℕ) (xs : List (TreeOf Kind Pair)) → t ≡ Leaf v → map plain xs ≡ map plain xs ++ below_node (plain t)
leaf_appended t v xs is = sym (ap (λ l. map plain xs ++ l) (leaf_below t v is) ∙ append-nil (map plain xs))

pub node_appended : (t : TreeOf Kind Pair) (k : Kind) (cs : ChildrenOf Kind Pair) (ps : PairsOf Pair) (xs ys : List (TreeOf Kind Pair)) → t ≡ Node k cs ps → ys ≡ xs ++ trees_of cs →
    map plain ys ≡ map plain xs ++ below_node (plain t)
node_appended t k cs ps xs ys is added = ap (map plain) added ∙ map-append plain xs (trees_of cs) ∙ ap (λ l. map plain xs ++ l) (sym (node_below t k cs ps is))

-- ---- one tree is put

pub put_kept : (kind : Kind) (t : TreeOf Kind Pair) (b : Bool) (xs ys : List (TreeOf Kind Pair)) → b ≡ is_merged kind (plain t) → b ≡ false → ys ≡ xs ++ t ∷ [] → map plain ys ≡ map plain xs ++ in_place_of kind (plain t)
put_kept kind t b xs ys told fails added = ap (map plain) added ∙ map-append plain xs (t ∷ []) ∙ ap (λ l. map plain xs ++ l) (sym (place_kept kind (plain t) (sym told ∙ fails)))

-- ---- one after the other

pub places_more : (kind : Kind) (xs : List (TreeOf Kind Pair)) (x : TreeOf Kind Pair) → all_in_place kind (map plain (xs ++ x ∷ [])) ≡ all_in_place kind (map plain xs) ++ in_place_of kind (plain x)
places_more kind [] x = append-nil (in_place_of kind (plain x))
places_more kind (y ∷ xs) x =
    ap (λ l. in_place_of kind (plain y) ++ l) (places_more kind xs x)
    ∙ sym (append_assoc (in_place_of kind (plain y)) (all_in_place kind (map plain xs)) (in_place_of kind (plain x)))

pub or_false : (b : Bool) → (b || false) ≡ b
or_false true = refl
or_false false = refl

pub any_merged : (kind : Kind) (xs : List (TreeOf Kind Pair)) → list_any (λ (x : TreeOf Kind Pair). is_merged kind (plain x)) xs ≡ list_any (is_merged kind) (map plain xs)
any_merged kind [] = refl
any_merged kind (x ∷ xs) = ap (λ b. is_merged kind (plain x) || b) (any_merged kind xs)

-- ---- in order

rising_plain : (ts : List (TreeOf Kind Pair)) → IsNonDecreasingBy (λ (t : TreeOf Kind Pair). head (plain t)) ts → IsNonDecreasingBy head (map plain ts)
rising_plain [] rising i j d le low = absurd (omega arith)
rising_plain (t ∷ ts) rising i j d le low =
    let long : length (map plain (t ∷ ts)) ≡ length (t ∷ ts) = length-map (t ∷ ts) plain in
    let a : head (get_or (map plain (t ∷ ts)) i d) ≡ head (plain (get_or (t ∷ ts) i t)) = ap head (get_or-map plain (t ∷ ts) i t d (omega arith)) in
    let b : head (get_or (map plain (t ∷ ts)) j d) ≡ head (plain (get_or (t ∷ ts) j t)) = ap head (get_or-map plain (t ∷ ts) j t d (omega arith)) in
    let up : head (plain (get_or (t ∷ ts) i t)) ≤ head (plain (get_or (t ∷ ts) j t)) = rising i j t le (omega arith) in
    omega arith

pub sorted_ordered : (kind : Kind) (ts : List PlainTree) (xs ys : List (TreeOf Kind Pair)) → map plain xs ≡ all_in_place kind ts → list_any (is_merged kind) ts ≡ true → IsPermutation xs ys →
    IsNonDecreasingBy (λ (t : TreeOf Kind Pair). head (plain t)) ys → AreOrdered kind ts (map plain ys)
sorted_ordered kind ts xs ys same holds moved rising = record {
  moved = subst (λ l. IsPermutation l (map plain ys)) same (IsPermutation-map plain xs ys moved);
  kept = λ fails. clash holds fails;
  rising = λ _. rising_plain ys rising;
}

pub kept_ordered : (kind : Kind) (ts : List PlainTree) → list_any (is_merged kind) ts ≡ false → AreOrdered kind ts ts
kept_ordered kind ts fails = record {
  moved = subst (λ l. IsPermutation l ts) (sym (none_merged kind ts fails)) (IsPermutation-refl ts);
  kept = λ _. sym (none_merged kind ts fails);
  rising = λ holds. clash holds fails;
}

-- ---- the first leaf

-- a node has more nodes than its first child, and the same first leaf
first_child : (t c : TreeOf Kind Pair) (k : Kind) (cs : ChildrenOf Kind Pair) (ps : PairsOf Pair) (rest : List (TreeOf Kind Pair)) → t ≡ Node k cs ps → trees_of cs ≡ c ∷ rest →
    (head (plain c) ≡ head (plain t)) × (length (node_sets (plain c)) < length (node_sets (plain t)))
first_child t c k cs ps rest is items =
    let made : plain t ≡ node k (one_more (plain c) (row (map plain rest))) ps.list.items =
    plain_is_node t k cs ps is ∙ ap (λ ts. node k (row (map plain ts)) ps.list.items) items in (
      sym (ap head made),
      (let all = ap (λ p. length (node_sets p)) made in let both = length-append (node_sets (plain c)) (node_sets_below (row (map plain rest))) in omega arith),
    )

list_first : (xs : List (TreeOf Kind Pair)) (c : TreeOf Kind Pair) → 0 < length xs → c ≡ get_or xs 0 c → (rest : List (TreeOf Kind Pair)) × (xs ≡ c ∷ rest)
list_first [] c some is = absurd (omega arith)
list_first (x ∷ xs) c some is = (xs, ap (λ y. y ∷ xs) (sym is))

pub leaf_head : (t : TreeOf Kind Pair) (v : ℕ) → t ≡ Leaf v → v ≡ head (plain t)
leaf_head t v is = sym (ap head (plain_is_leaf t v is))

pub no_head : (t : TreeOf Kind Pair) (k : Kind) (cs : ChildrenOf Kind Pair) (ps : PairsOf Pair) → t ≡ Node k cs ps → trees_of cs ≡ [] → 0 ≡ head (plain t)
no_head t k cs ps is none = sym (ap head (plain_is_node t k cs ps is ∙ ap (λ ts. node k (row (map plain ts)) ps.list.items) none))

pub child_head : (t c : TreeOf Kind Pair) (k : Kind) (cs : ChildrenOf Kind Pair) (ps : PairsOf Pair) (xs : List (TreeOf Kind Pair)) → t ≡ Node k cs ps → xs ≡ trees_of cs → 0 < length xs → c ≡ get_or xs 0 c →
    head (plain c) ≡ head (plain t)
child_head t c k cs ps xs is items some own = let first = list_first xs c some own in (first_child t c k cs ps first.0 is (sym items ∙ first.1)).0

pub child_smaller : (t c : TreeOf Kind Pair) (k : Kind) (cs : ChildrenOf Kind Pair) (ps : PairsOf Pair) (xs : List (TreeOf Kind Pair)) → t ≡ Node k cs ps → xs ≡ trees_of cs → 0 < length xs → c ≡ get_or xs 0 c →
    length (node_sets (plain c)) < length (node_sets (plain t))
child_smaller t c k cs ps xs is items some own = let first = list_first xs c some own in (first_child t c k cs ps first.0 is (sym items ∙ first.1)).1
