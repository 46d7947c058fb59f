-- One turn of the program that puts trees in order.
use Rattle.std.proofs.Common.{◌≡◌, ℕ, ◌+◌, ◌-◌, ◌<◌, ◌≤◌, List, [], ◌∷◌, ◌++◌, length, get_or, take, drop, map, reverse, Vec, Global, Some, refl, sym, ◌∙◌, ap, subst, arith, length-append, length-drop, append_assoc}
use Rattle.std.proofs.lemmas.List.{map-append, take-map, drop-map, length-map, get_or-map, take_all, drop_all, take-append-le, length-take, append-nil, append_cancel_left, reverse-append, reverse-reverse, length-reverse, get_or-append_right, get_or-reverse}
use Rattle.std.proofs.lemmas.List.Sorted.{IsPermutation-map, length_permutation}
use Rattle.std.specs.List.Sorted.{IsPermutation, IsNonDecreasingBy}
use Rattle.md_lists.specs.declared.kinds.PlaceKind.TheVariants.{Leaf as LeafKind}
use Rattle.md_lists.specs.Links.{Links, kind_at, children_at}
use Rattle.md_tree.specs.declared.Kind.{Kind}
use Rattle.md_tree.specs.declared.Pair.{Pair}
use Rattle.md_tree.specs.declared.PairsOf.{PairsOf}
use Rattle.md_tree.specs.declared.ChildrenOf.{roll-ChildrenOf}
use Rattle.md_tree.specs.declared.TreeOf.{TreeOf, Leaf, Node}
use Rattle.md_tree.specs.Trees.{node, row}
use Rattle.md_tree.specs.Plain.{plain}
use Rattle.md_tree.proofs.Plain.{plain_is_leaf, plain-node}
use Rattle.md_cotree.specs.declared.ordering.Keyed.{Keyed}
use Rattle.md_cotree.specs.Orders.{part_of_kind, part_at, PlainKeyed, plain_keyed, least_of, tree_of, key_of, first_key, IsPutOver, IsPartPut, AreFalling, AreTaken}

-- ---- trees without their keys

pub trees_more : (now more : List (TreeOf Kind Pair)) (seen : List Keyed) (k : Keyed) → map plain now ≡ map tree_of (map plain_keyed seen) → more ≡ now ++ k.tree ∷ [] →
    map plain more ≡ map tree_of (map plain_keyed (seen ++ k ∷ []))
trees_more now more seen k so push =
    ap (map plain) push ∙ map-append plain now (k.tree ∷ []) ∙ ap (λ l. l ++ plain k.tree ∷ []) so
    ∙ sym (ap (map tree_of) (map-append plain_keyed seen (k ∷ [])) ∙ map-append tree_of (map plain_keyed seen) (plain_keyed k ∷ []))

-- ---- trees on the stack, the last ones from the greatest least name down

pub falling : {A : Type 0} (key : A → ℕ) (below long : ℕ) (stack front back sorted new : List A) → below ≤ length stack → long ≡ length stack → front ≡ take below stack → back ≡ drop below stack →
    IsPermutation back sorted → IsNonDecreasingBy key sorted → new ≡ take long (front ++ reverse sorted ++ drop (length (front ++ reverse sorted)) stack) → AreFalling key below stack new
falling key below long stack front back sorted new low is_long is_front is_back moved rising is = record {
  sorted = sorted;
  moved = subst (λ xs. IsPermutation xs sorted) is_back moved;
  rising = rising;
  whole =
      is ∙ ap (λ l. take long (front ++ reverse sorted ++ l)) (drop_all (length (front ++ reverse sorted)) stack (omega (arith, same_long)))
      ∙ ap (take long) (append-nil (front ++ reverse sorted)) ∙ take_all long (front ++ reverse sorted) (omega (arith, same_long)) ∙ ap (λ l. l ++ reverse sorted) is_front;
}
  where
    same_long : length (front ++ reverse sorted) ≡ length stack
    same_long =
        let a = length-append front (reverse sorted) in
        let b = ap length is_front in
        let c = length-take below stack in
        let d = length_permutation back sorted moved in
        let e = ap length is_back in
        let f = length-drop below stack in
        let g = length-reverse sorted in
        omega arith

pub falling_long : {A : Type 0} (key : A → ℕ) (below : ℕ) (stack fallen : List A) → below ≤ length stack → AreFalling key below stack fallen → length fallen ≡ length stack
falling_long key below stack fallen low is =
    let a = ap length is.whole in
    let b = length-append (take below stack) (reverse is.sorted) in
    let c = length-take below stack in
    let d = length-reverse is.sorted in
    let e = length_permutation (drop below stack) is.sorted is.moved in
    let f = length-drop below stack in
    omega arith

-- the last item has the least key
pub falling_top : {A : Type 0} (key : A → ℕ) (below : ℕ) (stack fallen : List A) → below ≤ length stack → (is : AreFalling key below stack fallen) → 0 < length is.sorted →
    (first : A) → first ≡ get_or fallen (length fallen - 1) first → first ≡ get_or is.sorted 0 first
falling_top key below stack fallen low is some first last =
    last ∙ ap (λ l. get_or l (length l - 1) first) is.whole
    ∙ get_or-append_right (take below stack) (reverse is.sorted) below (length (take below stack ++ reverse is.sorted) - 1) first kept (omega (arith, all, some))
    ∙ get_or-reverse is.sorted (length (take below stack ++ reverse is.sorted) - 1 - below) first (omega (arith, all, some))
    ∙ ap (λ n. get_or is.sorted n first) (omega (arith, all, some))
  where
    kept : length (take below stack) ≡ below
    kept = let e = length-take below stack in omega arith

    all : length (take below stack ++ reverse is.sorted) ≡ below + length is.sorted
    all = let e = length-append (take below stack) (reverse is.sorted) in let f = length-reverse is.sorted in let g = kept in omega arith

-- of items that came into order there is one at least
pub falling_some : {A : Type 0} (key : A → ℕ) (count below : ℕ) (stack fallen : List A) → below ≡ length stack - count → 0 < count → count ≤ length stack → AreFalling key below stack fallen →
    0 < length fallen
falling_some key count below stack fallen at some few is = let long = falling_long key below stack fallen (omega arith) is in omega arith

-- ---- trees that leave the stack

pub taken_none : (zs : List Keyed) (ts : List (TreeOf Kind Pair)) → ts ≡ [] → AreTaken zs zs ts
taken_none zs ts none = record { rest = []; whole = sym (append-nil zs); told = ap (map plain) none }

pub taken_more : (zs ws vs : List Keyed) (ts us : List (TreeOf Kind Pair)) (k : Keyed) → AreTaken zs ws ts → ws ≡ vs ++ k ∷ [] → us ≡ ts ++ k.tree ∷ [] → AreTaken zs vs us
taken_more zs ws vs ts us k taken pop push = record {
  rest = k ∷ taken.rest;
  whole = taken.whole ∙ ap (λ l. l ++ taken.rest) pop ∙ append_assoc vs (k ∷ []) taken.rest;
  told = trees_more ts us (reverse taken.rest) k taken.told push ∙ ap (λ l. map tree_of (map plain_keyed l)) (sym (reverse-append (k ∷ []) taken.rest));
}

same_halves : {X : Type 0} (n : ℕ) (xs us ys vs : List X) → length xs ≡ n → length us ≡ n → xs ++ ys ≡ us ++ vs → (xs ≡ us) × (ys ≡ vs)
same_halves {X = X} n xs us ys vs a b e = (first, append_cancel_left us ys vs (ap (λ l. l ++ ys) (sym first) ∙ e))
  where
    front : (ws zs : List X) → length ws ≡ n → take n (ws ++ zs) ≡ ws
    front ws zs long = take-append-le n ws zs (omega arith) ∙ take_all n ws (omega arith)

    first : xs ≡ us
    first = sym (front xs ys a) ∙ ap (take n) e ∙ front us vs b

-- ---- a leaf

pub leaf_is_put : (l : Links) (place v : ℕ) (old new : List Keyed) → kind_at l place ≡ Some (LeafKind v) → new ≡ old ++ record { least = v; tree = Leaf v } ∷ [] →
    IsPartPut (part_at l place) (map plain_keyed old) (map plain_keyed new)
leaf_is_put l place v old new kind push =
    subst (λ o. IsPartPut (part_of_kind o (length (children_at l place))) (map plain_keyed old) (map plain_keyed new)) (sym kind)
    (ap (map plain_keyed) push ∙ map-append plain_keyed old (record { least = v; tree = Leaf v } ∷ [])
    ∙ ap (λ t. map plain_keyed old ++ record { least = v; tree = t } ∷ []) (plain_is_leaf (Leaf v) v refl))

-- ---- a node

pub rising_keyed : {A : Type 0} (f : A → PlainKeyed) (ks : List A) → IsNonDecreasingBy (λ k. key_of (f k)) ks → IsNonDecreasingBy key_of (map f ks)
rising_keyed f [] rising i j d le low = absurd (omega arith)
rising_keyed f (k ∷ ks) rising i j d le low =
    let long : length (map f (k ∷ ks)) ≡ length (k ∷ ks) = length-map (k ∷ ks) f in
    let a : (get_or (map f (k ∷ ks)) i d).least ≡ (f (get_or (k ∷ ks) i k)).least = ap key_of (get_or-map f (k ∷ ks) i k d (omega arith)) in
    let b : (get_or (map f (k ∷ ks)) j d).least ≡ (f (get_or (k ∷ ks) j k)).least = ap key_of (get_or-map f (k ∷ ks) j k d (omega arith)) in
    let up : (f (get_or (k ∷ ks) i k)).least ≤ (f (get_or (k ∷ ks) j k)).least = rising i j k le (omega arith) in
    omega arith

first_plain : (ks : List Keyed) (k : Keyed) → 0 < length ks → k ≡ get_or ks 0 k → k.least ≡ first_key (map plain_keyed ks)
first_plain [] k some is = absurd (omega arith)
first_plain (x ∷ ks) k some is = ap (λ (z : Keyed). z.least) is

-- one child at least
pub over_some : {A : Type 0} (count below : ℕ) (stack children sorted : List A) → below ≡ length stack - count → 0 < count → count ≤ length stack → children ≡ drop below stack → IsPermutation children sorted →
    0 < length sorted
over_some count below stack children sorted at some few is_children moved =
    let long = length_permutation children sorted moved in
    let all = ap length is_children in
    let rest = length-drop below stack in
    omega arith

module _ (kind : Kind) (count below : ℕ) (stack kept children sorted new : List Keyed) (first : Keyed) (list : Vec (TreeOf Kind Pair) Global) (edges : PairsOf Pair) where
  pub over_is_put : below ≡ length stack - count → kept ≡ take below stack → children ≡ drop below stack → IsPermutation children sorted → IsNonDecreasingBy (λ (k : Keyed). k.least) sorted →
      0 < length sorted → first ≡ get_or sorted 0 first → map plain list.items ≡ map tree_of (map plain_keyed sorted) → edges.list.items ≡ [] →
      new ≡ kept ++ record { least = first.least; tree = Node kind (roll-ChildrenOf _ _ (record { list = list })) edges } ∷ [] → IsPutOver kind count (map plain_keyed stack) (map plain_keyed new)
  over_is_put at is_kept is_children moved rising some is_first is_list none push =
      let where_at : below ≡ length (map plain_keyed stack) - count = at ∙ sym (ap (λ n. n - count) (length-map stack plain_keyed)) in
      record {
        sorted = map plain_keyed sorted;
        moved =
            subst (λ xs. IsPermutation xs (map plain_keyed sorted)) (ap (map plain_keyed) is_children ∙ sym (drop-map plain_keyed below stack) ∙ ap (λ i. drop i (map plain_keyed stack)) where_at)
            (IsPermutation-map plain_keyed children sorted moved);
        rising = rising_keyed plain_keyed sorted rising;
        whole =
            ap (map plain_keyed) push ∙ map-append plain_keyed kept (record { least = first.least; tree = Node kind (roll-ChildrenOf _ _ (record { list = list })) edges } ∷ [])
            ∙ (λ i. (ap (map plain_keyed) is_kept ∙ sym (take-map plain_keyed below stack) ∙ ap (λ n. take n (map plain_keyed stack)) where_at) i
            ++ record {
              least = first_plain sorted first some is_first i;
              tree = (plain-node kind (roll-ChildrenOf _ _ (record { list = list })) edges ∙ (λ j. node kind (row (is_list j)) (none j))) i;
            } ∷ []);
      }

-- the trees were put in order, and have left the stack
module _ (count below : ℕ) (stack fallen left : List Keyed) (list : Vec (TreeOf Kind Pair) Global) (at : below ≡ length stack - count) (some : 0 < count) (few : count ≤ length stack)
    (is : AreFalling least_of below stack fallen) (taken : AreTaken fallen left list.items) (long : length left ≡ below) where
  kept_long : length (take below stack) ≡ below
  kept_long = let e = length-take below stack in omega arith

  parts : (left ≡ take below stack) × (taken.rest ≡ reverse is.sorted)
  parts = same_halves below left (take below stack) taken.rest (reverse is.sorted) long kept_long (sym taken.whole ∙ is.whole)

  sorted_some : 0 < length is.sorted
  sorted_some = over_some count below stack (drop below stack) is.sorted at some few refl is.moved

  pub taken_is_put : (kind : Kind) (new : List Keyed) (first : Keyed) (edges : PairsOf Pair) → first ≡ get_or fallen (length fallen - 1) first → edges.list.items ≡ [] →
      new ≡ left ++ record { least = first.least; tree = Node kind (roll-ChildrenOf _ _ (record { list = list })) edges } ∷ [] → IsPutOver kind count (map plain_keyed stack) (map plain_keyed new)
  taken_is_put kind new first edges last none push =
      over_is_put kind count below stack left (drop below stack) is.sorted new first list edges at parts.0 refl is.moved is.rising sorted_some (falling_top least_of below stack fallen (omega arith) is sorted_some first last)
      (taken.told ∙ ap (λ l. map tree_of (map plain_keyed l)) (ap reverse parts.1 ∙ reverse-reverse is.sorted)) none push
