-- One part put on the program's stack of trees.
use Rattle.std.proofs.Common.{◌≡◌, ℕ, ◌-◌, List, [], ◌∷◌, ◌++◌, length, take, drop, map, Vec, Global, Option, Some, None, MatchOption, Result, Ok, Err, IfOk, refl, sym, ◌∙◌, ap, subst, arith}
use Rattle.std.specs.Option.{option_to_list}
use Rattle.std.proofs.lemmas.List.{map-append, take-map, drop-map, take_rest, length-map, same_from_push}
use Rattle.md_tree.specs.declared.PairsOf.{PairsOf}
use Rattle.md_tree.specs.declared.ChildrenOf.{roll-ChildrenOf}
use Rattle.md_tree.specs.declared.TreeOf.{TreeOf, Leaf, Node}
use Rattle.md_tree.specs.Trees.{PlainTreeOf, node, row}
use Rattle.md_tree.specs.Plain.{plain}
use Rattle.md_tree.proofs.Plain.{plain_is_leaf, plain-node}
use Rattle.md_tree.specs.declared.parts.PartOf.{PartOf}
use Rattle.md_tree.specs.declared.parts.PartOf.TheVariants.{Leaf as LeafPart, Node as NodePart}
use Rattle.md_tree.specs.Parts.{plain_part}
use Rattle.md_tree.specs.Stacks.{with_part}

pub map_one_more : {X Y : Type 0} (f : X → Y) (xs ys : List X) (x : X) → xs ≡ ys ++ x ∷ [] → map f xs ≡ map f ys ++ f x ∷ []
map_one_more f xs ys x e = ap (map f) e ∙ map-append f ys (x ∷ [])

pub leaf_put : {K P : Type 0} (v : ℕ) (xs ys : List (TreeOf K P)) (part : PartOf K P) → part ≡ LeafPart v → ys ≡ xs ++ Leaf v ∷ [] → map plain ys ≡ with_part (plain_part part) (map plain xs)
leaf_put v xs ys part is e =
    map_one_more plain ys xs (Leaf v) e ∙ ap (λ t. map plain xs ++ t ∷ []) (plain_is_leaf (Leaf v) v refl)
    ∙ sym (ap (λ p. with_part (plain_part p) (map plain xs)) is)

-- a node over the trees from a place on, in their place
pub node_closed : {K P : Type 0} (k : K) (below : ℕ) (es : PairsOf P) (list : Vec (TreeOf K P) Global) (xs front ys : List (TreeOf K P)) → front ≡ take below xs → list.items ≡ drop below xs →
    ys ≡ front ++ Node k (roll-ChildrenOf _ _ (record { list = list })) es ∷ [] → map plain ys ≡ take below (map plain xs) ++ node k (row (drop below (map plain xs))) es.list.items ∷ []
node_closed k below es list xs front ys kept taken e =
    map_one_more plain ys front (Node k (roll-ChildrenOf _ _ (record { list = list })) es) e
    ∙ ap (λ t. map plain front ++ t ∷ []) (plain-node k (roll-ChildrenOf _ _ (record { list = list })) es)
    ∙ ap (λ zs. zs ++ node k (row (map plain list.items)) es.list.items ∷ []) (ap (map plain) kept ∙ sym (take-map plain below xs))
    ∙ ap (λ zs. take below (map plain xs) ++ node k (row zs) es.list.items ∷ []) (ap (map plain) taken ∙ sym (drop-map plain below xs))

pub node_put : {K P : Type 0} (k : K) (n below : ℕ) (es : PairsOf P) (list : Vec (TreeOf K P) Global) (xs front ys : List (TreeOf K P)) (part : PartOf K P) → part ≡ NodePart k n es →
    below ≡ length xs - n → front ≡ take below xs → list.items ≡ drop below xs → ys ≡ front ++ Node k (roll-ChildrenOf _ _ (record { list = list })) es ∷ [] →
    map plain ys ≡ with_part (plain_part part) (map plain xs)
node_put k n below es list xs front ys part is at kept taken e =
    node_closed k below es list xs front ys kept taken e
    ∙ ap (λ i. take i (map plain xs) ++ node k (row (drop i (map plain xs))) es.list.items ∷ []) (at ∙ sym (ap (λ l. l - n) (length-map xs plain)))
    ∙ sym (ap (λ p. with_part (plain_part p) (map plain xs)) is)

pub if_ok : {A E : Type 0} {P Q : A → Type 0} (r : Result A E) → ((x : A) → P x → Q x) → IfOk r P → IfOk r Q
if_ok (Ok x) f h = f x h
if_ok (Err e) f h = h

-- the items from a place on
pub items_from : {X : Type 0} (ds xs : List X) (first : ℕ) → ds ≡ xs → take (length ds - first) (drop first ds) ≡ drop first xs
items_from ds xs first e = take_rest ds first ∙ ap (drop first) e

-- the plain trees of those from a place on
pub plain_from : {K P : Type 0} (ds xs : List (TreeOf K P)) (first : ℕ) → ds ≡ xs → map plain (take (length ds - first) (drop first ds)) ≡ drop first (map plain xs)
plain_from ds xs first e = ap (map plain) (items_from ds xs first e) ∙ sym (drop-map plain first xs)

-- the only tree is popped
pub popped_only : {K P : Type 0} (xs rest : List (TreeOf K P)) (o : Option (TreeOf K P)) (t : PlainTreeOf K P) (N : PlainTreeOf K P → Type 0) (M : Type 0) → map plain xs ≡ t ∷ [] → xs ≡ rest ++ option_to_list o →
    (o ≡ None → length xs ≡ 0) → N t → MatchOption o M (λ u. N (plain u))
popped_only xs rest None t N M e s n p =
    let zero : length xs ≡ 0 = n refl in let one : length xs ≡ 1 = sym (length-map xs plain) ∙ ap length e in
    absurd (omega arith)
popped_only xs rest (Some u) t N M e s n p =
    subst N (sym (same_from_push (map plain rest) [] (plain u) t (sym (map_one_more plain xs rest u s) ∙ e)).1) p
