-- A node whose children are put in order of their least names: the same names, adjacent as before.
use Rattle.std.proofs.Common.{◌≡◌, ◌≢◌, ◌⊎◌, ℕ, zero, suc, ◌<◌, ◌≤◌, cond, List, [], ◌∷◌, length, get_or, map, Contains, refl, sym, ◌∙◌, ap, subst, inl, inr, arith}
use Rattle.std.proofs.lemmas.Bool.{cases_Bool, eq-eqb, ne_eqb}
use Rattle.std.proofs.lemmas.List.Sums.{sum_by-cons}
use Rattle.std.proofs.lemmas.List.Sorted.{sum_by-IsPermutation, Contains-permutation, IsPermutation-sym, length_permutation, IsNonDecreasingBy-drop}
use Rattle.std.specs.FinSet.{contains}
use Rattle.std.specs.List.{sum_by}
use Rattle.std.specs.List.Sorted.{IsPermutation, IsNonDecreasingBy}
use Rattle.std.specs.Prelude.{⊤}
use Rattle.md_graph.specs.Sets.{Has, Lacks}
use Rattle.md_graph.proofs.SetLemmas.{clash, same_members, of_only, only_has, union_left, Has-along}
use Rattle.md_tree.specs.declared.Kind.{Kind}
use Rattle.md_tree.specs.declared.Kind.TheVariants.{Parallel, Series, Prime}
use Rattle.md_tree.specs.declared.Pair.{Pair}
use Rattle.md_tree.specs.Trees.{PlainTree, leaf, node, PlainTrees, names, names_below, count, row, EachNodeBelow}
use Rattle.md_tree.specs.StrongTrees.{IsInOrder}
use Rattle.md_tree.specs.TreeGraph.{position_of, joins, adjacent_in, adjacent_below}
use Rattle.md_tree.specs.WellFormed.{IsOfKind, NoneOfKind, AreDisjoint, IsPlainNode, HasShape, IsCanonicalNode, IsCanonicalTree, HasNoPrimeNode}
use Rattle.md_tree.proofs.Spelled.{plain_two}
use Rattle.md_tree.proofs.Apart.{one_if, apart_once, once_apart}
use Rattle.md_tree.proofs.Folding.{count_row}
use Rattle.md_tree.proofs.Nodes.{IsChild, child_inside, child_of_name}
use Rattle.md_cotree.specs.Orders.{IsLooseNode, IsOrdered, PlainKeyed, tree_of, key_of, first_key}
use Rattle.md_cotree.proofs.Cographs.{value, joins_value, same_position, below_is, other_position, child_other_kind}

-- the keyed tree is the other one in order, with its least name
pub record IsArranged (z : PlainKeyed) (s : PlainTree) : Type 0 where
  pub ordered : IsOrdered z.tree s
  pub kind : (k : Kind) → IsOfKind z.tree k → IsOfKind s k
  pub has_key : Has (names z.tree) z.least
  pub least : (v : ℕ) → Has (names z.tree) v → z.least ≤ v

-- ---- a leaf

pub leaf_arranged : (v : ℕ) → IsArranged (record { least = v; tree = leaf v }) (leaf v)
leaf_arranged v = record {
  ordered = record { canonical = tt; no_prime = tt; same_names = refl; same_adjacent = λ a b ha hb. refl };
  kind = λ k is. is;
  has_key = only_has v;
  least = λ w h. let e = of_only v w h in omega arith;
}

-- ---- lists and rows

in_tail : {X : Type 0} (x : X) (xs : List X) (y : X) → Contains xs y → Contains (x ∷ xs) y
in_tail x xs y h = let low = h.1 in (suc h.0, omega arith, h.2)

in_head : {X : Type 0} (x : X) (xs : List X) → Contains (x ∷ xs) x
in_head x xs = (0, omega arith, refl)

contains_cases : {X : Type 0} (x : X) (xs : List X) (y : X) → Contains (x ∷ xs) y → (x ≡ y) ⊎ Contains xs y
contains_cases x xs y h = go h.0 h.1 h.2
  where
    go : (k : ℕ) → k < length (x ∷ xs) → get_or (x ∷ xs) k y ≡ y → (x ≡ y) ⊎ Contains xs y
    go zero low e = inl e
    go (suc k) low e = inr (k, omega arith, e)

child_in : (ys : List PlainKeyed) (t : PlainTree) → IsChild (row (map tree_of ys)) t → (y : PlainKeyed) × Contains ys y × (t ≡ y.tree)
child_in [] t i = absurd i
child_in (y ∷ ys) t (inl e) = (y, in_head y ys, e)
child_in (y ∷ ys) t (inr i) = let r = child_in ys t i in (r.0, in_tail y ys r.0 r.1, r.2)

in_child : (ys : List PlainKeyed) (y : PlainKeyed) → Contains ys y → IsChild (row (map tree_of ys)) y.tree
in_child [] y h = absurd (let low = h.1 in omega arith)
in_child (x ∷ ys) y h = elim (contains_cases x ys y h) [ inl e ↦ inl (ap tree_of (sym e)) | inr k ↦ inr (in_child ys y k) ]

count_map : (ys : List PlainKeyed) → count (row (map tree_of ys)) ≡ length ys
count_map [] = refl
count_map (y ∷ ys) = let rest = count_map ys in omega arith

sum_map : (f : PlainTree → ℕ) (ys : List PlainKeyed) → sum_by f (map tree_of ys) ≡ sum_by (λ y. f y.tree) ys
sum_map f [] = refl
sum_map f (y ∷ ys) =
    let a = sum_by-cons f y.tree (map tree_of ys) in
    let b = sum_by-cons (λ (z : PlainKeyed). f z.tree) y ys in
    let rest = sum_map f ys in
    omega arith

-- ---- trees in order, one by one

-- the two lists are equally long, and the relation holds along them
abbrev pub Along : (PlainKeyed → PlainTree → Type 0) → List PlainKeyed → List PlainTree → Type 0
Along R [] [] = ⊤
Along R [] (s ∷ ss) = ⊥
Along R (z ∷ zs) [] = ⊥
Along R (z ∷ zs) (s ∷ ss) = R z s × Along R zs ss

pub along_long : (R : PlainKeyed → PlainTree → Type 0) (zs : List PlainKeyed) (ss : List PlainTree) → Along R zs ss → length zs ≡ length ss
along_long R [] [] all = refl
along_long R [] (s ∷ ss) all = absurd all
along_long R (z ∷ zs) [] all = absurd all
along_long R (z ∷ zs) (s ∷ ss) all = let rest = along_long R zs ss all.1 in omega arith

abbrev pub AllArranged : List PlainKeyed → List PlainTree → Type 0
AllArranged = Along IsArranged

arranged_sum : (zs : List PlainKeyed) (ss : List PlainTree) (v : ℕ) → AllArranged zs ss → sum_by (λ z. one_if v z.tree) zs ≡ sum_by (one_if v) ss
arranged_sum [] [] v all = refl
arranged_sum [] (s ∷ ss) v all = absurd all
arranged_sum (z ∷ zs) [] v all = absurd all
arranged_sum (z ∷ zs) (s ∷ ss) v all =
    let a = sum_by-cons (λ (x : PlainKeyed). one_if v x.tree) z zs in
    let b = sum_by-cons (one_if v) s ss in
    let one : one_if v z.tree ≡ one_if v s = ap (λ n. cond (contains n v) 1 0) all.0.ordered.same_names in
    let rest = arranged_sum zs ss v all.1 in
    omega arith

arranged_to : (zs : List PlainKeyed) (ss : List PlainTree) → AllArranged zs ss → (z : PlainKeyed) → Contains zs z → (s : PlainTree) × IsChild (row ss) s × IsArranged z s
arranged_to [] ss all z h = absurd (let low = h.1 in omega arith)
arranged_to (x ∷ zs) [] all z h = absurd all
arranged_to (x ∷ zs) (s ∷ ss) all z h =
    elim (contains_cases x zs z h) [
      | inl e ↦ (s, inl refl, subst (λ y. IsArranged y s) e all.0)
      | inr k ↦ let r = arranged_to zs ss all.1 z k in (r.0, inr r.1, r.2)
    ]

arranged_from : (zs : List PlainKeyed) (ss : List PlainTree) → AllArranged zs ss → (s : PlainTree) → IsChild (row ss) s → (z : PlainKeyed) × Contains zs z × IsArranged z s
arranged_from [] [] all s i = absurd i
arranged_from [] (t ∷ ss) all s i = absurd all
arranged_from (z ∷ zs) [] all s i = absurd all
arranged_from (z ∷ zs) (t ∷ ss) all s (inl e) = (z, in_head z zs, subst (IsArranged z) (sym e) all.0)
arranged_from (z ∷ zs) (t ∷ ss) all s (inr i) = let r = arranged_from zs ss all.1 s i in (r.0, in_tail z zs r.0 r.1, r.2)

-- ---- order

first_least : (y : PlainKeyed) (ys : List PlainKeyed) → IsNonDecreasingBy key_of (y ∷ ys) → (x : PlainKeyed) → Contains ys x → y.least ≤ x.least
first_least y ys rising x h =
    let low = h.1 in
    let up = rising 0 (suc h.0) x (omega arith) (omega arith) in
    let e = ap key_of h.2 in
    omega arith

in_order : (ys : List PlainKeyed) → IsNonDecreasingBy key_of ys → AreDisjoint (row (map tree_of ys)) → ((y : PlainKeyed) → Contains ys y → (s : PlainTree) × IsArranged y s) → IsInOrder (row (map tree_of ys))
in_order [] rising apart all = tt
in_order (y ∷ ys) rising apart all = (
  (
    y.least,
    (all y (in_head y ys)).1.has_key,
    λ v h.
        let c = child_of_name (row (map tree_of ys)) v h in
        let at = child_in ys c.0 c.1 in
        let low = first_least y ys rising at.0 at.1 in
        let more = (all at.0 (in_tail y ys at.0 at.1)).1.least v (Has-along (names c.0) (names at.0.tree) (ap names at.2) v c.2) in
        let differ : y.least ≢ v = λ e. clash h (subst (λ z. Lacks (names_below (row (map tree_of ys))) z) e (apart.0 y.least (all y (in_head y ys)).1.has_key)) in
        omega arith,
  ),
  in_order ys (IsNonDecreasingBy-drop key_of 1 (y ∷ ys) rising) apart.1 (λ x h. all x (in_tail y ys x h)),
)

-- ---- a node

plain_has_shape : (k : Kind) (cs : PlainTrees) (ps : List Pair) → k ≢ Prime → IsPlainNode k cs ps → HasShape k cs ps
plain_has_shape Parallel cs ps not is = is
plain_has_shape Series cs ps not is = is
plain_has_shape Prime cs ps not is = absurd (not refl)

none_kind : (ys : List PlainKeyed) (k : Kind) → ((y : PlainKeyed) → Contains ys y → IsOfKind y.tree k → ⊥) → NoneOfKind (row (map tree_of ys)) k
none_kind [] k none = tt
none_kind (y ∷ ys) k none = (none y (in_head y ys), none_kind ys k (λ x h. none x (in_tail y ys x h)))

each_canonical : (ys : List PlainKeyed) → ((y : PlainKeyed) → Contains ys y → IsCanonicalTree y.tree) → EachNodeBelow IsCanonicalNode (row (map tree_of ys))
each_canonical [] all = tt
each_canonical (y ∷ ys) all = (all y (in_head y ys), each_canonical ys (λ x h. all x (in_tail y ys x h)))

each_no_prime : (ys : List PlainKeyed) → ((y : PlainKeyed) → Contains ys y → HasNoPrimeNode y.tree) → EachNodeBelow (λ k cs ps. k ≢ Prime) (row (map tree_of ys))
each_no_prime [] all = tt
each_no_prime (y ∷ ys) all = (all y (in_head y ys), each_no_prime ys (λ x h. all x (in_tail y ys x h)))

-- two names of a node, in one child or in two
told_one : (k : Kind) (cs : PlainTrees) (c : PlainTree) → AreDisjoint cs → IsChild cs c → (u v : ℕ) → Has (names c) u → Has (names c) v → adjacent_in (node k cs []) u v ≡ adjacent_in c u v
told_one k cs c apart i u v hu hv =
    ap (λ w. cond w (adjacent_below cs u v) (joins k [] (position_of cs u) (position_of cs v))) (eq-eqb _ _ (same_position cs c apart i u v hu hv)) ∙ below_is cs c apart i u v hu hv

told_two : (k : Kind) (cs : PlainTrees) (c : PlainTree) → k ≢ Prime → AreDisjoint cs → IsChild cs c → (u v : ℕ) → Has (names c) u → Has (names_below cs) v → Lacks (names c) v → adjacent_in (node k cs []) u v ≡ value k
told_two k cs c not apart i u v hu hv lv =
    ap (λ w. cond w (adjacent_below cs u v) (joins k [] (position_of cs u) (position_of cs v))) (ne_eqb _ _ (other_position cs c apart i u v hu hv lv)) ∙ joins_value k [] _ _ not

module _ (k : Kind) (ss : List PlainTree) (loose : IsLooseNode k (row ss) []) (zs ys : List PlainKeyed) (all : AllArranged zs ss) (moved : IsPermutation zs ys) (rising : IsNonDecreasingBy key_of ys) where
  to : (y : PlainKeyed) → Contains ys y → (s : PlainTree) × IsChild (row ss) s × IsArranged y s
  to y h = arranged_to zs ss all y (Contains-permutation ys zs y (IsPermutation-sym zs ys moved) h)

  from : (s : PlainTree) → IsChild (row ss) s → (y : PlainKeyed) × Contains ys y × IsArranged y s
  from s i = let r = arranged_from zs ss all s i in (r.0, Contains-permutation zs ys r.0 moved r.1, r.2)

  apart : AreDisjoint (row (map tree_of ys))
  apart = once_apart (map tree_of ys) (λ v.
      let a = sum_map (one_if v) ys in
      let b = sum_by-IsPermutation (λ (z : PlainKeyed). one_if v z.tree) zs ys moved in
      let e = arranged_sum zs ss v all in
      let low = apart_once ss loose.apart v in
      omega arith)

  long : length ys ≡ length ss
  long = length_permutation zs ys moved ∙ along_long IsArranged zs ss all

  has_to : (v : ℕ) → Has (names_below (row (map tree_of ys))) v → Has (names_below (row ss)) v
  has_to v h =
      let c = child_of_name (row (map tree_of ys)) v h in
      let at = child_in ys c.0 c.1 in
      let s = to at.0 at.1 in
      child_inside (row ss) s.0 s.1 v (Has-along (names c.0) (names s.0) (ap names at.2 ∙ s.2.ordered.same_names) v c.2)

  has_from : (v : ℕ) → Has (names_below (row ss)) v → Has (names_below (row (map tree_of ys))) v
  has_from v h =
      let c = child_of_name (row ss) v h in
      let y = from c.0 c.1 in
      child_inside (row (map tree_of ys)) y.0.tree (in_child ys y.0 y.1) v (Has-along (names c.0) (names y.0.tree) (sym y.2.ordered.same_names) v c.2)

  adjacent : (u v : ℕ) → Has (names_below (row ss)) u → Has (names_below (row ss)) v → adjacent_in (node k (row (map tree_of ys)) []) u v ≡ adjacent_in (node k (row ss) []) u v
  adjacent u v hu hv =
      let c = child_of_name (row ss) u hu in
      let y = from c.0 c.1 in
      let same = y.2.ordered.same_names in
      let i = in_child ys y.0 y.1 in
      let yu = Has-along (names c.0) (names y.0.tree) (sym same) u c.2 in
      elim (cases_Bool (contains (names c.0) v)) [
        | inl cv ↦
            told_one k (row (map tree_of ys)) y.0.tree apart i u v yu (Has-along (names c.0) (names y.0.tree) (sym same) v cv)
            ∙ y.2.ordered.same_adjacent u v c.2 cv ∙ sym (told_one k (row ss) c.0 loose.apart c.1 u v c.2 cv)
        | inr lv ↦
            told_two k (row (map tree_of ys)) y.0.tree loose.not_prime apart i u v yu (has_from v hv) (ap (λ n. contains n v) same ∙ lv)
            ∙ sym (told_two k (row ss) c.0 loose.not_prime loose.apart c.1 u v c.2 hv lv)
      ]

  canonical : IsCanonicalNode k (row (map tree_of ys)) []
  canonical = record {
    apart = apart;
    order = in_order ys rising apart (λ y h. let s = to y h in (s.0, s.2));
    shape = plain_has_shape k (row (map tree_of ys)) [] loose.not_prime (record {
      enough = let two = loose.plain.enough in let a = count_map ys in let b = long in let e = count_row ss in omega arith;
      other_kinds = none_kind ys k (λ y h is. let s = to y h in child_other_kind (row ss) k s.0 loose.plain.other_kinds s.1 (s.2.kind k is));
      no_pairs = refl;
    });
  }

  first : (x : PlainKeyed) → Contains ys x → first_key ys ≤ x.least
  first x h = go ys rising h
    where
      go : (xs : List PlainKeyed) → IsNonDecreasingBy key_of xs → Contains xs x → first_key xs ≤ x.least
      go [] up h = absurd (let low = h.1 in omega arith)
      go (y ∷ xs) up h = let low = h.1 in let r = up 0 h.0 x (omega arith) (omega arith) in let e = ap key_of h.2 in omega arith

  has_first : Has (names_below (row (map tree_of ys))) (first_key ys)
  has_first = go ys (λ y h. let s = to y h in s.2.has_key) (let two = plain_two loose.plain in let a = count_map ys in let c = canonical.shape in let b = long in some_long ss two b)
    where
      some_long : (ts : List PlainTree) → 2 ≤ count (row ts) → length ys ≡ length ts → 0 < length ys
      some_long [] two e = absurd (omega arith)
      some_long (t ∷ ts) two e = omega arith

      go : (xs : List PlainKeyed) → ((x : PlainKeyed) → Contains xs x → Has (names x.tree) x.least) → 0 < length xs → Has (names_below (row (map tree_of xs))) (first_key xs)
      go [] has some = absurd (omega arith)
      go (x ∷ xs) has some = union_left (names x.tree) (names_below (row (map tree_of xs))) x.least (has x (in_head x xs))

  pub node_arranged : IsArranged (record { least = first_key ys; tree = node k (row (map tree_of ys)) [] }) (node k (row ss) [])
  node_arranged = record {
    ordered = record {
      canonical = (canonical, each_canonical ys (λ y h. let s = to y h in s.2.ordered.canonical));
      no_prime = (loose.not_prime, each_no_prime ys (λ y h. let s = to y h in s.2.ordered.no_prime));
      same_names = same_members _ _ has_to has_from;
      same_adjacent = adjacent;
    };
    kind = λ j is. is;
    has_key = has_first;
    least = λ v h.
        let c = child_of_name (row (map tree_of ys)) v h in
        let at = child_in ys c.0 c.1 in
        let s = to at.0 at.1 in
        let low = first at.0 at.1 in
        let more = s.2.least v (Has-along (names c.0) (names at.0.tree) (ap names at.2) v c.2) in
        omega arith;
  }
