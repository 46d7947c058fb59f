-- A node over the trees of a set's children, and how much smaller the children are.
use Rattle.std.proofs.Common.{◌≡◌, ℕ, zero, suc, ◌+◌, ◌-◌, ◌*◌, ◌<◌, ◌≤◌, ◌↔◌, Bool, List, [], ◌∷◌, ◌++◌, Contains, AllPairs, length, map, reverse, refl, sym, ◌∙◌, ap, subst, inl, inr, arith}
use Rattle.std.proofs.lemmas.List.{reverse-append}
use Rattle.std.specs.FinSet.{len, difference}
use Rattle.md_graph.specs.Sets.{NameSet, Has, Lacks, Within, Disjoint, HasSome, HasTwo}
use Rattle.md_modules.specs.Colours.{AreTold}
use Rattle.md_modules.specs.Modules.{IsMaximalStrong}
use Rattle.std.proofs.lemmas.Bool.{false_from_ne_true}
use Rattle.md_graph.proofs.SetLemmas.{clash, same_members, minus_has}
use Rattle.md_graph.proofs.Search.{decide_test, first_member, some_len, len_minus}
use Rattle.md_modules.proofs.Strong.{children_meet, child_of, child_leaves}
use Rattle.md_tree.specs.declared.Kind.{Kind}
use Rattle.md_tree.specs.declared.Kind.TheVariants.{Parallel, Series, Prime}
use Rattle.md_tree.specs.declared.Pair.{Pair}
use Rattle.md_tree.specs.Trees.{PlainTreeOf, PlainTree, names, names_below, names_at, row}
use Rattle.md_tree.specs.StrongTrees.{HasKind, IsBefore, IsInOrder, AreTreesJoined, HasPairs}
use Rattle.md_text.proofs.Lists.{In, Later, of_contains, to_contains, of_pairs}
use Rattle.md_tree.proofs.Nodes.{IsChild, child_inside, child_of_name}
use Rattle.md_tree.proofs.Built.{IsChildSet, IsBuilt}
use Rattle.md_decompose.specs.Children.{AreChildren, set_at, AreSetsJoined, ListsPairs}
use Rattle.md_decompose.specs.Turns.{ListsForKind}
use Rattle.md_decompose.proofs.OrderLemmas.{contains_at}

-- the leaf sets of the trees
child_in : {K P : Type 0} (ts : List (PlainTreeOf K P)) (m : NameSet) → In (map names ts) m → IsChildSet (row ts) m
child_in [] m i = absurd i
child_in (t ∷ ts) m (inl e) = (t, inl refl, e)
child_in (t ∷ ts) m (inr i) = let r : IsChildSet (row ts) m = child_in ts m i in (r.0, inr r.1, r.2)

pub of_child : {K P : Type 0} (ts : List (PlainTreeOf K P)) (c : PlainTreeOf K P) → IsChild (row ts) c → In (map names ts) (names c)
of_child [] c i = absurd i
of_child (t ∷ ts) c (inl e) = inl (ap names e)
of_child (t ∷ ts) c (inr i) = inr (of_child ts c i)

at_row : {K P : Type 0} (ts : List (PlainTreeOf K P)) (i : ℕ) → names_at (row ts) i ≡ set_at (map names ts) i
at_row [] i = refl
at_row (t ∷ ts) zero = refl
at_row (t ∷ ts) (suc i) = at_row ts i

pub in_order : {K P : Type 0} (ts : List (PlainTreeOf K P)) → Later IsBefore (map names ts) → ((c : PlainTreeOf K P) → IsChild (row ts) c → HasSome (names c)) → IsInOrder (row ts)
in_order [] later some = tt
in_order (t ∷ ts) later some = (before, in_order ts later.1 (λ c i. some c (inr i))) where
  z : (z : ℕ) × Has (names t) z × ((y : ℕ) → Has (names t) y → z ≤ y)
  z = first_member (names t) (some t (inl refl)).0 (some t (inl refl)).1

  before : IsBefore (names t) (names_below (row ts))
  before = (
    z.0,
    z.1,
    λ y h.
        let c : (c : PlainTreeOf _ _) × IsChild (row ts) c × Has (names c) y = child_of_name (row ts) y h in
        let b : IsBefore (names t) (names c.0) = later.0 (names c.0) (of_child ts c.0 c.1) in
        let p : z.0 ≤ b.0 = z.2 b.0 b.1 in
        let q : b.0 < y = b.2 y c.2 in
        omega arith,
  )

-- trees over the sets cs
module _ {K P : Type 0} (ts : List (PlainTreeOf K P)) (cs : List NameSet) (same : map names ts ≡ cs) where
  pub at_position : (i : ℕ) → names_at (row ts) i ≡ set_at cs i
  at_position i = at_row ts i ∙ ap (λ ds. set_at ds i) same

  -- where these are the children of s, for any colours
  module _ {C : Type 0} {e : ℕ → ℕ → C} (s : NameSet) (exactly : (m : NameSet) → IsMaximalStrong e s m ↔ Contains cs m) where
    pub maximal : (c : PlainTreeOf K P) → IsChild (row ts) c → IsMaximalStrong e s (names c)
    maximal c i = (exactly (names c)).1 (to_contains cs (names c) (subst (λ ds. In ds (names c)) same (of_child ts c i)))

    to_child : (m : NameSet) → IsMaximalStrong e s m → IsChildSet (row ts) m
    to_child m max = child_in ts m (subst (λ ds. In ds m) (sym same) (of_contains cs m ((exactly m).0 max)))

    module _ (told : AreTold C) (two : HasTwo s) where
      pub all_names : names_below (row ts) ≡ s
      all_names = same_members (names_below (row ts)) s
          (λ x h.
          let c : (c : PlainTreeOf K P) × IsChild (row ts) c × Has (names c) x = child_of_name (row ts) x h in
          (maximal c.0 c.1).is_strong.is_module.inside x c.2)
          (λ x h.
          let m : (m : NameSet) × IsMaximalStrong e s m × Has m x = child_of told s x two h in
          let c : IsChildSet (row ts) m.0 = to_child m.0 m.1 in
          child_inside (row ts) c.0 c.1 x (subst (λ w. Has w x) c.2 m.2))

      pub child_sets : (m : NameSet) → IsMaximalStrong e (names_below (row ts)) m ↔ IsChildSet (row ts) m
      child_sets m = (
        (λ max. to_child m (subst (λ w. IsMaximalStrong e w m) all_names max)),
        λ c. subst (λ w. IsMaximalStrong e w m) (sym all_names) (subst (IsMaximalStrong e s) (sym c.2) (maximal c.0 c.1)),
      )

module _ (e : ℕ → ℕ → Bool) where
  module _ (ts : List PlainTree) (cs : List NameSet) (same : map names ts ≡ cs) where
    to_joined : (i j : ℕ) → AreSetsJoined e cs i j → AreTreesJoined e (row ts) i j
    to_joined i j is = record {
      ordered = is.ordered;
      edge = (is.edge.0, is.edge.1, subst (λ s. Has s is.edge.0) (sym (at_position ts cs same i)) is.edge.2, subst (λ s. Has s is.edge.1) (sym (at_position ts cs same j)) is.edge.3, is.edge.4);
    }

    of_joined : (i j : ℕ) → AreTreesJoined e (row ts) i j → AreSetsJoined e cs i j
    of_joined i j is = record {
      ordered = is.ordered;
      edge = (is.edge.0, is.edge.1, subst (λ s. Has s is.edge.0) (at_position ts cs same i) is.edge.2, subst (λ s. Has s is.edge.1) (at_position ts cs same j) is.edge.3, is.edge.4);
    }

    pub has_pairs : (k : Kind) (ps : List Pair) → ListsForKind e k cs ps → HasPairs e k (row ts) ps
    has_pairs Parallel ps lists = lists
    has_pairs Series ps lists = lists
    has_pairs Prime ps lists =
        let is : ListsPairs e cs ps = lists in
        record {
          ascending = is.ascending;
          exactly = λ p. ((λ c. to_joined p.low p.high ((is.exactly p).0 c)), λ j. (is.exactly p).1 (of_joined p.low p.high j));
        }

    -- where they are the children of s
    module _ (s : NameSet) (are : AreChildren e s cs) (two : HasTwo s) where
      pub node_built : (k : Kind) (ps : List Pair) → HasKind e s k → HasPairs e k (row ts) ps → IsBuilt e k (row ts) ps
      node_built k ps kind pairs = record {
        node_of = record {
          kind = subst (λ w. HasKind e w k) (sym (all_names ts cs same s are.exactly decide_test two)) kind;
          order = in_order ts (subst (Later IsBefore) (sym same) (of_pairs IsBefore cs are.order)) (λ c i. (maximal ts cs same s are.exactly c i).is_strong.is_module.some);
          pairs = pairs;
        };
        children = child_sets ts cs same s are.exactly decide_test two;
      }

-- how many turns sets take at most, all together
abbrev pub weights : List NameSet → ℕ
weights [] = 0
weights (c ∷ cs) = (2 * len c - 1) + weights cs

pub weights-append : (cs ds : List NameSet) → weights (cs ++ ds) ≡ weights cs + weights ds
weights-append [] ds = omega arith
weights-append (c ∷ cs) ds = let r : weights (cs ++ ds) ≡ weights cs + weights ds = weights-append cs ds in omega arith

pub weights-reverse : (cs : List NameSet) → weights (reverse cs) ≡ weights cs
weights-reverse [] = refl
weights-reverse (c ∷ cs) =
    let turned : weights (reverse (c ∷ cs)) ≡ weights (reverse cs ++ c ∷ []) = ap weights (reverse-append (c ∷ []) cs) in
    let cut : weights (reverse cs ++ c ∷ []) ≡ weights (reverse cs) + ((2 * len c - 1) + 0) = weights-append (reverse cs) (c ∷ []) in
    let rest : weights (reverse cs) ≡ weights cs = weights-reverse cs in
    omega arith

-- disjoint sets have no more members than a set that holds them
spread : (cs : List NameSet) (s : NameSet) → ((c : NameSet) → In cs c → HasSome c × Within c s) → Later Disjoint cs → weights cs + length cs ≤ 2 * len s
spread [] s parts apart = omega arith
spread (c ∷ cs) s parts apart =
    let r : weights cs + length cs ≤ 2 * len (difference s c) =
    spread cs (difference s c) (λ d i. ((parts d (inr i)).0, λ x h. minus_has s c x ((parts d (inr i)).1 x h) (false_from_ne_true _ (λ k. clash h (apart.0 d i x k))))) apart.1 in
    let l : len (difference s c) + len c ≤ len s = len_minus s c (parts c (inl refl)).1 in
    let o : 1 ≤ len c = some_len c (parts c (inl refl)).0.0 (parts c (inl refl)).0.1 in
    omega arith

two_parts : (s : NameSet) (cs : List NameSet) → HasSome s → ((x : ℕ) → Has s x → (c : NameSet) × In cs c × Has c x) →
    ((c : NameSet) → In cs c → (x : ℕ) × Has s x × Lacks c x) → 2 ≤ length cs
two_parts s [] some cover leaves = absurd (cover some.0 some.1).1
two_parts s (c ∷ []) some cover leaves =
    let x : (x : ℕ) × Has s x × Lacks c x = leaves c (inl refl) in
    let d : (d : NameSet) × In (c ∷ []) d × Has d x.0 = cover x.0 x.1 in
    elim d.1 [ inl same ↦ clash (subst (λ w. Has w x.0) same d.2) x.2 | inr i ↦ absurd i ]
two_parts s (c ∷ d ∷ cs) some cover leaves = omega arith

-- no set is before itself
pub not_before : (c : NameSet) → HasSome c → IsBefore c c → ⊥
not_before c some b = let bad : b.0 < b.0 = b.2 b.0 b.1 in omega arith

-- the children of s, for any colours
module _ {C : Type 0} {e : ℕ → ℕ → C} (s : NameSet) (cs : List NameSet) (exactly : (m : NameSet) → IsMaximalStrong e s m ↔ Contains cs m) where
  pub child_maximal : (c : NameSet) → In cs c → IsMaximalStrong e s c
  child_maximal c i = (exactly c).1 (to_contains cs c i)

  pub child_at : (k : ℕ) → k < length cs → IsMaximalStrong e s (set_at cs k)
  child_at k l = (exactly (set_at cs k)).1 (contains_at cs k l)

  pub child_some : (k : ℕ) → k < length cs → HasSome (set_at cs k)
  child_some k l = (child_at k l).is_strong.is_module.some

  pub child_within : (k x : ℕ) → k < length cs → Has (set_at cs k) x → Has s x
  child_within k x l h = (child_at k l).is_strong.is_module.inside x h

-- in an order in which none is before itself they are apart
apart : {C : Type 0} {e : ℕ → ℕ → C} (s : NameSet) (Before : NameSet → NameSet → Type 0) → ((c : NameSet) → HasSome c → Before c c → ⊥) →
    (cs : List NameSet) → ((c : NameSet) → In cs c → IsMaximalStrong e s c) → Later Before cs → Later Disjoint cs
apart s Before not_own [] max later = tt
apart s Before not_own (c ∷ cs) max later = (
  λ d i x h. false_from_ne_true _ (λ k.
      let same : c ≡ d = children_meet s c d x (max c (inl refl)) (max d (inr i)) h k in
      not_own c (x, h) (subst (Before c) (sym same) (later.0 d i))),
  apart s Before not_own cs (λ d i. max d (inr i)) later.1,
)

-- the children are smaller
module _ {C : Type 0} {e : ℕ → ℕ → C} (s : NameSet) (Before : NameSet → NameSet → Type 0) (not_own : (c : NameSet) → HasSome c → Before c c → ⊥)
    (cs : List NameSet) (exactly : (m : NameSet) → IsMaximalStrong e s m ↔ Contains cs m) (order : AllPairs Before cs) where
  abbrev max : (c : NameSet) → In cs c → IsMaximalStrong e s c
  max = child_maximal s cs exactly

  children_spread : weights cs + length cs ≤ 2 * len s
  children_spread = spread cs s (λ c i. ((max c i).is_strong.is_module.some, (max c i).is_strong.is_module.inside)) (apart s Before not_own cs max (of_pairs Before cs order))

  -- there are at most twice as many as names
  pub children_few : length cs ≤ 2 * len s
  children_few = let a : weights cs + length cs ≤ 2 * len s = children_spread in omega arith

  pub children_fall : AreTold C → HasTwo s → weights cs < 2 * len s - 1
  children_fall told two =
      let a : weights cs + length cs ≤ 2 * len s = children_spread in
      let b : 2 ≤ length cs =
      two_parts s cs (two.0, two.2)
      (λ x h. let m : (m : NameSet) × IsMaximalStrong e s m × Has m x = child_of told s x two h in (m.0, of_contains cs m.0 ((exactly m.0).0 m.1), m.2))
      (λ c i. child_leaves s c (max c i)) in
      omega arith
