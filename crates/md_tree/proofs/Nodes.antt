-- The nodes of a tree: their leaf sets, and the children of a node.
use Rattle.std.proofs.Common.{◌≡◌, ◌≢◌, ℕ, List, zero, suc, cond, ◌<◌, ◌⊎◌, refl, sym, ◌∙◌, ap, subst, inl, inr, arith}
use Rattle.md_graph.specs.Sets.{NameSet, Has, Lacks, Within, Disjoint, only_name}
use Rattle.md_graph.proofs.SetLemmas.{clash, of_only, empty_lacks, Has-along, union_left, union_right, of_union}
use Rattle.std.specs.FinSet.{contains}
use Rattle.std.proofs.lemmas.Bool.{cases_Bool, false_from_ne_true}
use Rattle.md_tree.specs.WellFormed.{AreDisjoint}
use Rattle.md_tree.specs.TreeGraph.{position_of}
use Rattle.md_tree.specs.Trees.{PlainTreeOf, leaf, node, PlainTreesOf, no_tree, one_more, names, names_below, names_at, node_sets, node_sets_below, count, EachNode, EachNodeBelow}
use Rattle.md_text.proofs.Lists.{In, Later, in_left, in_right, of_append, later_left, later_right, later_across}

-- c is one of the trees
abbrev pub IsChild : {K P : Type 0} → PlainTreesOf K P → PlainTreeOf K P → Type 0
IsChild no_tree c = ⊥
IsChild (one_more t ts) c = (c ≡ t) ⊎ IsChild ts c

-- the set of a node is among the sets of its tree
pub own_set : {K P : Type 0} (t : PlainTreeOf K P) → In (node_sets t) (names t)
own_set (leaf v) = inl refl
own_set (node k cs ps) = inl refl

mutual
  -- each set of a tree lies in the tree's own
  pub set_inside : {K P : Type 0} (t : PlainTreeOf K P) (m : NameSet) → In (node_sets t) m → Within m (names t)
  set_inside (leaf v) m (inl e) x h = subst (λ w. Has w x) e h
  set_inside (leaf v) m (inr i) x h = absurd i
  set_inside (node k cs ps) m (inl e) x h = subst (λ w. Has w x) e h
  set_inside (node k cs ps) m (inr i) x h = sets_inside cs m i x h

  pub sets_inside : {K P : Type 0} (ts : PlainTreesOf K P) (m : NameSet) → In (node_sets_below ts) m → Within m (names_below ts)
  sets_inside no_tree m i x h = absurd i
  sets_inside (one_more t ts) m i x h = elim (of_append (node_sets t) (node_sets_below ts) m i) [
    | inl l ↦ union_left (names t) (names_below ts) x (set_inside t m l x h)
    | inr r ↦ union_right (names t) (names_below ts) x (sets_inside ts m r x h)
  ]

mutual
  -- the leaf of a name is among the sets
  pub single_in : {K P : Type 0} (t : PlainTreeOf K P) (x : ℕ) → Has (names t) x → In (node_sets t) (only_name x)
  single_in (leaf v) x h = inl (ap only_name (of_only v x h))
  single_in (node k cs ps) x h = inr (single_in_below cs x h)

  single_in_below : {K P : Type 0} (ts : PlainTreesOf K P) (x : ℕ) → Has (names_below ts) x → In (node_sets_below ts) (only_name x)
  single_in_below no_tree x h = clash h (empty_lacks x)
  single_in_below (one_more t ts) x h = elim (of_union (names t) (names_below ts) x h) [
    | inl l ↦ in_left (node_sets t) (node_sets_below ts) (only_name x) (single_in t x l)
    | inr r ↦ in_right (node_sets t) (node_sets_below ts) (only_name x) (single_in_below ts x r)
  ]

-- what holds of each node of a row holds of those of each of its trees
pub each_child : {K P : Type 0} (N : K → PlainTreesOf K P → List P → Type 0) (cs : PlainTreesOf K P) (c : PlainTreeOf K P) → EachNodeBelow N cs → IsChild cs c → EachNode N c
each_child N no_tree c each i = absurd i
each_child N (one_more t ts) c each (inl e) = subst (EachNode N) (sym e) each.0
each_child N (one_more t ts) c each (inr i) = each_child N ts c each.1 i

-- the names and the sets of a child
pub child_inside : {K P : Type 0} (ts : PlainTreesOf K P) (c : PlainTreeOf K P) → IsChild ts c → Within (names c) (names_below ts)
child_inside no_tree c i x h = absurd i
child_inside (one_more t ts) c (inl e) x h = union_left (names t) (names_below ts) x (subst (λ w. Has (names w) x) e h)
child_inside (one_more t ts) c (inr i) x h = union_right (names t) (names_below ts) x (child_inside ts c i x h)

pub child_of_name : {K P : Type 0} (ts : PlainTreesOf K P) (x : ℕ) → Has (names_below ts) x → (c : PlainTreeOf K P) × IsChild ts c × Has (names c) x
child_of_name no_tree x h = clash h (empty_lacks x)
child_of_name (one_more t ts) x h = elim (of_union (names t) (names_below ts) x h) [
  | inl l ↦ (t, inl refl, l)
  | inr r ↦ let c : (c : PlainTreeOf _ _) × IsChild ts c × Has (names c) x = child_of_name ts x r in (c.0, inr c.1, c.2)
]

pub child_set_in : {K P : Type 0} (ts : PlainTreesOf K P) (c : PlainTreeOf K P) (m : NameSet) → IsChild ts c → In (node_sets c) m → In (node_sets_below ts) m
child_set_in no_tree c m i h = absurd i
child_set_in (one_more t ts) c m (inl e) h = in_left (node_sets t) (node_sets_below ts) m (subst (λ w. In (node_sets w) m) e h)
child_set_in (one_more t ts) c m (inr i) h = in_right (node_sets t) (node_sets_below ts) m (child_set_in ts c m i h)

pub child_of_set : {K P : Type 0} (ts : PlainTreesOf K P) (m : NameSet) → In (node_sets_below ts) m → (c : PlainTreeOf K P) × IsChild ts c × In (node_sets c) m
child_of_set no_tree m i = absurd i
child_of_set (one_more t ts) m i = elim (of_append (node_sets t) (node_sets_below ts) m i) [
  | inl l ↦ (t, inl refl, l)
  | inr r ↦ let c : (c : PlainTreeOf _ _) × IsChild ts c × In (node_sets c) m = child_of_set ts m r in (c.0, inr c.1, c.2)
]

-- two sets are different
abbrev pub Differ : NameSet → NameSet → Type 0
Differ m n = m ≢ n

-- where the sets below a node are there once each, so are those of a child, and no set is below two children
pub child_once : {K P : Type 0} (ts : PlainTreesOf K P) (c : PlainTreeOf K P) → IsChild ts c → Later Differ (node_sets_below ts) → Later Differ (node_sets c)
child_once no_tree c i l = absurd i
child_once (one_more t ts) c (inl e) l = subst (λ w. Later Differ (node_sets w)) (sym e) (later_left Differ (node_sets t) (node_sets_below ts) l)
child_once (one_more t ts) c (inr i) l = child_once ts c i (later_right Differ (node_sets t) (node_sets_below ts) l)

pub one_child : {K P : Type 0} (ts : PlainTreesOf K P) (c d : PlainTreeOf K P) (m : NameSet) → Later Differ (node_sets_below ts) → IsChild ts c → IsChild ts d →
    In (node_sets c) m → In (node_sets d) m → c ≡ d
one_child no_tree c d m l i j p q = absurd i
one_child (one_more t ts) c d m l (inl e) (inl f) p q = e ∙ sym f
one_child (one_more t ts) c d m l (inl e) (inr j) p q =
    absurd (later_across Differ (node_sets t) (node_sets_below ts) l m m (subst (λ w. In (node_sets w) m) e p) (child_set_in ts d m j q) refl)
one_child (one_more t ts) c d m l (inr i) (inl f) p q =
    absurd (later_across Differ (node_sets t) (node_sets_below ts) l m m (subst (λ w. In (node_sets w) m) f q) (child_set_in ts c m i p) refl)
one_child (one_more t ts) c d m l (inr i) (inr j) p q = one_child ts c d m (later_right Differ (node_sets t) (node_sets_below ts) l) i j p q

-- only positions of trees have names
pub position_below : {K P : Type 0} (cs : PlainTreesOf K P) (i x : ℕ) → Has (names_at cs i) x → i < count cs
position_below no_tree i x h = clash h (empty_lacks x)
position_below (one_more t ts) zero x h = let b : 0 < suc (count ts) = omega arith in b
position_below (one_more t ts) (suc i) x h =
    let a : i < count ts = position_below ts i x h in
    let b : suc i < suc (count ts) = omega arith in b

-- a name stands in the tree at its position, and at no other one
pub at_position : {K P : Type 0} (cs : PlainTreesOf K P) (a : ℕ) → Has (names_below cs) a → Has (names_at cs (position_of cs a)) a
at_position no_tree a h = clash h (empty_lacks a)
at_position (one_more t ts) a h = elim (cases_Bool (contains (names t) a)) [
  | inl i ↦ subst (λ w. Has (names_at (one_more t ts) (cond w 0 (suc (position_of ts a)))) a) (sym i) i
  | inr l ↦ subst (λ w. Has (names_at (one_more t ts) (cond w 0 (suc (position_of ts a)))) a) (sym l)
      (at_position ts a (elim (of_union (names t) (names_below ts) a h) [ inl i ↦ clash i l | inr j ↦ j ]))
]

pub at_inside : {K P : Type 0} (cs : PlainTreesOf K P) (i : ℕ) → Within (names_at cs i) (names_below cs)
at_inside no_tree i x h = h
at_inside (one_more t ts) zero x h = union_left (names t) (names_below ts) x h
at_inside (one_more t ts) (suc i) x h = union_right (names t) (names_below ts) x (at_inside ts i x h)

pub position_at : {K P : Type 0} (cs : PlainTreesOf K P) → AreDisjoint cs → (i x : ℕ) → Has (names_at cs i) x → position_of cs x ≡ i
position_at no_tree apart i x h = clash h (empty_lacks x)
position_at (one_more t ts) apart zero x h = ap (λ w. cond w 0 (suc (position_of ts x))) h
position_at (one_more t ts) apart (suc i) x h =
    let l : Lacks (names t) x = false_from_ne_true _ (λ k. clash (at_inside ts i x h) (apart.0 x k)) in
    ap (λ w. cond w 0 (suc (position_of ts x))) l ∙ ap (λ n. suc n) (position_at ts apart.1 i x h)

pub child_at : {K P : Type 0} (cs : PlainTreesOf K P) (i x : ℕ) → Has (names_at cs i) x → (c : PlainTreeOf K P) × IsChild cs c × (names_at cs i ≡ names c)
child_at no_tree i x h = clash h (empty_lacks x)
child_at (one_more t ts) zero x h = (t, inl refl, refl)
child_at (one_more t ts) (suc i) x h =
    let c : (c : PlainTreeOf _ _) × IsChild ts c × (names_at ts i ≡ names c) = child_at ts i x h in
    (c.0, inr c.1, c.2)

-- trees at two positions have no name in common
pub at_apart : {K P : Type 0} (cs : PlainTreesOf K P) → AreDisjoint cs → (i j : ℕ) → i < j → (a b : NameSet) → names_at cs i ≡ a → names_at cs j ≡ b → Disjoint a b
at_apart cs apart i j less a b p q x h = false_from_ne_true _ (λ k.
    let m : position_of cs x ≡ i = position_at cs apart i x (Has-along a (names_at cs i) (sym p) x h) in
    let n : position_of cs x ≡ j = position_at cs apart j x (Has-along b (names_at cs j) (sym q) x k) in
    omega arith)
