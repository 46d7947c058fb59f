-- The names of the least node that holds two names.
use Rattle.std.proofs.Common.{◌≡◌, ℕ, ◌+◌, ◌≤◌, Bool, true, false, not, ◌&&◌, ◌||◌, cond, List, refl, sym, ◌∙◌, ap, subst, inl, inr, arith}
use Rattle.std.proofs.lemmas.Bool.{cases_Bool, false_from_ne_true, and_parts, and_from}
use Rattle.std.proofs.lemmas.List.Sums.{sum_by-cons, sum_by-append}
use Rattle.std.specs.FinSet.{contains, len, union}
use Rattle.std.specs.List.{sum_by}
use Rattle.md_graph.specs.Sets.{NameSet, Has, Lacks}
use Rattle.md_graph.specs.Adjacency.{IsAdjacency}
use Rattle.md_graph.proofs.SetLemmas.{clash, union_left, union_right}
use Rattle.md_graph.proofs.Search.{len_within}
use Rattle.md_text.proofs.Lists.{In, of_append, of_contains}
use Rattle.md_tree.specs.declared.Kind.{Kind}
use Rattle.md_tree.specs.declared.Pair.{Pair}
use Rattle.md_tree.specs.Trees.{PlainTree, leaf, node, PlainTrees, no_tree, one_more, names, names_below, node_sets, node_sets_below, EachNode, EachNodeBelow}
use Rattle.md_local.specs.NodeLists.{nodes_backward, row_nodes_backward}
use Rattle.md_tree.specs.StrongTrees.{IsTreeOf}
use Rattle.md_tree.specs.WellFormed.{AreDisjoint, IsCanonicalNode}
use Rattle.md_tree.proofs.Nodes.{set_inside, sets_inside}
use Rattle.md_tree.proofs.Built.{tree_built}
use Rattle.md_tree.proofs.Canonical.{canonical_of}
use Rattle.md_local.specs.Changes.{IsLeastStrong}
use Rattle.md_local.specs.Growing.{holds_both, some_holds_both, have_apart, own_steps, names_between}

module _ (u v : ℕ) where
  -- the same for the nodes of trees in a row
  abbrev between_below : PlainTrees → ℕ
  between_below ts = sum_by (own_steps u v) (row_nodes_backward ts)

  between_node : (k : Kind) (cs : PlainTrees) (ps : List Pair) → names_between u v (node k cs ps) ≡ own_steps u v (node k cs ps) + between_below cs
  between_node k cs ps = sum_by-cons (own_steps u v) (node k cs ps) (row_nodes_backward cs)

  between_more : (t : PlainTree) (ts : PlainTrees) → between_below (one_more t ts) ≡ between_below ts + names_between u v t
  between_more t ts = sum_by-append (own_steps u v) (row_nodes_backward ts) (nodes_backward t)

  own_none : (k : Kind) (cs : PlainTrees) (ps : List Pair) → have_apart cs u v ≡ false → own_steps u v (node k cs ps) ≡ 0
  own_none k cs ps e = ap (λ b. cond b (len (names_below cs)) 0) e

  own_all : (k : Kind) (cs : PlainTrees) (ps : List Pair) → have_apart cs u v ≡ true → own_steps u v (node k cs ps) ≡ len (names_below cs)
  own_all k cs ps e = ap (λ b. cond b (len (names_below cs)) 0) e

  -- no node of a tree that doesn't hold both has any
  mutual
    none_between : (t : PlainTree) → (Has (names t) u → Has (names t) v → ⊥) → names_between u v t ≡ 0
    none_between (leaf x) none = refl
    none_between (node k cs ps) none =
        let all = between_node k cs ps in
        let below = none_below cs none in
        let own = own_none k cs ps (false_from_ne_true _ (λ h.
        let both = and_parts (contains (names_below cs) u) (contains (names_below cs) v) (and_parts (holds_both (names_below cs) u v) (not (some_holds_both cs u v)) h).0 in
        none both.0 both.1)) in
        omega arith

    none_below : (ts : PlainTrees) → (Has (names_below ts) u → Has (names_below ts) v → ⊥) → between_below ts ≡ 0
    none_below no_tree none = refl
    none_below (one_more t ts) none =
        let all = between_more t ts in
        let first = none_between t (λ a b. none (union_left (names t) (names_below ts) u a) (union_left (names t) (names_below ts) v b)) in
        let rest = none_below ts (λ a b. none (union_right (names t) (names_below ts) u a) (union_right (names t) (names_below ts) v b)) in
        omega arith

  -- nor has one below a node none of whose children holds both
  nobody_below : (ts : PlainTrees) → some_holds_both ts u v ≡ false → between_below ts ≡ 0
  nobody_below no_tree none = refl
  nobody_below (one_more t ts) none = elim (cases_Bool (holds_both (names t) u v)) [
    | inl both ↦ clash (ap (λ b. b || some_holds_both ts u v) both) none
    | inr fails ↦
        let all = between_more t ts in
        let first = none_between t (λ a b. clash (and_from (contains (names t) u) (contains (names t) v) a b) fails) in
        let rest = nobody_below ts (ap (λ b. b || some_holds_both ts u v) (sym fails) ∙ none) in
        omega arith
  ]

  none_leaf : (x : ℕ) → names_between u v (leaf x) ≡ 0
  none_leaf x = refl

  none_row : between_below no_tree ≡ 0
  none_row = refl

  not_true : (b : Bool) → not b ≡ true → b ≡ false
  not_true true h = sym h
  not_true false h = refl

  mutual
    few_between : (t : PlainTree) → EachNode IsCanonicalNode t → names_between u v t ≤ len (names t)
    few_between (leaf x) each = let none = none_leaf x in omega arith
    few_between (node k cs ps) each =
        let all = between_node k cs ps in
        elim (cases_Bool (have_apart cs u v)) [
          | inl apart ↦
              let own = own_all k cs ps apart in
              let below = nobody_below cs (not_true (some_holds_both cs u v) (and_parts (holds_both (names_below cs) u v) (not (some_holds_both cs u v)) apart).1) in
              omega arith
          | inr fails ↦
              let own = own_none k cs ps fails in
              let below = few_below cs each.0.apart each.1 in
              omega arith
        ]

    few_below : (ts : PlainTrees) → AreDisjoint ts → EachNodeBelow IsCanonicalNode ts → between_below ts ≤ len (names_below ts)
    few_below no_tree apart each = let none = none_row in omega arith
    few_below (one_more t ts) apart each =
        let all = between_more t ts in
        elim (cases_Bool (contains (names t) u)) [
          | inl h ↦
              let first = few_between t each.0 in
              let rest = none_below ts (λ a b. clash a (apart.0 u h)) in
              let low = len_within (names t) (union (names t) (names_below ts)) (union_left (names t) (names_below ts)) in
              omega arith
          | inr l ↦
              let first = none_between t (λ a b. clash a l) in
              let rest = few_below ts apart.1 each.1 in
              let low = len_within (names_below ts) (union (names t) (names_below ts)) (union_right (names t) (names_below ts)) in
              omega arith
        ]

  mutual
    -- a node that holds both has no fewer names
    in_node : (t : PlainTree) → EachNode IsCanonicalNode t → (w : NameSet) → In (node_sets t) w → Has w u → Has w v → names_between u v t ≤ len w
    in_node (leaf x) each w i hu hv = let none = none_leaf x in omega arith
    in_node (node k cs ps) each w (inl e) hu hv = subst (λ s. names_between u v (node k cs ps) ≤ len s) (sym e) (few_between (node k cs ps) each)
    in_node (node k cs ps) each w (inr i) hu hv =
        let all = between_node k cs ps in
        let below : (between_below cs ≤ len w) × (some_holds_both cs u v ≡ true) = in_child cs each.0.apart each.1 w i hu hv in
        let own = own_none k cs ps (false_from_ne_true _ (λ h.
        clash below.1 (not_true (some_holds_both cs u v) (and_parts (holds_both (names_below cs) u v) (not (some_holds_both cs u v)) h).1))) in
        let low = below.0 in
        omega arith

    in_child : (ts : PlainTrees) → AreDisjoint ts → EachNodeBelow IsCanonicalNode ts → (w : NameSet) → In (node_sets_below ts) w → Has w u → Has w v →
        (between_below ts ≤ len w) × (some_holds_both ts u v ≡ true)
    in_child no_tree apart each w i hu hv = absurd i
    in_child (one_more t ts) apart each w i hu hv = elim (of_append (node_sets t) (node_sets_below ts) w i) [
      | inl l ↦
          let hu2 : Has (names t) u = set_inside t w l u hu in
          let hv2 : Has (names t) v = set_inside t w l v hv in (
            (let all = between_more t ts in let first = in_node t each.0 w l hu hv in let rest = none_below ts (λ a b. clash a (apart.0 u hu2)) in omega arith),
            ap (λ b. b || some_holds_both ts u v) (and_from (contains (names t) u) (contains (names t) v) hu2 hv2),
          )
      | inr r ↦
          let there : Has (names_below ts) u = sets_inside ts w r u hu in
          let off : Lacks (names t) u = false_from_ne_true _ (λ h. clash there (apart.0 u h)) in
          let rest : (between_below ts ≤ len w) × (some_holds_both ts u v ≡ true) = in_child ts apart.1 each.1 w r hu hv in (
            (let all = between_more t ts in let first = none_between t (λ a b. clash a off) in let low = rest.0 in omega arith),
            ap (λ b. (b && contains (names t) v) || some_holds_both ts u v) off ∙ rest.1,
          )
    ]

  pub between_least : (e : ℕ → ℕ → Bool) (s : NameSet) (t : PlainTree) → IsAdjacency e → IsTreeOf e s t → (w : NameSet) → IsLeastStrong e s u v w → names_between u v t ≤ len w
  between_least e s t adj is w least =
      in_node t (canonical_of e adj t (tree_built s t is)) w (of_contains (node_sets t) w ((is.strong w).0 least.is_strong)) least.has_left least.has_right
