-- What grows of a node, and of trees in a row.
use Rattle.std.proofs.Common.{◌≡◌, ◌≢◌, ◌⊎◌, ℕ, suc, ◌+◌, ◌≤◌, Bool, true, false, not, ◌&&◌, ◌||◌, ◌==◌, eqb, eqb-true, cond, List, [], ◌∷◌, ◌++◌, length, map, append_assoc, append-nil, refl, sym, ◌∙◌, ap, subst, inl, inr, arith}
use Rattle.std.specs.Prelude.{⊤}
use Rattle.std.proofs.lemmas.Bool.{cases_Bool, false_from_ne_true, and_parts, and_from, false≢true}
use Rattle.std.proofs.lemmas.List.Folds.{list_any-append}
use Rattle.std.proofs.lemmas.List.Sums.{sum_by-cons, sum_by-append}
use Rattle.std.specs.FinSet.{contains, empty, intersection, len}
use Rattle.std.specs.List.{list_any, sum_by}
use Rattle.md_graph.specs.PlainGraph.{PlainGraph, adjacent}
use Rattle.md_graph.specs.Sets.{NameSet, Has, Lacks, HasSome, HasTwo, only_name}
use Rattle.md_graph.proofs.SetLemmas.{clash, Has-along, of_only, of_union, union_left, empty_lacks, same_turned}
use Rattle.md_graph.proofs.SetLaws.{contains-union, contains-empty, contains-insert}
use Rattle.md_graph.proofs.Search.{decide_test}
use Rattle.md_modules.specs.Modules.{IsModule}
use Rattle.md_modules.proofs.Modules.{undirected, whole_module, module_of_module}
use Rattle.md_text.proofs.Lists.{In, in_left, in_right, of_append, of_contains, to_contains}
use Rattle.md_tree.specs.declared.Kind.{Kind}
use Rattle.md_tree.specs.declared.Pair.{Pair}
use Rattle.md_tree.specs.Trees.{PlainTree, leaf, node, PlainTrees, no_tree, one_more, names, names_below, row, EachNode}
use Rattle.md_tree.specs.Heads.{head}
use Rattle.md_tree.specs.Parts.{listed, below_node}
use Rattle.md_tree.specs.Plain.{plain}
use Rattle.md_tree.specs.declared.TreeOf.{TreeOf, Leaf}
use Rattle.md_tree.specs.StrongTrees.{IsTreeOf}
use Rattle.md_tree.specs.WellFormed.{AreDisjoint}
use Rattle.md_tree.proofs.Plain.{plain_is_leaf}
use Rattle.md_tree.proofs.Nodes.{IsChild, child_inside, child_of_name, each_child}
use Rattle.md_tree.proofs.Built.{IsBuilt, children_maximal, tree_names, tree_built}
use Rattle.md_tree.proofs.Kinded.{apart_of, built_tree}
use Rattle.md_tree.proofs.GraphKinds.{two_of_kind, kinds_of_graphs}
use Rattle.md_tree.proofs.Apart.{one_if, one_has, row_lacks, apart_once, once_apart}
use Rattle.md_tree.proofs.Folding.{row_listed}
use Rattle.md_tree.proofs.Stacking.{map_one_more}
use Rattle.md_local.specs.declared.growing.Below.{Below}
use Rattle.md_local.specs.declared.growing.Grown.{Grown}
use Rattle.md_local.specs.declared.growing.Growth.{Growth}
use Rattle.md_local.specs.declared.growing.Growth.TheVariants.{Whole, Hanging}
use Rattle.md_local.specs.Changes.{AgreeOff}
use Rattle.md_local.specs.Growing.{holds_both, some_holds_both, have_apart, own_steps, IsOld, AreHanging, HasGrown, is_hanging, one_alone, IsGrownFrom, AreGrownFrom, IsGrownBelow, are_apart, IsJoined, added_to, gathered, quotient_names}
use Rattle.md_local.specs.Substitution.{IsOverQuotient}
use Rattle.md_local.proofs.Ordering.{child_of_in, in_of_child, head_least}
use Rattle.md_local.proofs.Joining.{AreTrees, only_in, joined_tree}
use Rattle.md_local.proofs.Placing.{or_false}
use Rattle.md_local.proofs.EndsAndHeads.{over_vertices, few_names}

-- ---- what has grown, in two lists

module _ (g : PlainGraph) (u v : ℕ) where
  pub grown_length : (ts : List PlainTree) (xs : List Grown) → AreGrownFrom g u v ts xs → length xs ≡ length ts
  grown_length [] [] are = refl
  grown_length [] (x ∷ xs) are = absurd are
  grown_length (t ∷ ts) [] are = absurd are
  grown_length (t ∷ ts) (x ∷ xs) are = ap (λ n. suc n) (grown_length ts xs are.1)

  pub grown_more : (us : List PlainTree) (xs : List Grown) (t : PlainTree) (x : Grown) → AreGrownFrom g u v us xs → IsGrownFrom g u v t x → AreGrownFrom g u v (us ++ t ∷ []) (xs ++ x ∷ [])
  grown_more [] [] t x are is = (is, tt)
  grown_more [] (y ∷ xs) t x are is = absurd are
  grown_more (s ∷ us) [] t x are is = absurd are
  grown_more (s ∷ us) (y ∷ xs) t x are is = (are.0, grown_more us xs t x are.1 is)

  -- the flags of a node are those of its children
  pub any_left : (ts : List PlainTree) (xs : List Grown) → AreGrownFrom g u v ts xs → list_any (λ x. x.left) xs ≡ contains (names_below (row ts)) u
  any_left [] [] are = sym (contains-empty u)
  any_left [] (x ∷ xs) are = absurd are
  any_left (t ∷ ts) [] are = absurd are
  any_left (t ∷ ts) (x ∷ xs) are =
      ap (λ b. b || list_any (λ x. x.left) xs) are.0.left ∙ ap (λ b. contains (names t) u || b) (any_left ts xs are.1) ∙ sym (contains-union (names t) (names_below (row ts)) u)

  pub any_right : (ts : List PlainTree) (xs : List Grown) → AreGrownFrom g u v ts xs → list_any (λ x. x.right) xs ≡ contains (names_below (row ts)) v
  any_right [] [] are = sym (contains-empty v)
  any_right [] (x ∷ xs) are = absurd are
  any_right (t ∷ ts) [] are = absurd are
  any_right (t ∷ ts) (x ∷ xs) are =
      ap (λ b. b || list_any (λ x. x.right) xs) are.0.right ∙ ap (λ b. contains (names t) v || b) (any_right ts xs are.1) ∙ sym (contains-union (names t) (names_below (row ts)) v)

  pub any_both : (ts : List PlainTree) (xs : List Grown) → AreGrownFrom g u v ts xs → list_any (λ x. x.left && x.right) xs ≡ some_holds_both (row ts) u v
  any_both [] [] are = refl
  any_both [] (x ∷ xs) are = absurd are
  any_both (t ∷ ts) [] are = absurd are
  any_both (t ∷ ts) (x ∷ xs) are =
      ap (λ b. b || list_any (λ x. x.left && x.right) xs) (ap (λ b. b && x.right) are.0.left ∙ ap (λ b. contains (names t) u && b) are.0.right)
      ∙ ap (λ b. (contains (names t) u && contains (names t) v) || b) (any_both ts xs are.1)

  pub apart_flags : (ts : List PlainTree) (xs : List Grown) → AreGrownFrom g u v ts xs → are_apart xs ≡ have_apart (row ts) u v
  apart_flags ts xs are = let a = any_left ts xs are in let b = any_right ts xs are in let c = any_both ts xs are in cc

  -- ---- a leaf

  contains_only : (x w : ℕ) → eqb x w ≡ contains (only_name x) w
  contains_only x w = same_turned x w ∙ sym (contains-insert empty x w ∙ ap (λ b. (w == x) || b) (contains-empty w) ∙ or_false (w == x))

  -- of a leaf that is one end nothing hangs
  leaf_alone : (x : ℕ) → one_alone (eqb x u) (eqb x v) ≡ true → (e : ℕ → ℕ → Bool) → AreHanging e (adjacent g) (only_name x) u v []
  leaf_alone x one e = record {
    apart = tt;
    others = λ y. (
      (λ h. clash h (empty_lacks y)),
      λ is. absurd (elim (cases_Bool (eqb x u)) [
        | inl same ↦ is.1 (of_only x y is.0 ∙ eqb-true x u same)
        | inr differs ↦ is.2 (of_only x y is.0 ∙ eqb-true x v (ap (λ b. one_alone b (eqb x v)) (sym differs) ∙ one))
      ]),
    );
    trees = λ t i. absurd (of_contains [] t i);
  }

  pub end_grown : (x : ℕ) (none : _) (grown : Grown) → grown.growth ≡ Hanging none → none.items ≡ [] → grown.left ≡ eqb x u → grown.right ≡ eqb x v → one_alone grown.left grown.right ≡ true →
      IsGrownFrom g u v (leaf x) grown
  end_grown x none grown is empty left right one = record {
    left = left ∙ contains_only x u;
    right = right ∙ contains_only x v;
    hanging = ap is_hanging is ∙ sym one;
    growth = λ e old.
        subst (HasGrown e (adjacent g) (only_name x) u v) (sym is)
        (subst (λ l. AreHanging e (adjacent g) (only_name x) u v (map plain l)) (sym empty)
        (leaf_alone x (ap (λ b. one_alone b (eqb x v)) (sym left) ∙ ap (one_alone grown.left) (sym right) ∙ one) e));
  }

  pub other_grown : (x : ℕ) (tree : TreeOf Kind Pair) (grown : Grown) → grown.growth ≡ Whole tree → tree ≡ Leaf x → grown.left ≡ eqb x u → grown.right ≡ eqb x v → one_alone grown.left grown.right ≡ false →
      IsGrownFrom g u v (leaf x) grown
  other_grown x tree grown is made left right one = record {
    left = left ∙ contains_only x u;
    right = right ∙ contains_only x v;
    hanging = ap is_hanging is ∙ sym one;
    growth = λ e old.
        subst (HasGrown e (adjacent g) (only_name x) u v) (sym is)
        (subst (IsTreeOf (adjacent g) (only_name x)) (sym (plain_is_leaf tree x made))
        (built_tree (kinds_of_graphs (undirected old.after)) decide_test (only_name x) (leaf x) refl tt));
  }

  -- ---- the children of a node

  -- a child of a tree of the graph before is one
  pub old_child : (e : ℕ → ℕ → Bool) (k : Kind) (cs : PlainTrees) (ps : List Pair) → IsOld g u v e (node k cs ps) → (c : PlainTree) → IsChild cs c → IsOld g u v e c
  old_child e k cs ps old c i = record {
    adjacency = old.adjacency;
    after = old.after;
    edited = old.edited;
    inside = λ x h. old.inside x (child_inside cs c i x h);
    tree =
        built_tree (kinds_of_graphs (undirected old.adjacency)) decide_test (names c) c refl
        (each_child (IsBuilt e) cs c (tree_built (names_below cs) (node k cs ps) old.tree).1 i);
  }

  some_both : (cs : PlainTrees) → some_holds_both cs u v ≡ true → (d : PlainTree) × IsChild cs d × Has (names d) u × Has (names d) v
  some_both no_tree h = absurd (false≢true h)
  some_both (one_more t ts) h = elim (cases_Bool (holds_both (names t) u v)) [
    | inl both ↦ let has = and_parts (contains (names t) u) (contains (names t) v) both in (t, inl refl, has.0, has.1)
    | inr none ↦
        let d = some_both ts (ap (λ b. b || some_holds_both ts u v) (sym none) ∙ h) in
        (d.0, inr d.1, d.2, d.3)
  ]

  not_both : (cs : PlainTrees) → some_holds_both cs u v ≡ false → (c : PlainTree) → IsChild cs c → Has (names c) u → Has (names c) v → ⊥
  not_both no_tree none c i hu hv = absurd i
  not_both (one_more t ts) none c (inl same) hu hv =
      clash (ap (λ b. b || some_holds_both ts u v) (and_from (contains (names t) u) (contains (names t) v) (subst (λ d. Has (names d) u) same hu) (subst (λ d. Has (names d) v) same hv))) none
  not_both (one_more t ts) none c (inr i) hu hv = elim (cases_Bool (holds_both (names t) u v)) [
    | inl both ↦ clash (ap (λ b. b || some_holds_both ts u v) both) none
    | inr fails ↦ not_both ts (ap (λ b. b || some_holds_both ts u v) (sym fails) ∙ none) c i hu hv
  ]

  -- two children with a name in common are one
  same_child : (cs : PlainTrees) → AreDisjoint cs → (c d : PlainTree) (x : ℕ) → IsChild cs c → IsChild cs d → Has (names c) x → Has (names d) x → c ≡ d
  same_child no_tree apart c d x i j hc hd = absurd i
  same_child (one_more t ts) apart c d x (inl a) (inl b) hc hd = a ∙ sym b
  same_child (one_more t ts) apart c d x (inl a) (inr j) hc hd = clash (child_inside ts d j x hd) (apart.0 x (subst (λ w. Has (names w) x) a hc))
  same_child (one_more t ts) apart c d x (inr i) (inl b) hc hd = clash (child_inside ts c i x hc) (apart.0 x (subst (λ w. Has (names w) x) b hd))
  same_child (one_more t ts) apart c d x (inr i) (inr j) hc hd = same_child ts apart.1 c d x i j hc hd

  not_false : (b : Bool) → not b ≡ false → b ≡ true
  not_false true h = refl
  not_false false h = sym h

  alone_true : (b : Bool) → one_alone b true ≡ false → b ≡ true
  alone_true true h = refl
  alone_true false h = sym h

  -- where a node holds one end if it holds the other, and a child holds both if the node does, each child holds one if it holds the other
  none_alone : (cs : PlainTrees) → AreDisjoint cs → one_alone (contains (names_below cs) u) (contains (names_below cs) v) ≡ false → have_apart cs u v ≡ false →
      (c : PlainTree) → IsChild cs c → one_alone (contains (names c) u) (contains (names c) v) ≡ false
  none_alone cs apart none together c i = elim (cases_Bool (contains (names c) u)) [
    | inl hu ↦
        let bu : Has (names_below cs) u = child_inside cs c i u hu in
        let bv : Has (names_below cs) v = not_false (contains (names_below cs) v) (ap (λ b. one_alone b (contains (names_below cs) v)) (sym bu) ∙ none) in
        let d = both_in bu bv in
        let hv : Has (names c) v = subst (λ w. Has (names w) v) (same_child cs apart d.0 c u d.1 i d.2 hu) d.3 in
        ap (λ b. one_alone b (contains (names c) v)) hu ∙ ap not hv
    | inr lu ↦ elim (cases_Bool (contains (names c) v)) [
      | inr lv ↦ ap (λ b. one_alone b (contains (names c) v)) lu ∙ lv
      | inl hv ↦
          let bv : Has (names_below cs) v = child_inside cs c i v hv in
          let bu : Has (names_below cs) u = alone_true (contains (names_below cs) u) (ap (one_alone (contains (names_below cs) u)) (sym bv) ∙ none) in
          let d = both_in bu bv in
          clash (subst (λ w. Has (names w) u) (same_child cs apart d.0 c v d.1 i d.3 hv) d.2) lu
    ]
  ] where
    both_in : Has (names_below cs) u → Has (names_below cs) v → (d : PlainTree) × IsChild cs d × Has (names d) u × Has (names d) v
    both_in bu bv = elim (cases_Bool (some_holds_both cs u v)) [
      | inl some ↦ some_both cs some
      | inr nobody ↦
          clash (and_from (holds_both (names_below cs) u v) (not (some_holds_both cs u v)) (and_from (contains (names_below cs) u) (contains (names_below cs) v) bu bv) (ap not nobody)) together
    ]

  -- ---- a node over the trees of its children

  whole_is : (growth : Growth) (e f : ℕ → ℕ → Bool) (s : NameSet) → is_hanging growth ≡ false → HasGrown e f s u v growth →
      (t : PlainTree) × IsTreeOf f s t × ((us : List PlainTree) → added_to us growth ≡ us ++ t ∷ [])
  whole_is (Whole t) e f s none is = (plain t, is, λ us. refl)
  whole_is (Hanging ts) e f s none is = absurd (false≢true (sym none))

  trees_grown : (e : ℕ → ℕ → Bool) (ts : PlainTrees) (xs : List Grown) → ((c : PlainTree) → IsChild ts c → IsOld g u v e c) →
      ((c : PlainTree) → IsChild ts c → one_alone (contains (names c) u) (contains (names c) v) ≡ false) → AreGrownFrom g u v (listed ts) xs →
      (gs : List PlainTree) × AreTrees (adjacent g) ts gs × ((us : List PlainTree) → gathered us xs ≡ us ++ gs)
  trees_grown e no_tree [] old none are = ([], tt, λ us. sym (append-nil us))
  trees_grown e no_tree (x ∷ xs) old none are = absurd are
  trees_grown e (one_more t ts) [] old none are = absurd are
  trees_grown e (one_more t ts) (x ∷ xs) old none are =
      let flags : is_hanging x.growth ≡ false =
      are.0.hanging ∙ ap (λ b. one_alone b x.right) are.0.left ∙ ap (one_alone (contains (names t) u)) are.0.right ∙ none t (inl refl) in
      let first = whole_is x.growth e (adjacent g) (names t) flags (are.0.growth e (old t (inl refl))) in
      let rest = trees_grown e ts xs (λ c i. old c (inr i)) (λ c i. none c (inr i)) are.1 in (
        first.0 ∷ rest.0,
        ((tree_names (names t) first.0 first.1, tree_built (names t) first.0 first.1), rest.1),
        λ us. ap (λ l. gathered l xs) (first.2 us) ∙ rest.2 (us ++ first.0 ∷ []) ∙ append_assoc us (first.0 ∷ []) rest.0,
      )

  -- the graphs agree off a child
  agreed : (e : ℕ → ℕ → Bool) (k : Kind) (cs : PlainTrees) (ps : List Pair) → IsOld g u v e (node k cs ps) → EachNode (IsBuilt e) (node k cs ps) → have_apart cs u v ≡ false →
      (d : PlainTree) × IsChild cs d × AgreeOff e (adjacent g) (names_below cs) (names d)
  agreed e k cs ps old each none = elim (cases_Bool (some_holds_both cs u v)) [
    | inl some ↦
        let d = some_both cs some in (
          d.0,
          d.1,
          λ a b ha hb l. old.edited a b (λ same. clash (subst (Has (names d.0)) (sym same.0) d.2) l) (λ same. clash (subst (Has (names d.0)) (sym same.0) d.3) l),
        )
    | inr nobody ↦
        let two : HasTwo (names_below cs) = two_of_kind e (names_below cs) k each.0.node_of.kind in
        let d : (d : PlainTree) × IsChild cs d × Has (names d) two.0 = child_of_name cs two.0 two.2 in
        let not_both : Has (names_below cs) u → Has (names_below cs) v → ⊥ =
        λ hu hv. clash (and_from (holds_both (names_below cs) u v) (not (some_holds_both cs u v)) (and_from (contains (names_below cs) u) (contains (names_below cs) v) hu hv) (ap not nobody)) none in (
          d.0,
          d.1,
          λ a b ha hb l. old.edited a b
              (λ same. not_both (subst (Has (names_below cs)) same.0 ha) (subst (Has (names_below cs)) same.1 hb))
              (λ same. not_both (subst (Has (names_below cs)) same.1 hb) (subst (Has (names_below cs)) same.0 ha)),
        )
  ]

  -- ---- the trees that hang below a node

  -- the trees that have grown
  abbrev grown_trees : Growth → List PlainTree
  grown_trees (Whole t) = plain t ∷ []
  grown_trees (Hanging ts) = map plain ts.items

  of_added : (us : List PlainTree) (growth : Growth) (t : PlainTree) → In (added_to us growth) t → In us t ⊎ In (grown_trees growth) t
  of_added us (Whole w) t i = of_append us (plain w ∷ []) t i
  of_added us (Hanging ts) t i = elim (of_append (map plain ts.items) us t i) [ inl j ↦ inr j | inr j ↦ inl j ]

  in_added : (us : List PlainTree) (growth : Growth) (t : PlainTree) → In us t ⊎ In (grown_trees growth) t → In (added_to us growth) t
  in_added us (Whole w) t (inl i) = in_left us (plain w ∷ []) t i
  in_added us (Whole w) t (inr i) = in_right us (plain w ∷ []) t i
  in_added us (Hanging ts) t (inl i) = in_right (map plain ts.items) us t i
  in_added us (Hanging ts) t (inr i) = in_left (map plain ts.items) us t i

  sum_added : (y : ℕ) (us : List PlainTree) (growth : Growth) → sum_by (one_if y) (added_to us growth) ≡ sum_by (one_if y) us + sum_by (one_if y) (grown_trees growth)
  sum_added y us (Whole w) = sum_by-append (one_if y) us (plain w ∷ [])
  sum_added y us (Hanging ts) = let both = sum_by-append (one_if y) (map plain ts.items) us in omega arith

  -- what has grown of a node that doesn't hold both ends hangs
  hangs_of : (e f : ℕ → ℕ → Bool) (s : NameSet) (growth : Growth) (l r : Bool) → is_hanging growth ≡ one_alone l r → l ≡ contains s u → r ≡ contains s v → (Has s u → Has s v → ⊥) → HasSome s →
      HasGrown e f s u v growth → AreHanging e f s u v (grown_trees growth)
  hangs_of e f s (Hanging ts) l r told left right both some is = is
  hangs_of e f s (Whole w) l r told left right both some is =
      let same : names (plain w) ≡ s = tree_names s (plain w) is in
      let none : one_alone (contains s u) (contains s v) ≡ false = sym (told ∙ ap (λ b. one_alone b r) left ∙ ap (one_alone (contains s u)) right) in
      let off_u : Lacks s u = false_from_ne_true _ (λ h. both h (not_false (contains s v) (ap (λ b. one_alone b (contains s v)) (sym h) ∙ none))) in
      let off_v : Lacks s v = ap (λ b. one_alone b (contains s v)) (sym off_u) ∙ none in
      record {
        apart = ((λ x h. empty_lacks x), tt);
        others = λ x. (
          (λ h. elim (of_union (names (plain w)) empty x h) [
            | inr i ↦ clash i (empty_lacks x)
            | inl i ↦
                let hx : Has s x = Has-along (names (plain w)) s same x i in
                (hx, λ e. clash hx (subst (Lacks s) (sym e) off_u), λ e. clash hx (subst (Lacks s) (sym e) off_v))
          ]),
          λ h. union_left (names (plain w)) empty x (Has-along s (names (plain w)) (sym same) x h.0),
        );
        trees = λ t i.
            let one : t ≡ plain w = only_in (plain w) t (of_contains (plain w ∷ []) t i) in
            subst (λ z. IsModule e s (names z) × IsTreeOf f (names z) z) (sym one)
            (subst (IsModule e s) (sym same) (whole_module s some), subst (λ m. IsTreeOf f m (plain w)) (sym same) is);
      }

  -- of each tree the list at its place hangs
  abbrev AreHungFrom : (ℕ → ℕ → Bool) → List PlainTree → List Grown → Type 0
  AreHungFrom e [] [] = ⊤
  AreHungFrom e [] (x ∷ xs) = ⊥
  AreHungFrom e (t ∷ ts) [] = ⊥
  AreHungFrom e (t ∷ ts) (x ∷ xs) = AreHanging e (adjacent g) (names t) u v (grown_trees x.growth) × AreHungFrom e ts xs

  hung_of : (e : ℕ → ℕ → Bool) (cs : PlainTrees) (xs : List Grown) → ((c : PlainTree) → IsChild cs c → IsOld g u v e c × (Has (names c) u → Has (names c) v → ⊥)) → AreGrownFrom g u v (listed cs) xs →
      AreHungFrom e (listed cs) xs
  hung_of e no_tree [] each are = tt
  hung_of e no_tree (x ∷ xs) each are = absurd are
  hung_of e (one_more t ts) [] each are = absurd are
  hung_of e (one_more t ts) (x ∷ xs) each are =
      let here = each t (inl refl) in
      let some : HasSome (names t) = (head t, (head_least e t (tree_built (names t) t here.0.tree)).member) in (
        hangs_of e (adjacent g) (names t) x.growth x.left x.right are.0.hanging are.0.left are.0.right here.1 some (are.0.growth e here.0),
        hung_of e ts xs (λ c i. each c (inr i)) are.1,
      )

  module _ (e : ℕ → ℕ → Bool) where
    of_gathered : (ts us : List PlainTree) (xs : List Grown) → AreHungFrom e ts xs → (t : PlainTree) → In (gathered us xs) t →
        In us t ⊎ ((c : PlainTree) × (hs : List PlainTree) × In ts c × AreHanging e (adjacent g) (names c) u v hs × In hs t)
    of_gathered [] us [] are t i = inl i
    of_gathered [] us (x ∷ xs) are t i = absurd are
    of_gathered (c ∷ ts) us [] are t i = absurd are
    of_gathered (c ∷ ts) us (x ∷ xs) are t i = elim (of_gathered ts (added_to us x.growth) xs are.1 t i) [
      | inl j ↦ elim (of_added us x.growth t j) [
        | inl l ↦ inl l
        | inr l ↦ inr (c, grown_trees x.growth, inl refl, are.0, l)
      ]
      | inr w ↦ inr (w.0, w.1, inr w.2, w.3, w.4)
    ]

    in_kept : (xs : List Grown) (us : List PlainTree) (t : PlainTree) → In us t → In (gathered us xs) t
    in_kept [] us t i = i
    in_kept (x ∷ xs) us t i = in_kept xs (added_to us x.growth) t (in_added us x.growth t (inl i))

    in_gathered : (ts us : List PlainTree) (xs : List Grown) → AreHungFrom e ts xs → (c : PlainTree) → In ts c →
        (hs : List PlainTree) × AreHanging e (adjacent g) (names c) u v hs × ((t : PlainTree) → In hs t → In (gathered us xs) t)
    in_gathered [] us xs are c i = absurd i
    in_gathered (w ∷ ts) us [] are c i = absurd are
    in_gathered (w ∷ ts) us (x ∷ xs) are c (inl same) = (
      grown_trees x.growth,
      subst (λ d. AreHanging e (adjacent g) (names d) u v (grown_trees x.growth)) (sym same) are.0,
      λ t i. in_kept xs (added_to us x.growth) t (in_added us x.growth t (inr i)),
    )
    in_gathered (w ∷ ts) us (x ∷ xs) are c (inr i) = in_gathered ts (added_to us x.growth) xs are.1 c i

    few_hanging : (y : ℕ) (c : PlainTree) (hs : List PlainTree) → AreHanging e (adjacent g) (names c) u v hs → sum_by (one_if y) hs ≤ one_if y c
    few_hanging y c hs are = elim (cases_Bool (contains (names c) y)) [
      | inl h ↦ let one = one_has y c h in let low = apart_once hs are.apart y in omega arith
      | inr l ↦ let none = row_lacks hs y (λ h. clash ((are.others y).0 h).0 l) in omega arith
    ]

    few_gathered : (y : ℕ) (ts us : List PlainTree) (xs : List Grown) → AreHungFrom e ts xs → sum_by (one_if y) (gathered us xs) ≤ sum_by (one_if y) us + sum_by (one_if y) ts
    few_gathered y [] us [] are = omega arith
    few_gathered y [] us (x ∷ xs) are = absurd are
    few_gathered y (c ∷ ts) us [] are = absurd are
    few_gathered y (c ∷ ts) us (x ∷ xs) are =
        let all = sum_by-cons (one_if y) c ts in
        let more = sum_added y us x.growth in
        let here = few_hanging y c (grown_trees x.growth) are.0 in
        let rest = few_gathered y ts (added_to us x.growth) xs are.1 in
        omega arith

    -- what has grown of the children hangs below the node
    node_hangs : (k : Kind) (cs : PlainTrees) (ps : List Pair) (xs : List Grown) → IsOld g u v e (node k cs ps) → AreHungFrom e (listed cs) xs →
        AreHanging e (adjacent g) (names_below cs) u v (gathered [] xs)
    node_hangs k cs ps xs old are = record {
      apart = once_apart (gathered [] xs) (λ y.
          let few = few_gathered y (listed cs) [] xs are in
          let low = apart_once (listed cs) (subst AreDisjoint (sym (row_listed cs)) apart) y in
          omega arith);
      others = λ x. (to_names x, λ h. of_names x h.0 h.1 h.2);
      trees = λ t i. elim (of_gathered (listed cs) [] xs are t (of_contains (gathered [] xs) t i)) [
        | inl none ↦ absurd none
        | inr w ↦
            let c : IsChild cs w.0 = child_of_listed w.0 w.2 in
            let is = w.3.trees t (to_contains w.1 t w.4) in
            (module_of_module (names_below cs) (names w.0) (names t) (children_maximal k cs ps each.0 w.0 c).is_strong.is_module is.0, is.1)
      ];
    } where
      each : EachNode (IsBuilt e) (node k cs ps)
      each = tree_built (names_below cs) (node k cs ps) old.tree

      apart : AreDisjoint cs
      apart = apart_of (kinds_of_graphs (undirected old.adjacency)) k (names_below cs) cs (children_maximal k cs ps each.0) each.0.node_of.order

      child_of_listed : (c : PlainTree) → In (listed cs) c → IsChild cs c
      child_of_listed c i = subst (λ l. IsChild l c) (row_listed cs) (child_of_in (listed cs) c i)

      to_names : (x : ℕ) → Has (names_below (row (gathered [] xs))) x → Has (names_below cs) x × (x ≢ u) × (x ≢ v)
      to_names x h =
          let t : (t : PlainTree) × IsChild (row (gathered [] xs)) t × Has (names t) x = child_of_name (row (gathered [] xs)) x h in
          elim (of_gathered (listed cs) [] xs are t.0 (in_of_child (gathered [] xs) t.0 t.1)) [
            | inl none ↦ absurd none
            | inr w ↦
                let is = (w.3.others x).0 (child_inside (row w.1) t.0 (child_of_in w.1 t.0 w.4) x t.2) in
                (child_inside cs w.0 (child_of_listed w.0 w.2) x is.0, is.1, is.2)
          ]

      of_names : (x : ℕ) → Has (names_below cs) x → x ≢ u → x ≢ v → Has (names_below (row (gathered [] xs))) x
      of_names x h du dv =
          let c : (c : PlainTree) × IsChild cs c × Has (names c) x = child_of_name cs x h in
          let w = in_gathered (listed cs) [] xs are c.0 (in_of_child (listed cs) c.0 (subst (λ l. IsChild l c.0) (sym (row_listed cs)) c.1)) in
          let t : (t : PlainTree) × IsChild (row w.0) t × Has (names t) x = child_of_name (row w.0) x ((w.1.others x).1 (c.2, du, dv)) in
          child_inside (row (gathered [] xs)) t.0 (child_of_in (gathered [] xs) t.0 (w.2 t.0 (in_of_child w.0 t.0 t.1))) x t.2

  -- ---- a node of the old tree

  module _ (p : PlainTree) (k : Kind) (cs : PlainTrees) (ps : List Pair) (is : p ≡ node k cs ps) (xs : List Grown) (below : AreGrownFrom g u v (below_node p) xs) where
    children : AreGrownFrom g u v (listed cs) xs
    children = subst (λ q. AreGrownFrom g u v (below_node q) xs) is below

    left_is : list_any (λ x. x.left) xs ≡ contains (names p) u
    left_is = any_left (listed cs) xs children ∙ ap (λ ts. contains (names_below ts) u) (row_listed cs) ∙ sym (ap (λ q. contains (names q) u) is)

    right_is : list_any (λ x. x.right) xs ≡ contains (names p) v
    right_is = any_right (listed cs) xs children ∙ ap (λ ts. contains (names_below ts) v) (row_listed cs) ∙ sym (ap (λ q. contains (names q) v) is)

    apart_is : are_apart xs ≡ have_apart cs u v
    apart_is = apart_flags (listed cs) xs children ∙ ap (λ ts. have_apart ts u v) (row_listed cs)

    alone_is : one_alone (list_any (λ x. x.left) xs) (list_any (λ x. x.right) xs) ≡ one_alone (contains (names_below cs) u) (contains (names_below cs) v)
    alone_is =
        ap (λ b. one_alone b (list_any (λ x. x.right) xs)) (left_is ∙ ap (λ q. contains (names q) u) is)
        ∙ ap (one_alone (contains (names_below cs) u)) (right_is ∙ ap (λ q. contains (names q) v) is)

    old_here : (e : ℕ → ℕ → Bool) → IsOld g u v e p → IsOld g u v e (node k cs ps)
    old_here e = subst (IsOld g u v e) is

    -- where no child holds both ends
    hang_here : (e : ℕ → ℕ → Bool) → IsOld g u v e p → ((c : PlainTree) → IsChild cs c → Has (names c) u → Has (names c) v → ⊥) → AreHanging e (adjacent g) (names p) u v (gathered [] xs)
    hang_here e old none =
        let here = old_here e old in
        subst (λ q. AreHanging e (adjacent g) (names q) u v (gathered [] xs)) (sym is)
        (node_hangs e k cs ps xs here (hung_of e cs xs (λ c i. (old_child e k cs ps here c i, none c i)) children))

    apart_none : are_apart xs ≡ true → (c : PlainTree) → IsChild cs c → Has (names c) u → Has (names c) v → ⊥
    apart_none apart = not_both cs (none_if (some_holds_both cs u v) (and_parts (holds_both (names_below cs) u v) (not (some_holds_both cs u v)) (sym apart_is ∙ apart)).1) where
      none_if : (b : Bool) → not b ≡ true → b ≡ false
      none_if true h = sym h
      none_if false h = refl

    alone_none : one_alone (list_any (λ x. x.left) xs) (list_any (λ x. x.right) xs) ≡ true → (c : PlainTree) → IsChild cs c → Has (names c) u → Has (names c) v → ⊥
    alone_none one c i hu hv =
        let a : one_alone true true ≡ true =
        ap (λ b. one_alone b true) (sym (child_inside cs c i u hu)) ∙ ap (one_alone (contains (names_below cs) u)) (sym (child_inside cs c i v hv)) ∙ sym alone_is ∙ one in
        false≢true a

    ends_here : are_apart xs ≡ true → Has (names p) u × Has (names p) v
    ends_here apart =
        let both =
        and_parts (list_any (λ x. x.left) xs) (list_any (λ x. x.right) xs)
        (and_parts (list_any (λ x. x.left) xs && list_any (λ x. x.right) xs) (not (list_any (λ x. x.left && x.right) xs)) apart).0 in
        (sym left_is ∙ both.0, sym right_is ∙ both.1)

    pub apart_steps : (e : ℕ → ℕ → Bool) → IsOld g u v e p → are_apart xs ≡ true → (hs : List PlainTree) → hs ≡ gathered [] xs → len (quotient_names hs u v) ≤ own_steps u v p
    apart_steps e old apart hs made =
        let ends = ends_here apart in
        let few = few_names old.after (names p) u v old.edited ends.0 ends.1 (gathered [] xs) (hang_here e old (apart_none apart)) in
        let all : own_steps u v p ≡ len (names p) =
        ap (own_steps u v) is ∙ ap (λ b. cond b (len (names_below cs)) 0) (sym apart_is ∙ apart) ∙ sym (ap (λ q. len (names q)) is) in
        let same = ap (λ l. len (quotient_names l u v)) made in
        omega arith

    pub node_fresh : (x : Grown) (tree : TreeOf Kind Pair) → x.growth ≡ Whole tree → x.left ≡ list_any (λ y. y.left) xs → x.right ≡ list_any (λ y. y.right) xs → are_apart xs ≡ true →
        (hs : List PlainTree) → hs ≡ gathered [] xs → IsOverQuotient (adjacent g) (intersection g.vertices (quotient_names hs u v)) hs (plain tree) → IsGrownFrom g u v p x
    node_fresh x tree grown l r apart hs made over =
        let ends = ends_here apart in
        record {
          left = l ∙ left_is;
          right = r ∙ right_is;
          hanging =
              ap is_hanging grown
              ∙ sym (ap (λ b. one_alone b x.right) (l ∙ left_is ∙ ends.0) ∙ ap not (r ∙ right_is ∙ ends.1));
          growth = λ e old.
              subst (HasGrown e (adjacent g) (names p) u v) (sym grown)
              (over_vertices old.after (names p) u v old.edited ends.0 ends.1 (gathered [] xs) (hang_here e old (apart_none apart)) g.vertices old.inside (plain tree)
              (subst (λ l. IsOverQuotient (adjacent g) (intersection g.vertices (quotient_names l u v)) l (plain tree)) made over));
        }

    pub node_alone : (x : Grown) (trees : _) → x.growth ≡ Hanging trees → x.left ≡ list_any (λ y. y.left) xs → x.right ≡ list_any (λ y. y.right) xs → one_alone x.left x.right ≡ true →
        map plain trees.items ≡ gathered [] xs → IsGrownFrom g u v p x
    node_alone x trees grown l r one made = record {
      left = l ∙ left_is;
      right = r ∙ right_is;
      hanging = ap is_hanging grown ∙ sym one;
      growth = λ e old.
          subst (HasGrown e (adjacent g) (names p) u v) (sym grown)
          (subst (AreHanging e (adjacent g) (names p) u v) (sym made)
          (hang_here e old (alone_none (ap (λ b. one_alone b (list_any (λ y. y.right) xs)) (sym l) ∙ ap (one_alone x.left) (sym r) ∙ one))));
    }

    pub node_joined : (x : Grown) (tree : TreeOf Kind Pair) → x.growth ≡ Whole tree → x.left ≡ list_any (λ y. y.left) xs → x.right ≡ list_any (λ y. y.right) xs → are_apart xs ≡ false →
        one_alone x.left x.right ≡ false → (hs : List PlainTree) → hs ≡ gathered [] xs → IsJoined k ps hs (plain tree) → IsGrownFrom g u v p x
    node_joined x tree grown l r together one hs made joined = record {
      left = l ∙ left_is;
      right = r ∙ right_is;
      hanging = ap is_hanging grown ∙ sym one;
      growth = λ e old. subst (HasGrown e (adjacent g) (names p) u v) (sym grown) (subst (λ q. IsTreeOf (adjacent g) (names q) (plain tree)) (sym is) (tree_here e (old_here e old)));
    } where
      tree_here : (e : ℕ → ℕ → Bool) → IsOld g u v e (node k cs ps) → IsTreeOf (adjacent g) (names_below cs) (plain tree)
      tree_here e old =
          let each : EachNode (IsBuilt e) (node k cs ps) = tree_built (names_below cs) (node k cs ps) old.tree in
          let apart : AreDisjoint cs = apart_of (kinds_of_graphs (undirected old.adjacency)) k (names_below cs) cs (children_maximal k cs ps each.0) each.0.node_of.order in
          let none : one_alone (contains (names_below cs) u) (contains (names_below cs) v) ≡ false =
          sym alone_is ∙ ap (λ b. one_alone b (list_any (λ y. y.right) xs)) (sym l) ∙ ap (one_alone x.left) (sym r) ∙ one in
          let grown = trees_grown e cs xs (old_child e k cs ps old) (none_alone cs apart none (sym apart_is ∙ together)) children in
          let d : (d : PlainTree) × IsChild cs d × AgreeOff e (adjacent g) (names_below cs) (names d) = agreed e k cs ps old each (sym apart_is ∙ together) in
          let put : IsJoined k ps grown.0 (plain tree) = subst (λ l. IsJoined k ps l (plain tree)) (made ∙ grown.2 []) joined in
          subst (IsTreeOf (adjacent g) (names_below cs)) (sym put.2) (joined_tree old.adjacency old.after k cs ps each grown.0 grown.1 d.0 d.1 d.2 put.0 put.1)

  -- ---- what has grown of trees in a row

  gathered_more : (us : List PlainTree) (xs : List Grown) (x : Grown) → gathered us (xs ++ x ∷ []) ≡ added_to (gathered us xs) x.growth
  gathered_more us [] x = refl
  gathered_more us (y ∷ xs) x = gathered_more (added_to us y.growth) xs x

  any_more : (f : Grown → Bool) (xs : List Grown) (x : Grown) → list_any f (xs ++ x ∷ []) ≡ (list_any f xs || f x)
  any_more f xs x = list_any-append f xs (x ∷ []) ∙ ap (λ b. list_any f xs || b) (or_false (f x))

  pub below_more : (ts : List PlainTree) (t : PlainTree) (old new : Below) (x : Grown) → IsGrownBelow g u v ts old → IsGrownFrom g u v t x → map plain new.list.items ≡ added_to (map plain old.list.items) x.growth →
      new.left ≡ (old.left || x.left) → new.right ≡ (old.right || x.right) → new.both ≡ (old.both || (x.left && x.right)) → IsGrownBelow g u v (ts ++ t ∷ []) new
  below_more ts t old new x is grown more l r b = record {
    grown = is.grown ++ x ∷ [];
    each = grown_more ts is.grown t x is.each grown;
    list = more ∙ ap (λ l. added_to l x.growth) is.list ∙ sym (gathered_more [] is.grown x);
    left = l ∙ ap (λ c. c || x.left) is.left ∙ sym (any_more (λ y. y.left) is.grown x);
    right = r ∙ ap (λ c. c || x.right) is.right ∙ sym (any_more (λ y. y.right) is.grown x);
    both = b ∙ ap (λ c. c || (x.left && x.right)) is.both ∙ sym (any_more (λ y. y.left && y.right) is.grown x);
  }

  pub below_leaf : (ts : List PlainTree) (name : ℕ) (old new : Below) → IsGrownBelow g u v ts old → (eqb name u || eqb name v) ≡ false → new.list.items ≡ old.list.items ++ Leaf name ∷ [] →
      new.left ≡ old.left → new.right ≡ old.right → new.both ≡ old.both → IsGrownBelow g u v (ts ++ leaf name ∷ []) new
  below_leaf ts name old new is other push l r b =
      let no_left : eqb name u ≡ false = (none_of (eqb name u) (eqb name v) other).0 in
      let no_right : eqb name v ≡ false = (none_of (eqb name u) (eqb name v) other).1 in
      let x : Grown = record { growth = Whole (Leaf name); left = false; right = false } in
      below_more ts (leaf name) old new x is
      (other_grown name (Leaf name) x refl refl (sym no_left) (sym no_right) refl)
      (map_one_more plain new.list.items old.list.items (Leaf name) push)
      (l ∙ sym (or_false old.left)) (r ∙ sym (or_false old.right)) (b ∙ sym (or_false old.both))
    where
      none_of : (a b : Bool) → (a || b) ≡ false → (a ≡ false) × (b ≡ false)
      none_of true b h = absurd (false≢true (sym h))
      none_of false b h = (refl, h)

  pub below_apart : (ts : List PlainTree) (below : Below) (is : IsGrownBelow g u v ts below) → ((below.left && below.right) && not below.both) ≡ are_apart is.grown
  below_apart ts below is =
      ap (λ b. (b && below.right) && not below.both) is.left ∙ ap (λ b. (list_any (λ x. x.left) is.grown && b) && not below.both) is.right
      ∙ ap (λ b. (list_any (λ x. x.left) is.grown && list_any (λ x. x.right) is.grown) && not b) is.both
