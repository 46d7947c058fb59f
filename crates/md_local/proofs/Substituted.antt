-- The law of substitution: trees in place of the leaves of the tree of a quotient.
use Rattle.std.proofs.Common.{◌≡◌, ◌≢◌, ℕ, ◌<◌, ◌≤◌, Bool, true, false, List, [], ◌∷◌, refl, sym, ◌∙◌, ap, subst, inl, inr, arith}
use Rattle.std.proofs.lemmas.Bool.{cases_Bool, false_from_ne_true}
use Rattle.std.specs.FinSet.{contains}
use Rattle.std.specs.List.{list_any}
use Rattle.md_graph.specs.Sets.{NameSet, Has, Lacks, HasTwo}
use Rattle.md_graph.specs.Adjacency.{IsAdjacency}
use Rattle.md_graph.proofs.SetLemmas.{clash, empty_lacks, Has-along, same_members}
use Rattle.md_graph.proofs.Search.{decide_test}
use Rattle.md_modules.specs.Modules.{IsModule, IsMaximalStrong, HasTrivialModulesAlone}
use Rattle.md_modules.specs.Kinds.{IsSplit, IsUnsplit}
use Rattle.md_modules.specs.Quotients.{IsModularPartition, class}
use Rattle.md_modules.proofs.Modules.{undirected, whole_module, module_of_module}
use Rattle.md_modules.proofs.Components.{child_component, prime_unsplit, unsplit_prime}
use Rattle.md_modules.proofs.Splits.{child_unsplit}
use Rattle.md_modules.proofs.Strong.{child_leaves}
use Rattle.md_modules.proofs.Quotients.{lifted, lifted_module, across_classes, not_same_in}
use Rattle.md_tree.specs.declared.Kind.{Kind}
use Rattle.md_tree.specs.declared.Kind.TheVariants.{Parallel, Series, Prime}
use Rattle.md_tree.specs.declared.Pair.{Pair}
use Rattle.md_tree.specs.Trees.{PlainTree, leaf, node, PlainTrees, no_tree, one_more, names, names_below, names_at, count, row, EachNode, EachNodeBelow}
use Rattle.md_tree.specs.Heads.{head, head_at, heads, HeadsAlong, AreChildModules, AreStrongChildren}
use Rattle.md_tree.specs.Held.{IsLeast}
use Rattle.md_tree.specs.Laws.{AreToldByHeads}
use Rattle.md_tree.specs.Parts.{below_node}
use Rattle.md_tree.specs.StrongTrees.{HasKind, IsInOrder, AreTreesJoined, ListsJoined, HasPairs, IsTreeOf}
use Rattle.md_tree.specs.WellFormed.{AreDisjoint, HasShape}
use Rattle.md_tree.proofs.Nodes.{IsChild, child_inside, child_of_name, each_child, at_apart}
use Rattle.md_tree.proofs.Built.{IsBuilt, children_maximal, tree_names, tree_built}
use Rattle.md_tree.proofs.Kinded.{apart_of, built_tree}
use Rattle.md_tree.proofs.GraphKinds.{two_of_kind, kinds_of_graphs}
use Rattle.md_tree.proofs.Canonical.{canonical_of}
use Rattle.md_tree.proofs.Heads.{child_here}
use Rattle.md_tree.proofs.Fitted.{told_by_heads, by_positions, by_trees, modules_below}
use Rattle.md_local.specs.Growing.{is_merged, in_place_of, AreOrdered}
use Rattle.md_local.specs.Substitution.{IsSubstituted, AreSubstituted, TreesAreSubstituted}
use Rattle.md_local.proofs.Ordering.{child_of_in, in_of_child, head_least, place_merged, place_kept, none_merged, places_apart, in_order, names_below_node}
use Rattle.md_local.proofs.Joining.{AreTreesOver, child_of_tree, in_us, of_us, prime_keeps, each_row, only_in, each_below, apart_below, colour, kind_of, split_kind, split_below, merged_if, merged_children}
use Rattle.md_local.proofs.Lifted.{of_lift, lift_has, lift_own, lift_whole, lift_only, lifted_below, lifted_apart, lifted_count, lifted_at, own_at, lifted_order, lifted_heads}
use Rattle.md_text.proofs.Lists.{In}

module _ {f : ℕ → ℕ → Bool} (af : IsAdjacency f) where
  -- a name of a child of a set that splits, and one of the set outside the child
  split_across : (m c part : NameSet) (v : Bool) → IsSplit f m part v → IsMaximalStrong f m c → (a b : ℕ) → Has c a → Has m b → Lacks c b → f a b ≡ v
  split_across m c part v split child a b ha hb l = (child_component (undirected af) decide_test m c part v a refl split child ha).closed.across a b ha hb l

  heads_own : (ts : PlainTrees) → ((t : PlainTree) → IsChild ts t → EachNode (IsBuilt f) t) → (i : ℕ) → i < count ts → Has (names_at ts i) (head_at ts i)
  heads_own ts built i l =
      let c = child_here ts i l in
      subst (Has (names_at ts i)) (sym c.3) (Has-along (names c.0) (names_at ts i) (sym c.2) (head c.0) (head_least f c.0 (built c.0 c.1)).member)

  -- ---- what stands in place of a tree below a node of kind k

  module _ (k : Kind) (g : PlainTree) (built : EachNode (IsBuilt f) g) where
    merged_max : is_merged k g ≡ true → (t : PlainTree) → In (in_place_of k g) t → IsMaximalStrong f (names g) (names t)
    merged_max holds t i = (merged_children f k g built holds (names t)).1 (t, child_of_in (below_node g) t (subst (λ l. In l t) (place_merged k g holds) i), refl)

    kept_is : is_merged k g ≡ false → (t : PlainTree) → In (in_place_of k g) t → t ≡ g
    kept_is fails t i = only_in g t (subst (λ l. In l t) (place_kept k g fails) i)

    pub place_built : (t : PlainTree) → In (in_place_of k g) t → EachNode (IsBuilt f) t
    place_built t i = elim (cases_Bool (is_merged k g)) [
      | inl holds ↦ each_below (IsBuilt f) g t built (subst (λ l. In l t) (place_merged k g holds) i)
      | inr fails ↦ subst (EachNode (IsBuilt f)) (sym (kept_is fails t i)) built
    ]

    pub place_module : (t : PlainTree) → In (in_place_of k g) t → IsModule f (names g) (names t)
    place_module t i = elim (cases_Bool (is_merged k g)) [
      | inl holds ↦ (merged_max holds t i).is_strong.is_module
      | inr fails ↦ subst (λ u. IsModule f (names g) (names u)) (sym (kept_is fails t i)) (whole_module (names g) (head g, (head_least f g built).member))
    ]

    pub place_of_name : (x : ℕ) → Has (names g) x → (t : PlainTree) × In (in_place_of k g) t × Has (names t) x
    place_of_name x h = elim (cases_Bool (is_merged k g)) [
      | inl holds ↦
          let c : (c : PlainTree) × IsChild (row (below_node g)) c × Has (names c) x =
          child_of_name (row (below_node g)) x (Has-along (names g) (names_below (row (below_node g))) (sym (names_below_node k g holds)) x h) in
          (c.0, subst (λ l. In l c.0) (sym (place_merged k g holds)) (in_of_child (below_node g) c.0 c.1), c.2)
      | inr fails ↦ (g, subst (λ l. In l g) (sym (place_kept k g fails)) (inl refl), h)
    ]

    pub place_across : (t : PlainTree) → In (in_place_of k g) t → (a b : ℕ) → Has (names t) a → Has (names g) b → Lacks (names t) b → f a b ≡ colour k
    place_across t i a b ha hb l = elim (cases_Bool (is_merged k g)) [
      | inl holds ↦
          let split : (part : NameSet) × IsSplit f (names g) part (colour k) = split_below f k g built holds in
          split_across (names g) (names t) split.0 (colour k) split.1 (merged_max holds t i) a b ha hb l
      | inr fails ↦ clash (subst (λ u. Has (names u) b) (sym (kept_is fails t i)) hb) l
    ]

    pub place_unsplit : (v : Bool) → k ≡ kind_of v → colour k ≡ v → (t : PlainTree) → In (in_place_of k g) t → (part : NameSet) → IsSplit f (names t) part v → ⊥
    place_unsplit v same own t i part split = elim (cases_Bool (is_merged k g)) [
      | inl holds ↦
          let whole : (a : NameSet) × IsSplit f (names g) a (colour k) = split_below f k g built holds in
          child_unsplit (undirected af) decide_test (names g) (names t) whole.0 v (subst (IsSplit f (names g) whole.0) own whole.1) (merged_max holds t i) part split
      | inr fails ↦
          let here : HasKind f (names g) (kind_of v) = split_kind f (names g) part v (subst (λ u. IsSplit f (names u) part v) (kept_is fails t i) split) in
          clash (merged_if af k g v built same here) fails
    ]

-- ---- the node

module _ {f : ℕ → ℕ → Bool} (af : IsAdjacency f) (s r : NameSet) (rep : ℕ → ℕ) (part : IsModularPartition f s r rep) (least : (x : ℕ) → Has r x → IsLeast (class s rep x) x) where
  module _ (k : Kind) (cs : PlainTrees) (ps : List Pair) (each : EachNode (IsBuilt f) (node k cs ps)) (here : IsModule f r (names_below cs))
      (gs : List PlainTree) (trees : AreTreesOver f (lifted s rep) cs gs) (us : List PlainTree) (ordered : AreOrdered k gs us) where
    abbrev n : NameSet
    n = names_below cs

    maximal : (c : PlainTree) → IsChild cs c → IsMaximalStrong f n (names c)
    maximal = children_maximal k cs ps each.0

    apart : AreDisjoint cs
    apart = apart_of (kinds_of_graphs (undirected af)) k n cs maximal each.0.node_of.order

    -- where a tree comes from
    record IsFrom (t : PlainTree) : Type 0 where
      child : PlainTree
      grown : PlainTree
      is_child : IsChild cs child
      same : names grown ≡ lifted s rep (names child)
      built : EachNode (IsBuilt f) grown
      place : In (in_place_of k grown) t

    from : (t : PlainTree) → In us t → IsFrom t
    from t i =
        let g : (g : PlainTree) × In gs g × In (in_place_of k g) t = of_us k gs us ordered t i in
        let c : (c : PlainTree) × IsChild cs c × (names g.0 ≡ lifted s rep (names c)) × EachNode (IsBuilt f) g.0 = child_of_tree f (lifted s rep) cs gs trees g.0 g.1 in
        record { child = c.0; grown = g.0; is_child = c.1; same = c.2; built = c.3; place = g.2 }

    built_us : (t : PlainTree) → In us t → EachNode (IsBuilt f) t
    built_us t i = let w = from t i in place_built af k w.grown w.built t w.place

    module_us : (t : PlainTree) → In us t → IsModule f s (names t)
    module_us t i =
        let w = from t i in
        let below : IsModule f r (names w.child) = module_of_module r n (names w.child) here (maximal w.child w.is_child).is_strong.is_module in
        let whole : IsModule f s (names w.grown) = subst (IsModule f s) (sym w.same) (lifted_module (undirected af) s r rep part (names w.child) below) in
        module_of_module s (names w.grown) (names t) whole (place_module af k w.grown w.built t w.place)

    -- the names of a tree are names that its child leads to
    of_name : (t : PlainTree) (i : In us t) (x : ℕ) → Has (names t) x → Has s x × Has (names (from t i).child) (rep x)
    of_name t i x h =
        let w = from t i in
        of_lift f s r rep part (names w.child) x (Has-along (names w.grown) (lifted s rep (names w.child)) w.same x ((place_module af k w.grown w.built t w.place).inside x h))

    names_us : names_below (row us) ≡ lifted s rep n
    names_us = same_members (names_below (row us)) (lifted s rep n)
        (λ x h.
        let c : (c : PlainTree) × IsChild (row us) c × Has (names c) x = child_of_name (row us) x h in
        let i : In us c.0 = in_of_child us c.0 c.1 in
        let o = of_name c.0 i x c.2 in
        lift_has f s r rep part n x o.0 (child_inside cs (from c.0 i).child (from c.0 i).is_child (rep x) o.1))
        (λ x h.
        let g : (g : PlainTree) × IsChild (row gs) g × Has (names g) x =
        child_of_name (row gs) x (Has-along (lifted s rep n) (names_below (row gs)) (sym (lifted_below f s r rep part cs gs trees)) x h) in
        let j : In gs g.0 = in_of_child gs g.0 g.1 in
        let t : (t : PlainTree) × In (in_place_of k g.0) t × Has (names t) x =
        place_of_name af k g.0 (child_of_tree f (lifted s rep) cs gs trees g.0 j).3 x g.2 in
        child_inside (row us) t.0 (child_of_in us t.0 (in_us k gs us ordered g.0 t.0 j t.1)) x t.2)

    apart_us : AreDisjoint (row us)
    apart_us =
        places_apart k gs us (lifted_apart f s r rep part cs gs trees apart)
        (λ g i. apart_below af g (child_of_tree f (lifted s rep) cs gs trees g i).3) ordered.moved

    order_us : IsInOrder (row us)
    order_us = elim (cases_Bool (list_any (is_merged k) gs)) [
      | inl holds ↦ in_order us (ordered.rising holds) apart_us (λ t i. head_least f t (built_us t i))
      | inr fails ↦ subst (λ l. IsInOrder (row l)) (sym (ordered.kept fails ∙ none_merged k gs fails))
          (lifted_order f s r rep part least cs gs trees here.inside each.0.node_of.order)
    ]

    modules_us : AreChildModules f (row us)
    modules_us =
        modules_below s (row us) apart_us (heads_own af (row us) (λ t i. built_us t (in_of_child us t i)))
        (λ x h. (of_lift f s r rep part n x (Has-along (names_below (row us)) (lifted s rep n) names_us x h)).0)
        (λ t i. module_us t (in_of_child us t i))

    told_us : AreToldByHeads f (row us)
    told_us = told_by_heads (undirected af) (row us) modules_us decide_test

    -- a name outside the child that a tree comes from
    outside : (t : PlainTree) (i : In us t) → (x : ℕ) × Has (lifted s rep n) x × Lacks (names t) x
    outside t i =
        let w = from t i in
        let x : (x : ℕ) × Has n x × Lacks (names w.child) x = child_leaves n (names w.child) (maximal w.child w.is_child) in (
          x.0,
          lift_own f s r rep part n here.inside x.0 x.1,
          false_from_ne_true _ (λ h. clash (subst (Has (names w.child)) (part.own x.0 (here.inside x.0 x.1)) (of_name t i x.0 h).1) x.2),
        )

    two_of : (ts : List PlainTree) → us ≡ ts → HasTwo n → 2 ≤ count (row ts)
    two_of [] same two =
        clash (Has-along (lifted s rep n) (names_below {K = Kind} {P = Pair} no_tree) (sym names_us ∙ ap (λ (l : List PlainTree). names_below (row l)) same) two.0 (lift_own f s r rep part n here.inside two.0 two.2)) (empty_lacks two.0)
    two_of (t ∷ []) same two =
        let x = outside t (subst (λ l. In l t) (sym same) (inl refl)) in
        let c : (c : PlainTree) × IsChild (row (t ∷ [])) c × Has (names c) x.0 =
        child_of_name (row (t ∷ [])) x.0 (Has-along (lifted s rep n) (names_below (row (t ∷ []))) (sym names_us ∙ ap (λ (l : List PlainTree). names_below (row l)) same) x.0 x.1) in
        clash (subst (λ u. Has (names u) x.0) (only_in t c.0 (in_of_child (t ∷ []) c.0 c.1)) c.2) x.2
    two_of (t ∷ u ∷ ts) same two = let b : 2 ≤ count (row (t ∷ u ∷ ts)) = omega arith in b

    -- ---- a node that splits

    module _ (v : Bool) (same : k ≡ kind_of v) (own : colour k ≡ v) (a : NameSet) (split : IsSplit f n a v) where
      across_us : (t u : PlainTree) → In us t → In us u → (x y : ℕ) → Has (names t) x → Has (names u) y → Lacks (names t) y → f x y ≡ v
      across_us t u i j x y hx hy l =
          let w = from t i in
          let p = of_name t i x hx in
          let q = of_name u j y hy in
          elim (cases_Bool (contains (names w.child) (rep y))) [
            | inl inside ↦
                place_across af k w.grown w.built t w.place x y hx
                (Has-along (lifted s rep (names w.child)) (names w.grown) (sym w.same) y (lift_has f s r rep part (names w.child) y q.0 inside)) l ∙ own
            | inr off ↦
                across_classes (undirected af) s r rep part x y p.0 q.0 (not_same_in (names w.child) (rep x) (rep y) p.1 off)
                ∙ split_across af n (names w.child) a v split (maximal w.child w.is_child) (rep x) (rep y) p.1
                (child_inside cs (from u j).child (from u j).is_child (rep y) q.1) off
          ]

      along_us : HeadsAlong f (row us) v
      along_us i j less below =
          let first = child_here (row us) i (omega arith) in
          let second = child_here (row us) j below in
          let x : Has (names first.0) (head first.0) = (head_least f first.0 (built_us first.0 (in_of_child us first.0 first.1))).member in
          let y : Has (names second.0) (head second.0) = (head_least f second.0 (built_us second.0 (in_of_child us second.0 second.1))).member in
          let off : Lacks (names first.0) (head second.0) =
          false_from_ne_true _ (λ h. clash y (at_apart (row us) apart_us i j less (names first.0) (names second.0) first.2 second.2 (head second.0) h)) in
          ap (λ z. f z (head_at (row us) j)) first.3 ∙ ap (f (head first.0)) second.3
          ∙ across_us first.0 second.0 (in_of_child us first.0 first.1) (in_of_child us second.0 second.1) (head first.0) (head second.0) x y off

      unsplit_us : (i : ℕ) (b : NameSet) → i < count (row us) → IsSplit f (names_at (row us) i) b v → ⊥
      unsplit_us i b below is =
          let c = child_here (row us) i below in
          let w = from c.0 (in_of_child us c.0 c.1) in
          place_unsplit af k w.grown w.built v same own c.0 w.place b (subst (λ m. IsSplit f m b v) c.2 is)

      pub split_us : HasTwo n → ((b : NameSet) × IsSplit f (names_below (row us)) b v) × AreStrongChildren f (row us)
      split_us two = told_us.split v (two_of us refl two) along_us unsplit_us

    -- ---- a prime node

    module _ (prime : HasKind f n Prime) (same : k ≡ Prime) where
      kept : us ≡ gs
      kept = ordered.kept none ∙ none_merged k gs none where
        none : list_any (is_merged k) gs ≡ false
        none = subst (λ l. list_any (is_merged l) gs ≡ false) (sym same) (prime_keeps gs)

      told_cs : AreToldByHeads f cs
      told_cs =
          told_by_heads (undirected af) cs
          (modules_below n cs apart (heads_own af cs (λ c i. each_child (IsBuilt f) cs c each.1 i)) (λ x h. h) (λ c i. (maximal c i).is_strong.is_module)) decide_test

      trivial_us : HasTrivialModulesAlone f (heads (row us))
      trivial_us =
          subst (HasTrivialModulesAlone f) (sym (ap (λ l. heads (row l)) kept ∙ lifted_heads f s r rep part least cs gs trees here.inside each.1))
          (told_cs.trivial (prime_unsplit n prime) (by_positions cs each.0.children))

      pub prime_us : 3 ≤ count cs → IsUnsplit f (names_below (row us)) × AreStrongChildren f (row us)
      prime_us many =
          told_us.unsplit (let c = ap (λ l. count (row l)) kept ∙ lifted_count f s r rep part cs gs trees in omega arith) trivial_us

      -- the pairs are the same
      pub pairs_us : ListsJoined f cs ps → ListsJoined f (row us) ps
      pairs_us lists = subst (λ l. ListsJoined f (row l) ps) (sym kept) (record {
        ascending = lists.ascending;
        exactly = λ p. (
          (λ i. joined_to p.low p.high ((lists.exactly p).0 i)),
          λ is. (lists.exactly p).1 (joined_from p.low p.high is),
        );
      }) where
        joined_to : (i j : ℕ) → AreTreesJoined f cs i j → AreTreesJoined f (row gs) i j
        joined_to i j is = record {
          ordered = is.ordered;
          edge = (
            is.edge.0,
            is.edge.1,
            own_at f s r rep part cs gs trees here.inside i is.edge.0 is.edge.2,
            own_at f s r rep part cs gs trees here.inside j is.edge.1 is.edge.3,
            is.edge.4,
          );
        }

        joined_from : (i j : ℕ) → AreTreesJoined f (row gs) i j → AreTreesJoined f cs i j
        joined_from i j is =
            let p = lifted_at f s r rep part cs gs trees i is.edge.0 is.edge.2 in
            let q = lifted_at f s r rep part cs gs trees j is.edge.1 is.edge.3 in
            let differ : rep is.edge.0 ≢ rep is.edge.1 =
            λ e. clash q.1 (at_apart cs apart i j is.ordered (names_at cs i) (names_at cs j) refl refl (rep is.edge.1) (subst (Has (names_at cs i)) e p.1)) in
            record {
              ordered = is.ordered;
              edge = (
                rep is.edge.0,
                rep is.edge.1,
                p.1,
                q.1,
                sym (across_classes (undirected af) s r rep part is.edge.0 is.edge.1 p.0 q.0 differ) ∙ is.edge.4,
              );
            }

    built_node : HasKind f (names_below (row us)) k → AreStrongChildren f (row us) → HasPairs f k (row us) ps → EachNode (IsBuilt f) (node k (row us) ps)
    built_node kind children pairs = (
      record { node_of = record { kind = kind; order = order_us; pairs = pairs }; children = by_trees (row us) children },
      each_row (IsBuilt f) us built_us,
    )

    two : HasTwo n
    two = two_of_kind f n k each.0.node_of.kind

    by_kind : (l : Kind) → k ≡ l → HasKind f n l → HasPairs f l cs ps → HasShape l cs ps → EachNode (IsBuilt f) (node k (row us) ps)
    by_kind Parallel same kind pairs shape =
        let made = split_us false same (ap colour same) kind.0 kind.1 two in
        built_node (subst (HasKind f (names_below (row us))) (sym same) made.0) made.1 (subst (λ l. HasPairs f l (row us) ps) (sym same) pairs)
    by_kind Series same kind pairs shape =
        let made = split_us true same (ap colour same) kind.0 kind.1 two in
        built_node (subst (HasKind f (names_below (row us))) (sym same) made.0) made.1 (subst (λ l. HasPairs f l (row us) ps) (sym same) pairs)
    by_kind Prime same kind pairs shape =
        let many = shape.enough in
        let made = prime_us kind same (omega arith) in
        built_node (subst (HasKind f (names_below (row us))) (sym same) (unsplit_prime (names_below (row us)) made.0)) made.1
        (subst (λ l. HasPairs f l (row us) ps) (sym same) (pairs_us kind same pairs))

    pub node_built : EachNode (IsBuilt f) (node k (row us) ps)
    node_built = by_kind k refl each.0.node_of.kind each.0.node_of.pairs (canonical_of f af (node k cs ps) each).0.shape

  -- ---- the tree

  abbrev Fits : ℕ → PlainTree → Type 0
  Fits x u = IsTreeOf f (class s rep x) u

  mutual
    tree_built_over : (t u : PlainTree) → EachNode (IsBuilt f) t → IsModule f r (names t) → IsSubstituted Fits t u → (names u ≡ lifted s rep (names t)) × EachNode (IsBuilt f) u
    tree_built_over (leaf x) u each here is = (tree_names (class s rep x) u is ∙ sym (lift_only f s r rep part x), tree_built (class s rep x) u is)
    tree_built_over (node k cs ps) u each here (gs, are, (us, ordered, made)) =
        let trees : AreTreesOver f (lifted s rep) cs gs =
        trees_built_over cs gs each.1 (λ c i. module_of_module r (names_below cs) (names c) here (children_maximal k cs ps each.0 c i).is_strong.is_module) are in (
          ap names made ∙ names_us k cs ps each here gs trees us ordered,
          subst (EachNode (IsBuilt f)) (sym made) (node_built k cs ps each here gs trees us ordered),
        )

    trees_built_over : (cs : PlainTrees) (gs : List PlainTree) → EachNodeBelow (IsBuilt f) cs → ((c : PlainTree) → IsChild cs c → IsModule f r (names c)) → AreSubstituted Fits cs gs →
        AreTreesOver f (lifted s rep) cs gs
    trees_built_over no_tree [] each mods are = tt
    trees_built_over no_tree (g ∷ gs) each mods are = absurd are
    trees_built_over (one_more t cs) [] each mods are = absurd are
    trees_built_over (one_more t cs) (g ∷ gs) each mods are =
        (tree_built_over t g each.0 (mods t (inl refl)) are.0, trees_built_over cs gs each.1 (λ c i. mods c (inr i)) are.1)

  pub substituted_tree : (t u : PlainTree) → IsTreeOf f r t → IsSubstituted Fits t u → IsTreeOf f s u
  substituted_tree t u is put =
      let all : names t ≡ r = tree_names r t is in
      let built : EachNode (IsBuilt f) t = tree_built r t is in
      let whole : IsModule f r (names t) =
      subst (IsModule f r) (sym all) (whole_module r (head t, Has-along (names t) r all (head t) (head_least f t built).member)) in
      let made = tree_built_over t u built whole put in
      built_tree (kinds_of_graphs (undirected af)) decide_test s u (made.0 ∙ ap (lifted s rep) all ∙ lift_whole f s r rep part) made.1

pub substitution_proof : TreesAreSubstituted
substitution_proof e adj s r rep part least t u is put = substituted_tree adj s r rep part least t u is put
