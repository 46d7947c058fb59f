-- The tree of the strong modules of a directed graph is as well-formed trees are.
use Rattle.std.proofs.Common.{◌≡◌, ◌≢◌, ℕ, suc, ◌≤◌, Bool, true, false, List, [], Contains, refl, sym, subst, inl, inr, arith}
use Rattle.std.specs.FinSet.{empty, union}
use Rattle.std.proofs.lemmas.Bool.{false_from_ne_true}
use Rattle.md_graph.specs.Sets.{NameSet, Has, Lacks, HasSome, HasTwo}
use Rattle.md_graph.proofs.SetLemmas.{clash, empty_lacks, same_members, union_left, union_right, of_union}
use Rattle.md_modules.specs.Modules.{IsModule, IsMaximalStrong}
use Rattle.md_modules.proofs.Modules.{across_modules}
use Rattle.md_modules.proofs.Strong.{child_leaves}
use Rattle.md_modules.proofs.Splits.{child_unsplit, split_rest}
use Rattle.md_digraph.specs.ArcColours.{ArcColour, between, no_arc, both_arcs}
use Rattle.md_digraph.proofs.ArcTurns.{arcs_turn, arcs_told}
use Rattle.md_text.proofs.Lists.{of_contains}
use Rattle.md_tree.specs.Trees.{leaf, node, no_tree, one_more, names, names_below, names_at, count, EachNode, EachNodeBelow}
use Rattle.md_tree.specs.StrongTrees.{ListsExactly, StandBy}
use Rattle.md_tree.specs.WellFormed.{AreDisjoint, IsOfKind, NoneOfKind, IsInOrderIf, IsPlainNodeBy, HasShapeIf}
use Rattle.md_tree.proofs.Nodes.{IsChild, position_below}
use Rattle.md_tree.proofs.Built.{IsBuiltBy, children_maximal}
use Rattle.md_tree.proofs.Kinded.{apart_of}
use Rattle.md_tree.proofs.Canonical.{place_of}
use Rattle.md_dtree.specs.declared.DKind.{DKind}
use Rattle.md_dtree.specs.declared.DKind.TheVariants.{Parallel, Series, Order, Prime}
use Rattle.md_dtree.specs.declared.DPair.{DPair}
use Rattle.md_dtree.specs.DirectedSpelling.{directed_spelling, directed_pairs, least_children, stands_by_names, lists_arcs}
use Rattle.md_dtree.specs.DirectedTrees.{PlainDTree, PlainDTrees, arc_forth, SplitsWith, IsDirectedPrime, HasDirectedKind, StandsBefore, IsArcPair, IsDirectedNode, IsCanonicalDNode}
use Rattle.md_dtree.proofs.ArcKinds.{two_of_kind, directed_kinds_law}

module _ (arc : ℕ → ℕ → Bool) where
  abbrev pub IsDBuilt : DKind → PlainDTrees → List DPair → Type 0
  IsDBuilt = IsBuiltBy (IsDirectedNode arc) (between arc)

  -- the leaf sets of the children are maximal
  abbrev AreMaximal : PlainDTrees → Type 0
  AreMaximal cs = (c : PlainDTree) → IsChild cs c → IsMaximalStrong (between arc) (names_below cs) (names c)

  -- ---- how many children

  not_alone : (t : PlainDTree) → IsMaximalStrong (between arc) (union (names t) empty) (names t) → ⊥
  not_alone t max = max.proper (same_members (names t) (union (names t) empty) (union_left (names t) empty)
      (λ x h. elim (of_union (names t) empty x h) [ inl i ↦ i | inr j ↦ clash j (empty_lacks x) ]))

  two_children : (cs : PlainDTrees) → HasSome (names_below cs) → AreMaximal cs → 2 ≤ count cs
  two_children no_tree some max = clash some.1 (empty_lacks some.0)
  two_children (one_more t no_tree) some max = absurd (not_alone t (max t (inl refl)))
  two_children (one_more t (one_more u us)) some max = let b : 2 ≤ suc (suc (count us)) = omega arith in b

  -- a set that is prime splits with no colour: with an arc back alone neither, since the rest would
  -- split with one forth
  pub unsplit_prime : (s : NameSet) → IsDirectedPrime arc s → (v : ArcColour) → SplitsWith arc s v → ⊥
  unsplit_prime s prime (true, true) split = prime.not_series split
  unsplit_prime s prime (false, false) split = prime.not_parallel split
  unsplit_prime s prime (true, false) split = prime.not_order split
  unsplit_prime s prime (false, true) split = prime.not_order (_, split_rest (arcs_turn arc) s split.0 (false, true) split.1)

  -- of two children the one is a part whose pairs with the other have one colour
  split_of_two : (t u : PlainDTree) → AreDisjoint (one_more t (one_more u no_tree)) → AreMaximal (one_more t (one_more u no_tree)) →
      (v : ArcColour) × SplitsWith arc (union (names t) (union (names u) empty)) v
  split_of_two t u apart max = (
    between arc p.0 q.0,
    (
      names t,
      record {
        some = p;
        inside = union_left (names t) (union (names u) empty);
        rest = (q.0, union_right (names t) (union (names u) empty) q.0 (union_left (names u) empty q.0 q.1), outside q.0 q.1);
        across = λ a b ha hb l. across_modules (arcs_turn arc) (union (names t) (union (names u) empty)) (names t) (names u) mt mu (λ x h. false_from_ne_true _ (λ i. clash h (outside x i))) a p.0 b q.0 ha p.1 (second b hb l) q.1;
      },
    ),
  ) where
    mt : IsModule (between arc) (union (names t) (union (names u) empty)) (names t)
    mt = (max t (inl refl)).is_strong.is_module

    mu : IsModule (between arc) (union (names t) (union (names u) empty)) (names u)
    mu = (max u (inr (inl refl))).is_strong.is_module

    p : HasSome (names t)
    p = mt.some

    q : HasSome (names u)
    q = mu.some

    outside : (x : ℕ) → Has (names u) x → Lacks (names t) x
    outside x h = false_from_ne_true _ (λ i. clash (union_left (names u) empty x h) (apart.0 x i))

    second : (b : ℕ) → Has (union (names t) (union (names u) empty)) b → Lacks (names t) b → Has (names u) b
    second b hb l = elim (of_union (names t) (union (names u) empty) b hb) [
      | inl i ↦ clash i l
      | inr j ↦ elim (of_union (names u) empty b j) [ inl i ↦ i | inr k ↦ clash k (empty_lacks b) ]
    ]

  three_children : (cs : PlainDTrees) → IsDirectedPrime arc (names_below cs) → AreDisjoint cs → AreMaximal cs → 3 ≤ count cs
  three_children no_tree prime apart max = clash prime.two.2 (empty_lacks prime.two.0)
  three_children (one_more t no_tree) prime apart max = absurd (not_alone t (max t (inl refl)))
  three_children (one_more t (one_more u no_tree)) prime apart max =
      let split = split_of_two t u apart max in
      absurd (unsplit_prime (union (names t) (union (names u) empty)) prime split.0 split.1)
  three_children (one_more t (one_more u (one_more w ws))) prime apart max = let b : 3 ≤ suc (suc (suc (count ws))) = omega arith in b

  -- ---- the children's kinds

  kind_of_child : (t : PlainDTree) → EachNode IsDBuilt t → (k : DKind) → IsOfKind t k → HasDirectedKind arc (names t) k
  kind_of_child (leaf v) each k is = absurd is
  kind_of_child (node l cs ps) each k is = subst (HasDirectedKind arc (names_below cs)) is each.0.node_of.kind

  none_of_kind : (k : DKind) (cs : PlainDTrees) → EachNodeBelow IsDBuilt cs → ((c : PlainDTree) → IsChild cs c → HasDirectedKind arc (names c) k → ⊥) → NoneOfKind cs k
  none_of_kind k no_tree each other = tt
  none_of_kind k (one_more t ts) each other =
      ((λ is. other t (inl refl) (kind_of_child t each.0 k is)), none_of_kind k ts each.1 (λ c i. other c (inr i)))

  -- ---- pairs

  -- some pair of children of a prime node is listed
  some_pair_of : (cs : PlainDTrees) (ps : List DPair) → IsDirectedPrime arc (names_below cs) → ListsExactly directed_pairs (IsArcPair arc cs) ps → AreMaximal cs → ps ≢ []
  some_pair_of no_tree ps prime lists max none = clash prime.two.2 (empty_lacks prime.two.0)
  some_pair_of (one_more t ts) ps prime lists max none = prime.not_parallel (
    names t,
    record {
      some = (max t (inl refl)).is_strong.is_module.some;
      inside = union_left (names t) (names_below ts);
      rest = child_leaves (union (names t) (names_below ts)) (names t) (max t (inl refl));
      across = λ a b ha hb l. elim (of_union (names t) (names_below ts) b hb) [
        | inl i ↦ clash i l
        | inr j ↦
            let p : (i : ℕ) × Has (names_at ts i) b = place_of ts b j in
            let there : arc a b ≡ false = false_from_ne_true _ (λ h. unlisted 0 (suc p.0) (record { differ = λ same. omega arith; runs = (a, b, ha, p.1, h) })) in
            let back : arc b a ≡ false = false_from_ne_true _ (λ h. unlisted (suc p.0) 0 (record { differ = λ same. omega arith; runs = (b, a, p.1, ha, h) })) in
            λ i. (there i, back i)
      ];
    },
  ) where
    unlisted : (i j : ℕ) → IsArcPair arc (one_more t ts) i j → ⊥
    unlisted i j is = of_contains [] (directed_pairs.pair i j) (subst (λ w. Contains w (directed_pairs.pair i j)) none ((lists.exactly (directed_pairs.pair i j)).1 is))

  -- ---- nodes

  plain_node : (k : DKind) → least_children k ≡ 2 → (v : ArcColour) (cs : PlainDTrees) (ps : List DPair) → IsDBuilt k cs ps → EachNodeBelow IsDBuilt cs →
      ((s : NameSet) → HasDirectedKind arc s k → SplitsWith arc s v) → ps ≡ [] → IsPlainNodeBy directed_spelling k cs ps
  plain_node k few v cs ps built each splits none =
      let two : HasTwo (names_below cs) = two_of_kind arc (names_below cs) k built.node_of.kind in
      record {
        enough = subst (λ n. n ≤ count cs) (sym few) (two_children cs (two.0, two.2) (children_maximal k cs ps built));
        other_kinds = none_of_kind k cs each (λ c i h.
            let whole : SplitsWith arc (names_below cs) v = splits (names_below cs) built.node_of.kind in
            let inner : SplitsWith arc (names c) v = splits (names c) h in
            child_unsplit (arcs_turn arc) arcs_told (names_below cs) (names c) whole.0 v whole.1 (children_maximal k cs ps built c i) inner.0 inner.1);
        no_pairs = none;
      }

  shape_of : (k : DKind) (cs : PlainDTrees) (ps : List DPair) → IsDBuilt k cs ps → EachNodeBelow IsDBuilt cs → AreDisjoint cs → HasShapeIf directed_spelling (lists_arcs k) k cs ps
  shape_of Parallel cs ps built each apart = plain_node Parallel refl no_arc cs ps built each (λ s h. h) built.node_of.pairs
  shape_of Series cs ps built each apart = plain_node Series refl both_arcs cs ps built each (λ s h. h) built.node_of.pairs
  shape_of Order cs ps built each apart = plain_node Order refl arc_forth cs ps built each (λ s h. h) built.node_of.pairs
  shape_of Prime cs ps built each apart = let lists : ListsExactly directed_pairs (IsArcPair arc cs) ps = built.node_of.pairs in record {
    enough = three_children cs built.node_of.kind apart (children_maximal Prime cs ps built);
    some_pair = some_pair_of cs ps built.node_of.kind lists (children_maximal Prime cs ps built);
    ascending = lists.ascending;
    positions = λ p c.
        let is : IsArcPair arc cs p.from p.to = (lists.exactly p).0 c in
        (is.differ, position_below cs p.from is.runs.0 is.runs.2, position_below cs p.to is.runs.1 is.runs.3);
  }

  order_of : (k : DKind) (cs : PlainDTrees) → StandBy (StandsBefore arc k) cs → IsInOrderIf (stands_by_names k) cs
  order_of Parallel cs order = order
  order_of Series cs order = order
  order_of Order cs order = tt
  order_of Prime cs order = order

  mutual
    pub canonical_of : (t : PlainDTree) → EachNode IsDBuilt t → EachNode IsCanonicalDNode t
    canonical_of (leaf v) each = tt
    canonical_of (node k cs ps) each =
        let apart : AreDisjoint cs = apart_of (directed_kinds_law arc) k (names_below cs) cs (children_maximal k cs ps each.0) each.0.node_of.order in (
          record {
            apart = apart;
            order = order_of k cs each.0.node_of.order;
            shape = shape_of k cs ps each.0 each.1 apart;
          },
          canonical_below cs each.1,
        )

    canonical_below : (cs : PlainDTrees) → EachNodeBelow IsDBuilt cs → EachNodeBelow IsCanonicalDNode cs
    canonical_below no_tree each = tt
    canonical_below (one_more t ts) each = (canonical_of t each.0, canonical_below ts each.1)
