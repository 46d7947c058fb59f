-- The tree of the strong modules of a graph is as well-formed trees are.
use Rattle.std.proofs.Common.{◌≡◌, ◌≢◌, ℕ, zero, suc, ◌+◌, ◌≤◌, Bool, true, false, List, [], Contains, refl, sym, ◌∙◌, subst, inl, inr, arith}
use Rattle.std.specs.FinSet.{contains, empty, len, len-empty, union, intersection, difference}
use Rattle.std.specs.Ordering.{nat_cmp}
use Rattle.md_graph.specs.Sets.{NameSet, Has, Within, HasSome, HasTwo}
use Rattle.md_graph.specs.Adjacency.{IsAdjacency}
use Rattle.md_modules.specs.Modules.{IsMaximalStrong}
use Rattle.md_modules.specs.Kinds.{IsSplit, IsPrime}
use Rattle.md_modules.specs.Quotients.{IsQuotient}
use Rattle.md_modules.specs.Laws.{MaximalModules}
use Rattle.std.proofs.lemmas.Bool.{cases_Bool, false_from_ne_true}
use Rattle.md_graph.proofs.SetLemmas.{clash, empty_lacks, same_members, union_left, union_right, of_union, meet_has, of_meet, minus_has, of_minus}
use Rattle.md_graph.proofs.Search.{decide_test, decide_has_some, len_within, len_union, len_single}
use Rattle.md_modules.proofs.Modules.{undirected}
use Rattle.md_modules.proofs.Strong.{child_leaves}
use Rattle.md_modules.proofs.Splits.{child_unsplit}
use Rattle.md_modules.proofs.Components.{prime_unsplit}
use Rattle.md_modules.proofs.Children.{child_maximal}
use Rattle.md_modules.proofs.Quotients.{maximal_modules_proof}
use Rattle.md_tree.specs.declared.Kind.{Kind}
use Rattle.md_tree.specs.declared.Kind.TheVariants.{Parallel, Series, Prime}
use Rattle.md_tree.specs.declared.Pair.{Pair}
use Rattle.md_tree.specs.Trees.{PlainTreeOf, PlainTreesOf, PlainTree, leaf, node, PlainTrees, no_tree, one_more, names, names_below, names_at, count, EachNode, EachNodeBelow}
use Rattle.md_tree.specs.StrongTrees.{HasKind, AreTreesJoined, ListsJoined}
use Rattle.md_tree.specs.Spellings.{least_count}
use Rattle.md_tree.specs.WellFormed.{IsOfKind, NoneOfKind, IsPlainNode, HasShape, IsCanonicalNode}
use Rattle.md_text.proofs.Lists.{of_contains}
use Rattle.md_tree.proofs.Nodes.{IsChild, position_below}
use Rattle.md_tree.proofs.Built.{IsBuilt, children_maximal}
use Rattle.md_tree.proofs.Kinded.{apart_of}
use Rattle.md_tree.proofs.GraphKinds.{two_of_kind, kinds_of_graphs}
use Rattle.md_tree.proofs.Pairs.{pair}

-- a set that has one name of each child at most has no more members than there are children
few_names : {K P : Type 0} (cs : PlainTreesOf K P) (r : NameSet) → Within r (names_below cs) →
    ((c : PlainTreeOf K P) → IsChild cs c → (x y : ℕ) → Has (names c) x → Has (names c) y → Has r x → Has r y → x ≡ y) → len r ≤ count cs
few_names no_tree r w one =
    let a : len r ≤ len (empty {R = nat_cmp}) = len_within r empty w in
    let b : len (empty {R = nat_cmp}) ≡ 0 = len-empty nat_cmp in
    let c : len r ≤ 0 = omega arith in
    c
few_names (one_more t ts) r w one =
    let a : len r ≤ len (union (intersection (names t) r) (difference r (names t))) =
    len_within r (union (intersection (names t) r) (difference r (names t))) (λ x h. elim (cases_Bool (contains (names t) x)) [
      | inl i ↦ union_left (intersection (names t) r) (difference r (names t)) x (meet_has (names t) r x i h)
      | inr l ↦ union_right (intersection (names t) r) (difference r (names t)) x (minus_has r (names t) x h l)
    ]) in
    let b : len (union (intersection (names t) r) (difference r (names t))) ≤ len (intersection (names t) r) + len (difference r (names t)) =
    len_union (intersection (names t) r) (difference r (names t)) in
    let c : len (intersection (names t) r) ≤ 1 = elim (decide_has_some (intersection (names t) r)) [
      | inl x ↦ len_single (intersection (names t) r) x.0 (λ y h.
          one t (inl refl) y x.0 (of_meet (names t) r y h).0 (of_meet (names t) r x.0 x.1).0 (of_meet (names t) r y h).1 (of_meet (names t) r x.0 x.1).1)
      | inr none ↦ len_single (intersection (names t) r) 0 (λ y h. absurd (none (y, h)))
    ] in
    let d : len (difference r (names t)) ≤ count ts =
    few_names ts (difference r (names t))
    (λ x h. elim (of_union (names t) (names_below ts) x (w x (of_minus r (names t) x h).0)) [
      | inl i ↦ clash i (of_minus r (names t) x h).1
      | inr j ↦ j
    ])
    (λ c i x y hx hy p q. one c (inr i) x y hx hy (of_minus r (names t) x p).0 (of_minus r (names t) y q).0) in
    let f : len r ≤ suc (count ts) = omega arith in
    f

-- the position of a name
pub place_of : {K P : Type 0} (cs : PlainTreesOf K P) (x : ℕ) → Has (names_below cs) x → (i : ℕ) × Has (names_at cs i) x
place_of no_tree x h = clash h (empty_lacks x)
place_of (one_more t ts) x h = elim (of_union (names t) (names_below ts) x h) [
  | inl l ↦ (zero, l)
  | inr r ↦ (let i : (i : ℕ) × Has (names_at ts i) x = place_of ts x r in (suc i.0, i.1))
]

-- two children or more, where they are maximal
two_children : {K P C : Type 0} (e : ℕ → ℕ → C) (cs : PlainTreesOf K P) → HasSome (names_below cs) → ((c : PlainTreeOf K P) → IsChild cs c → IsMaximalStrong e (names_below cs) (names c)) → 2 ≤ count cs
two_children e no_tree some max = clash some.1 (empty_lacks some.0)
two_children e (one_more t no_tree) some max =
    absurd ((max t (inl refl)).proper (same_members (names t) (union (names t) empty) (union_left (names t) empty)
    (λ x h. elim (of_union (names t) empty x h) [ inl i ↦ i | inr j ↦ clash j (empty_lacks x) ])))
two_children e (one_more t (one_more u us)) some max = let b : 2 ≤ suc (suc (count us)) = omega arith in b

module _ (e : ℕ → ℕ → Bool) (adj : IsAdjacency e) where
  kind_of_child : (t : PlainTree) → EachNode (IsBuilt e) t → (k : Kind) → IsOfKind t k → HasKind e (names t) k
  kind_of_child (leaf v) each k is = absurd is
  kind_of_child (node l cs ps) each k is = subst (HasKind e (names_below cs)) is each.0.node_of.kind

  none_of_kind : (k : Kind) (cs : PlainTrees) → EachNodeBelow (IsBuilt e) cs → ((c : PlainTree) → IsChild cs c → HasKind e (names c) k → ⊥) → NoneOfKind cs k
  none_of_kind k no_tree each other = tt
  none_of_kind k (one_more t ts) each other =
      ((λ is. other t (inl refl) (kind_of_child t each.0 k is)), none_of_kind k ts each.1 (λ c i. other c (inr i)))

  four_children : (cs : PlainTrees) (ps : List Pair) → IsBuilt e Prime cs ps → 4 ≤ count cs
  four_children cs ps built =
      let prime : IsPrime e (names_below cs) = built.node_of.kind in
      let laws : MaximalModules e (names_below cs) 4 = maximal_modules_proof e adj (names_below cs) prime in
      let r : (r : NameSet) × IsQuotient e (names_below cs) r = laws.quotient in
      let a : 4 ≤ len r.0 = laws.many r.0 r.1 in
      let b : len r.0 ≤ count cs = few_names cs r.0 r.1.inside (λ c i x y hx hy p q.
      let z : (z : ℕ) × Has (names c) z × Has r.0 z × ((w : ℕ) → Has (names c) w → Has r.0 w → w ≡ z) =
      r.1.one (names c) (child_maximal (undirected adj) decide_test (names_below cs) (names c) (prime_unsplit (names_below cs) prime) (children_maximal Prime cs ps built c i)) in
      z.3 x hx p ∙ sym (z.3 y hy q)) in
      omega arith

  -- some pair of children of a prime node is listed
  some_pair_of : (cs : PlainTrees) (ps : List Pair) → IsPrime e (names_below cs) → ListsJoined e cs ps →
      ((c : PlainTree) → IsChild cs c → IsMaximalStrong e (names_below cs) (names c)) → ps ≢ []
  some_pair_of no_tree ps prime lists max none = clash prime.two.2 (empty_lacks prime.two.0)
  some_pair_of (one_more t ts) ps prime lists max none = prime.connected (
    names t,
    record {
      some = (max t (inl refl)).is_strong.is_module.some;
      inside = union_left (names t) (names_below ts);
      rest = child_leaves (union (names t) (names_below ts)) (names t) (max t (inl refl));
      across = λ a b ha hb l. false_from_ne_true _ (λ h. elim (of_union (names t) (names_below ts) b hb) [
        | inl i ↦ clash i l
        | inr j ↦ (
            let p : (i : ℕ) × Has (names_at ts i) b = place_of ts b j in
            let is : AreTreesJoined e (one_more t ts) 0 (suc p.0) = record { ordered = omega arith; edge = (a, b, ha, p.1, h) } in
            of_contains [] (pair 0 (suc p.0)) (subst (λ w. Contains w (pair 0 (suc p.0))) none ((lists.exactly (pair 0 (suc p.0))).1 is)))
      ]);
    },
  )

  plain_node : (k : Kind) → least_count k ≡ 2 → (v : Bool) (cs : PlainTrees) (ps : List Pair) → IsBuilt e k cs ps → EachNodeBelow (IsBuilt e) cs →
      ((s : NameSet) → HasKind e s k → (part : NameSet) × IsSplit e s part v) → ps ≡ [] → IsPlainNode k cs ps
  plain_node k few v cs ps built each splits none =
      let two : HasTwo (names_below cs) = two_of_kind e (names_below cs) k built.node_of.kind in
      record {
        enough = subst (λ n. n ≤ count cs) (sym few) (two_children e cs (two.0, two.2) (children_maximal k cs ps built));
        other_kinds = none_of_kind k cs each (λ c i h.
            let whole : (part : NameSet) × IsSplit e (names_below cs) part v = splits (names_below cs) built.node_of.kind in
            let inner : (part : NameSet) × IsSplit e (names c) part v = splits (names c) h in
            child_unsplit (undirected adj) decide_test (names_below cs) (names c) whole.0 v whole.1 (children_maximal k cs ps built c i) inner.0 inner.1);
        no_pairs = none;
      }

  shape_of : (k : Kind) (cs : PlainTrees) (ps : List Pair) → IsBuilt e k cs ps → EachNodeBelow (IsBuilt e) cs → HasShape k cs ps
  shape_of Parallel cs ps built each = plain_node Parallel refl false cs ps built each (λ s h. h) built.node_of.pairs
  shape_of Series cs ps built each = plain_node Series refl true cs ps built each (λ s h. h) built.node_of.pairs
  shape_of Prime cs ps built each = let lists : ListsJoined e cs ps = built.node_of.pairs in record {
    enough = four_children cs ps built;
    some_pair = some_pair_of cs ps built.node_of.kind lists (children_maximal Prime cs ps built);
    ascending = lists.ascending;
    positions = λ p c. let is : AreTreesJoined e cs p.low p.high = (lists.exactly p).0 c in (is.ordered, position_below cs p.high is.edge.1 is.edge.3);
  }

  mutual
    pub canonical_of : (t : PlainTree) → EachNode (IsBuilt e) t → EachNode IsCanonicalNode t
    canonical_of (leaf v) each = tt
    canonical_of (node k cs ps) each = (
      record {
        apart = apart_of (kinds_of_graphs (undirected adj)) k (names_below cs) cs (children_maximal k cs ps each.0) each.0.node_of.order;
        order = each.0.node_of.order;
        shape = shape_of k cs ps each.0 each.1;
      },
      canonical_below cs each.1,
    )

    canonical_below : (cs : PlainTrees) → EachNodeBelow (IsBuilt e) cs → EachNodeBelow IsCanonicalNode cs
    canonical_below no_tree each = tt
    canonical_below (one_more t ts) each = (canonical_of t each.0, canonical_below ts each.1)
