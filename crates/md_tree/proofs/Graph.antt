-- The graph of the tree of strong modules is the graph itself, and its prime nodes tell of induced paths.
use Rattle.std.proofs.Common.{◌≡◌, ◌≢◌, ℕ, suc, ◌<◌, Bool, true, false, cond, eqb, min, max, ◌&&◌, ◌||◌, ◌↔◌, List, [], ◌∷◌, refl, sym, ◌∙◌, ap, subst, inl, inr, true≢false, eqb-true, eq-eqb, arith}
use Rattle.std.specs.FinSet.{contains}
use Rattle.md_graph.specs.Sets.{NameSet, Has, Lacks}
use Rattle.md_graph.specs.Adjacency.{IsAdjacency}
use Rattle.md_modules.specs.Kinds.{IsSplit, IsPrime}
use Rattle.md_modules.specs.InducedPaths.{HasInducedPath}
use Rattle.md_modules.specs.Laws.{MaximalModules}
use Rattle.std.proofs.lemmas.Bool.{cases_Bool, false_from_ne_true}
use Rattle.std.specs.Cmp.{both_ways}
use Rattle.md_graph.proofs.SetLemmas.{clash, of_only, empty_lacks, Has-along, of_union, ascending_or_not}
use Rattle.md_graph.proofs.Search.{decide_test}
use Rattle.md_modules.proofs.Modules.{undirected}
use Rattle.md_modules.proofs.Components.{child_component, prime_unsplit}
use Rattle.md_modules.proofs.Children.{child_maximal}
use Rattle.md_modules.proofs.Quotients.{maximal_modules_proof}
use Rattle.md_modules.proofs.Strong.{larger_than_single}
use Rattle.md_modules.proofs.Paths.{no_path_proof}
use Rattle.md_tree.specs.declared.Kind.{Kind}
use Rattle.md_tree.specs.declared.Kind.TheVariants.{Parallel, Series, Prime}
use Rattle.md_tree.specs.declared.Pair.{Pair}
use Rattle.md_tree.specs.Trees.{PlainTree, leaf, node, PlainTrees, no_tree, one_more, names, names_below, names_at, node_sets, node_sets_below, EachNode, EachNodeBelow}
use Rattle.md_tree.specs.StrongTrees.{HasKind, AreTreesJoined, ListsJoined, IsNodeOf, IsTreeOf}
use Rattle.md_tree.specs.WellFormed.{AreDisjoint, HasNoPrimeNode}
use Rattle.md_tree.specs.TreeGraph.{position_of, lists_pair, joins, adjacent_in, adjacent_below}
use Rattle.md_text.proofs.Lists.{In, of_append, in_left, in_right, of_contains, to_contains}
use Rattle.md_tree.proofs.Nodes.{IsChild, at_position, position_at, child_at}
use Rattle.md_tree.proofs.Built.{IsBuilt, children_maximal}
use Rattle.md_tree.proofs.Pairs.{pair}
use Rattle.md_tree.proofs.Kinded.{apart_of}
use Rattle.md_tree.proofs.GraphKinds.{kinds_of_graphs}

-- the test of a list of pairs
same_numbers : (p : Pair) (i j : ℕ) → (eqb p.low i && eqb p.high j) ≡ true → pair i j ≡ p
same_numbers p i j h = elim (cases_Bool (eqb p.low i)) [
  | inl a ↦ elim (cases_Bool (eqb p.high j)) [
    | inl b ↦ λ n. record { low = sym (eqb-true p.low i a) n; high = sym (eqb-true p.high j b) n }
    | inr b ↦ absurd (true≢false (sym h ∙ ap (λ w. w && eqb p.high j) a ∙ b))
  ]
  | inr a ↦ absurd (true≢false (sym h ∙ ap (λ w. w && eqb p.high j) a))
]

pub of_lists : (ps : List Pair) (i j : ℕ) → lists_pair ps i j ≡ true → In ps (pair i j)
of_lists [] i j h = absurd (true≢false (sym h))
of_lists (p ∷ ps) i j h = elim (cases_Bool (eqb p.low i && eqb p.high j)) [
  | inl a ↦ inl (same_numbers p i j a)
  | inr a ↦ inr (of_lists ps i j (sym (ap (λ w. w || lists_pair ps i j) a) ∙ h))
]

pub to_lists : (ps : List Pair) (p : Pair) → In ps p → lists_pair ps p.low p.high ≡ true
to_lists [] p i = absurd i
to_lists (q ∷ ps) p (inl e) =
    ap (λ w. (w && eqb q.high p.high) || lists_pair ps p.low p.high) (eq-eqb q.low p.low (sym (ap (λ r. r.low) e)))
    ∙ ap (λ w. w || lists_pair ps p.low p.high) (eq-eqb q.high p.high (sym (ap (λ r. r.high) e)))
to_lists (q ∷ ps) p (inr i) = elim (cases_Bool (eqb q.low p.low && eqb q.high p.high)) [
  | inl a ↦ ap (λ w. w || lists_pair ps p.low p.high) a
  | inr a ↦ ap (λ w. w || lists_pair ps p.low p.high) a ∙ to_lists ps p i
]

module _ (e : ℕ → ℕ → Bool) (adj : IsAdjacency e) where
  -- two names of different children
  module _ (k : Kind) (cs : PlainTrees) (ps : List Pair) (built : IsBuilt e k cs ps) where
    abbrev s : NameSet
    s = names_below cs

    apart : AreDisjoint cs
    apart = apart_of (kinds_of_graphs (undirected adj)) k s cs (children_maximal k cs ps built) built.node_of.order

    -- the child of a name, which lacks each name at another position
    child_with : (a : ℕ) → Has s a → (c : PlainTree) × IsChild cs c × Has (names c) a × (names_at cs (position_of cs a) ≡ names c)
    child_with a ha =
        let h : Has (names_at cs (position_of cs a)) a = at_position cs a ha in
        let c : (c : PlainTree) × IsChild cs c × (names_at cs (position_of cs a) ≡ names c) = child_at cs (position_of cs a) a h in
        (c.0, c.1, Has-along (names_at cs (position_of cs a)) (names c.0) c.2 a h, c.2)

    lacks_other : (a b : ℕ) (c : PlainTree) → names_at cs (position_of cs a) ≡ names c → position_of cs a ≢ position_of cs b → Lacks (names c) b
    lacks_other a b c same differ =
        false_from_ne_true _ (λ h. differ (sym (position_at cs apart (position_of cs a) b (Has-along (names c) (names_at cs (position_of cs a)) (sym same) b h))))

    across_split : (part : NameSet) (v : Bool) → IsSplit e s part v → (a b : ℕ) → Has s a → Has s b → position_of cs a ≢ position_of cs b → e a b ≡ v
    across_split part v split a b ha hb differ =
        let c : (c : PlainTree) × IsChild cs c × Has (names c) a × (names_at cs (position_of cs a) ≡ names c) = child_with a ha in
        (child_component (undirected adj) decide_test s (names c.0) part v a refl split (children_maximal k cs ps built c.0 c.1) c.2).closed.across a b c.2 hb (lacks_other a b c.0 c.3 differ)

    listed : IsPrime e s → ListsJoined e cs ps → (a b : ℕ) → Has s a → Has s b → position_of cs a < position_of cs b →
        lists_pair ps (position_of cs a) (position_of cs b) ≡ e a b
    listed prime lists a b ha hb less = both_ways _ _ edge_if_listed listed_if_edge where
      i : ℕ
      i = position_of cs a

      j : ℕ
      j = position_of cs b

      edge_if_listed : lists_pair ps (position_of cs a) (position_of cs b) ≡ true → e a b ≡ true
      edge_if_listed h =
          let is : AreTreesJoined e cs (position_of cs a) (position_of cs b) =
          (lists.exactly (pair (position_of cs a) (position_of cs b))).0 (to_contains ps (pair (position_of cs a) (position_of cs b)) (of_lists ps (position_of cs a) (position_of cs b) h)) in
          let c : (c : PlainTree) × IsChild cs c × Has (names c) a × (names_at cs (position_of cs a) ≡ names c) = child_with a ha in
          let d : (c : PlainTree) × IsChild cs c × Has (names c) b × (names_at cs (position_of cs b) ≡ names c) = child_with b hb in
          let laws : MaximalModules e s 4 = maximal_modules_proof e adj s prime in
          laws.alike (names c.0) (names d.0) a b is.edge.0 is.edge.1
          (child_maximal (undirected adj) decide_test s (names c.0) (prime_unsplit s prime) (children_maximal k cs ps built c.0 c.1))
          (child_maximal (undirected adj) decide_test s (names d.0) (prime_unsplit s prime) (children_maximal k cs ps built d.0 d.1))
          (λ same. clash (Has-along (names d.0) (names c.0) (sym same) b d.2) (lacks_other a b c.0 c.3 (λ p. omega arith)))
          c.2 (Has-along (names_at cs (position_of cs a)) (names c.0) c.3 is.edge.0 is.edge.2)
          d.2 (Has-along (names_at cs (position_of cs b)) (names d.0) d.3 is.edge.1 is.edge.3) ∙ is.edge.4

      listed_if_edge : e a b ≡ true → lists_pair ps (position_of cs a) (position_of cs b) ≡ true
      listed_if_edge h =
          to_lists ps (pair (position_of cs a) (position_of cs b)) (of_contains ps (pair (position_of cs a) (position_of cs b))
          ((lists.exactly (pair (position_of cs a) (position_of cs b))).1 (record { ordered = less; edge = (a, b, at_position cs a ha, at_position cs b hb, h) })))

    listed_either_way : IsPrime e s → ListsJoined e cs ps → (a b : ℕ) → Has s a → Has s b → position_of cs a ≢ position_of cs b →
        lists_pair ps (min (position_of cs a) (position_of cs b)) (max (position_of cs a) (position_of cs b)) ≡ e a b
    listed_either_way prime lists a b ha hb differ = elim (ascending_or_not (position_of cs a) (position_of cs b) differ) [
      | inl l ↦ (
          let p : min (position_of cs a) (position_of cs b) ≡ position_of cs a = omega arith in
          let q : max (position_of cs a) (position_of cs b) ≡ position_of cs b = omega arith in
          ap (λ w. lists_pair ps w (max (position_of cs a) (position_of cs b))) p ∙ ap (lists_pair ps (position_of cs a)) q ∙ listed prime lists a b ha hb l)
      | inr l ↦ (
          let p : min (position_of cs a) (position_of cs b) ≡ position_of cs b = omega arith in
          let q : max (position_of cs a) (position_of cs b) ≡ position_of cs a = omega arith in
          ap (λ w. lists_pair ps w (max (position_of cs a) (position_of cs b))) p ∙ ap (lists_pair ps (position_of cs b)) q ∙ listed prime lists b a hb ha l ∙ adj.symmetric b a)
    ]

  joins_right : (k : Kind) (cs : PlainTrees) (ps : List Pair) → IsBuilt e k cs ps → (a b : ℕ) → Has (names_below cs) a → Has (names_below cs) b →
      position_of cs a ≢ position_of cs b → joins k ps (position_of cs a) (position_of cs b) ≡ e a b
  joins_right Parallel cs ps built a b ha hb differ = let split = built.node_of.kind in sym (across_split Parallel cs ps built split.0 false split.1 a b ha hb differ)
  joins_right Series cs ps built a b ha hb differ = let split = built.node_of.kind in sym (across_split Series cs ps built split.0 true split.1 a b ha hb differ)
  joins_right Prime cs ps built a b ha hb differ = listed_either_way Prime cs ps built built.node_of.kind built.node_of.pairs a b ha hb differ

  mutual
    pub adjacent_right : (t : PlainTree) → EachNode (IsBuilt e) t → (a b : ℕ) → Has (names t) a → Has (names t) b → adjacent_in t a b ≡ e a b
    adjacent_right (leaf v) each a b ha hb =
        sym (ap (λ w. e w b) (of_only v a ha) ∙ ap (e v) (of_only v b hb) ∙ adj.irreflexive v)
    adjacent_right (node k cs ps) each a b ha hb = elim (cases_Bool (eqb (position_of cs a) (position_of cs b))) [
      | inl h ↦ ap (λ w. cond w (adjacent_below cs a b) (joins k ps (position_of cs a) (position_of cs b))) h
          ∙ below_right cs each.1 a b ha hb (eqb-true (position_of cs a) (position_of cs b) h)
      | inr h ↦ ap (λ w. cond w (adjacent_below cs a b) (joins k ps (position_of cs a) (position_of cs b))) h
          ∙ joins_right k cs ps each.0 a b ha hb (λ same. clash (eq-eqb (position_of cs a) (position_of cs b) same) h)
    ]

    below_right : (cs : PlainTrees) → EachNodeBelow (IsBuilt e) cs → (a b : ℕ) → Has (names_below cs) a → Has (names_below cs) b →
        position_of cs a ≡ position_of cs b → adjacent_below cs a b ≡ e a b
    below_right no_tree each a b ha hb same = clash ha (empty_lacks a)
    below_right (one_more t ts) each a b ha hb same = elim (cases_Bool (contains (names t) a)) [
      | inl i ↦ elim (cases_Bool (contains (names t) b)) [
        | inl j ↦ ap (λ w. cond w (adjacent_in t a b) (adjacent_below ts a b)) i ∙ adjacent_right t each.0 a b i j
        | inr m ↦ (
            let p : position_of (one_more t ts) a ≡ 0 = ap (λ w. cond w 0 (suc (position_of ts a))) i in
            let q : position_of (one_more t ts) b ≡ suc (position_of ts b) = ap (λ w. cond w 0 (suc (position_of ts b))) m in
            let r : 0 ≡ suc (position_of ts b) = sym p ∙ same ∙ q in
            absurd (omega arith))
      ]
      | inr l ↦ elim (cases_Bool (contains (names t) b)) [
        | inl j ↦ (
            let p : position_of (one_more t ts) a ≡ suc (position_of ts a) = ap (λ w. cond w 0 (suc (position_of ts a))) l in
            let q : position_of (one_more t ts) b ≡ 0 = ap (λ w. cond w 0 (suc (position_of ts b))) j in
            let r : suc (position_of ts a) ≡ 0 = sym p ∙ same ∙ q in
            absurd (omega arith))
        | inr m ↦ (
            let p : position_of (one_more t ts) a ≡ suc (position_of ts a) = ap (λ w. cond w 0 (suc (position_of ts a))) l in
            let q : position_of (one_more t ts) b ≡ suc (position_of ts b) = ap (λ w. cond w 0 (suc (position_of ts b))) m in
            let r : suc (position_of ts a) ≡ suc (position_of ts b) = sym p ∙ same ∙ q in
            ap (λ w. cond w (adjacent_in t a b) (adjacent_below ts a b)) l
            ∙ below_right ts each.1 a b
            (elim (of_union (names t) (names_below ts) a ha) [ inl i ↦ clash i l | inr j ↦ j ])
            (elim (of_union (names t) (names_below ts) b hb) [ inl i ↦ clash i m | inr j ↦ j ])
            (omega arith))
      ]
    ]

-- prime nodes
not_prime_kind : (e : ℕ → ℕ → Bool) (s : NameSet) (k : Kind) → k ≢ Prime → HasKind e s k → IsPrime e s → ⊥
not_prime_kind e s Parallel n h prime = prime.connected h
not_prime_kind e s Series n h prime = prime.co_connected h
not_prime_kind e s Prime n h prime = n refl

module _ (e : ℕ → ℕ → Bool) where
  mutual
    no_prime_node : (t : PlainTree) → EachNode (IsNodeOf e) t → ((m : NameSet) → In (node_sets t) m → IsPrime e m → ⊥) → EachNode (λ k cs ps. k ≢ Prime) t
    no_prime_node (leaf v) each none = tt
    no_prime_node (node k cs ps) each none = (
      (λ same. none (names_below cs) (inl refl) (subst (HasKind e (names_below cs)) same each.0.kind)),
      no_prime_below cs each.1 (λ m i. none m (inr i)),
    )

    no_prime_below : (cs : PlainTrees) → EachNodeBelow (IsNodeOf e) cs → ((m : NameSet) → In (node_sets_below cs) m → IsPrime e m → ⊥) → EachNodeBelow (λ k cs ps. k ≢ Prime) cs
    no_prime_below no_tree each none = tt
    no_prime_below (one_more t ts) each none = (
      no_prime_node t each.0 (λ m i. none m (in_left (node_sets t) (node_sets_below ts) m i)),
      no_prime_below ts each.1 (λ m i. none m (in_right (node_sets t) (node_sets_below ts) m i)),
    )

  mutual
    no_prime_set : (t : PlainTree) → EachNode (IsNodeOf e) t → EachNode (λ k cs ps. k ≢ Prime) t → (m : NameSet) → In (node_sets t) m → IsPrime e m → ⊥
    no_prime_set (leaf v) each none m (inl same) prime = larger_than_single m v prime.two (sym same)
    no_prime_set (leaf v) each none m (inr i) prime = i
    no_prime_set (node k cs ps) each none m (inl same) prime = not_prime_kind e m k none.0 (subst (λ w. HasKind e w k) (sym same) each.0.kind) prime
    no_prime_set (node k cs ps) each none m (inr i) prime = no_prime_set_below cs each.1 none.1 m i prime

    no_prime_set_below : (cs : PlainTrees) → EachNodeBelow (IsNodeOf e) cs → EachNodeBelow (λ k cs ps. k ≢ Prime) cs → (m : NameSet) → In (node_sets_below cs) m → IsPrime e m → ⊥
    no_prime_set_below no_tree each none m i prime = i
    no_prime_set_below (one_more t ts) each none m i prime = elim (of_append (node_sets t) (node_sets_below ts) m i) [
      | inl l ↦ no_prime_set t each.0 none.0 m l prime
      | inr r ↦ no_prime_set_below ts each.1 none.1 m r prime
    ]

  pub no_path_tree : IsAdjacency e → (s : NameSet) (t : PlainTree) → IsTreeOf e s t → (HasInducedPath e s → ⊥) ↔ HasNoPrimeNode t
  no_path_tree adj s t is = (
    (λ none. no_prime_node t is.nodes (λ m i prime. (no_path_proof e adj s).0 none m ((is.strong m).1 (to_contains (node_sets t) m i)) prime)),
    λ none. (no_path_proof e adj s).1 (λ m st prime. no_prime_set t is.nodes none m (of_contains (node_sets t) m ((is.strong m).0 st)) prime),
  )
