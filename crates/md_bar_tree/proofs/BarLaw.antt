-- Where there is no induced path, there is no bar exactly where the nodes of the tree have few inner children.
use Rattle.std.proofs.Common.{◌≡◌, ◌≢◌, ℕ, Bool, true, false, ◌⊎◌, List, Option, Some, None, refl, sym, subst, inl, inr}
use Rattle.std.specs.FinSet.{empty}
use Rattle.md_graph.specs.Sets.{NameSet, Has}
use Rattle.md_graph.specs.Adjacency.{IsAdjacency}
use Rattle.md_graph.proofs.Search.{Decided}
use Rattle.md_graph.proofs.SetLemmas.{clash, empty_lacks, Has-along, union_left, union_right}
use Rattle.md_modules.specs.InducedPaths.{HasInducedPath}
use Rattle.md_modules.proofs.DecidedPaths.{decide_path}
use Rattle.md_tree.specs.declared.Kind.{Kind}
use Rattle.md_tree.specs.declared.Kind.TheVariants.{Parallel, Series, Prime}
use Rattle.md_tree.specs.declared.Pair.{Pair}
use Rattle.md_tree.specs.Trees.{PlainTree, leaf, node, PlainTrees, no_tree, one_more, names, names_below, EachNodeBelow}
use Rattle.md_tree.specs.StrongTrees.{IsTreeOf, IsTree}
use Rattle.md_tree.specs.WellFormed.{NoneOfKind, IsCanonicalNode, IsCanonicalTree, HasNoPrimeNode, HaveNoPrimeNode}
use Rattle.md_tree.proofs.OneTree.{canonical_proof, tells_proof, no_path_proof, one_tree_proof}
use Rattle.md_bar_tree.specs.declared.Class.{Class}
use Rattle.md_bar_tree.specs.declared.Class.TheVariants.{Trivial, Threshold}
use Rattle.md_bar_tree.specs.declared.BarKind.{BarKind}
use Rattle.md_bar_tree.specs.declared.BarKind.TheVariants.{P4, C4, TwoK2}
use Rattle.md_bar_tree.specs.Bars.{Bars, IsBarOfKind, HasBar}
use Rattle.md_bar_tree.specs.Inner.{IsInnerTree, AreLeaves, HasOneInner, IsNarrow, HasFewInner, HaveFewInner}
use Rattle.md_bar_tree.specs.Laws.{NoBarIfFewInner}
use Rattle.md_bar_tree.specs.Following.{across, FollowsTree, FollowsRow}
use Rattle.md_bar_tree.specs.Finding.{LeavesThen, AreLeastTwo, bar_across}
use Rattle.md_bar_tree.proofs.Across.{follows}
use Rattle.md_bar_tree.proofs.TwoPairs.{of_cycle, of_edges}
use Rattle.md_bar_tree.proofs.NoPairs.{none_in}
use Rattle.md_bar_tree.proofs.Leasts.{some_least_two}
use Rattle.md_bar_tree.proofs.Witnesses.{IsRow, witness, bar_within}

-- few inner children, no bar
narrow_series : (class : Class) (k : Kind) → k ≢ Prime → across k ≡ true → IsNarrow class k
narrow_series class Series plain h = tt
narrow_series class Parallel plain h = clash h refl
narrow_series class Prime plain h = absurd (plain refl)

narrow_each : (class : Class) → Bars TwoK2 class → (k : Kind) → k ≢ Prime → across k ≡ false → IsNarrow class k
narrow_each Trivial bars k plain h = absurd bars
narrow_each Threshold bars Series plain h = tt
narrow_each Threshold bars Parallel plain h = tt
narrow_each Threshold bars Prime plain h = absurd (plain refl)

module _ {e : ℕ → ℕ → Bool} (adj : IsAdjacency e) where
  none_of_kind : (class : Class) (t : PlainTree) → HasNoPrimeNode t → FollowsTree e t → HasFewInner class t → (HasInducedPath e (names t) → ⊥) →
      (kind : BarKind) (a b c d : ℕ) → Bars kind class → IsBarOfKind kind e (names t) a b c d → ⊥
  none_of_kind class t free f few no_path P4 a b c d bars is = no_path (a, b, c, d, is)
  none_of_kind class t free f few no_path C4 a b c d bars is =
      none_in adj false a c b d (of_cycle adj (names t) a b c d is) (IsNarrow class) (narrow_series class) t free f few (is.inside.0, is.inside.2, is.inside.1, is.inside.3)
  none_of_kind class t free f few no_path TwoK2 a b c d bars is =
      none_in adj true a b c d (of_edges adj (names t) a b c d is) (IsNarrow class) (narrow_each class bars) t free f few is.inside

  pub no_bar : (class : Class) (t : PlainTree) → HasNoPrimeNode t → FollowsTree e t → HasFewInner class t → (HasInducedPath e (names t) → ⊥) → HasBar class e (names t) → ⊥
  no_bar class t free f few no_path bar = none_of_kind class t free f few no_path bar.0.kind bar.0.a bar.0.b bar.0.c bar.0.d bar.1.bars bar.1.is

-- otherwise there is one
pub one_of_leaves : (cs : PlainTrees) → AreLeaves cs → HasOneInner cs
one_of_leaves no_tree leaves = tt
one_of_leaves (one_more t ts) leaves = ((λ i. leaves.1), one_of_leaves ts leaves.1)

pub one_of_then : (cs : PlainTrees) (x : PlainTree) (xs : PlainTrees) → LeavesThen cs (one_more x xs) → AreLeaves xs → HasOneInner cs
one_of_then no_tree x xs same leaves = tt
one_of_then (one_more t ts) x xs (inl same) leaves = subst HasOneInner same ((λ i. leaves), one_of_leaves xs leaves)
one_of_then (one_more t ts) x xs (inr later) leaves = ((λ i. absurd (later.0 i)), one_of_then ts x xs later.1 leaves)

abbrev NextInner : PlainTrees → Type 0
NextInner cs = (x : PlainTree) × (xs : PlainTrees) × LeavesThen cs (one_more x xs) × IsInnerTree x

inner_or_not : (t : PlainTree) → IsInnerTree t ⊎ (¬ (IsInnerTree t))
inner_or_not (leaf v) = inr (λ i. i)
inner_or_not (node k cs ps) = inl tt

next_inner : (cs : PlainTrees) → NextInner cs ⊎ AreLeaves cs
next_inner no_tree = inr tt
next_inner (one_more t ts) = elim (inner_or_not t) [
  | inl i ↦ inl (t, ts, inl refl, i)
  | inr l ↦ elim (next_inner ts) [
    | inl n ↦ inl (n.0, n.1, inr (l, n.2), n.3)
    | inr leaves ↦ inr (l, leaves)
  ]
]

narrow_or_not : (class : Class) (k : Kind) → IsNarrow class k ⊎ (¬ (IsNarrow class k))
narrow_or_not Trivial Series = inl tt
narrow_or_not Trivial Parallel = inr (λ i. i)
narrow_or_not Trivial Prime = inr (λ i. i)
narrow_or_not Threshold Series = inl tt
narrow_or_not Threshold Parallel = inl tt
narrow_or_not Threshold Prime = inr (λ i. i)

kinds_below : (k : Kind) (cs : PlainTrees) (ps : List Pair) → k ≢ Prime → IsCanonicalNode k cs ps → NoneOfKind cs k
kinds_below Parallel cs ps plain is = is.shape.other_kinds
kinds_below Series cs ps plain is = is.shape.other_kinds
kinds_below Prime cs ps plain is = absurd (plain refl)

pub row_of_node : (e : ℕ → ℕ → Bool) (k : Kind) (cs : PlainTrees) (ps : List Pair) → IsCanonicalTree (node k cs ps) → HasNoPrimeNode (node k cs ps) → FollowsTree e (node k cs ps) →
    IsRow e k (names_below cs) cs
row_of_node e k cs ps canonical free f = record {
  follows = f;
  order = canonical.0.order;
  other_kinds = kinds_below k cs ps free.0 canonical.0;
  canonical = canonical.1;
  free = free.1;
  inside = λ x h. h;
}

-- what holds of the first tree behind some leaves, and of those after it
pub first_canonical : (cs : PlainTrees) (x : PlainTree) (xs : PlainTrees) → LeavesThen cs (one_more x xs) → EachNodeBelow IsCanonicalNode cs → IsCanonicalTree x × EachNodeBelow IsCanonicalNode xs
first_canonical no_tree x xs same each = subst (EachNodeBelow IsCanonicalNode) (sym same) each
first_canonical (one_more t ts) x xs (inl same) each = subst (EachNodeBelow IsCanonicalNode) (sym same) each
first_canonical (one_more t ts) x xs (inr later) each = first_canonical ts x xs later.1 each.1

module _ {e : ℕ → ℕ → Bool} (adj : IsAdjacency e) (class : Class) where
  -- a bar of two children that are no leaves
  bar_at_two : (k : Kind) (cs : PlainTrees) (ps : List Pair) → IsCanonicalTree (node k cs ps) → HasNoPrimeNode (node k cs ps) → FollowsTree e (node k cs ps) → IsNarrow class k →
      (x : NextInner cs) → NextInner x.1 → HasBar class e (names_below cs)
  bar_at_two k cs ps canonical free f narrow x y =
      let row : IsRow e k (names_below cs) cs = row_of_node e k cs ps canonical free f in
      let p : (p : ℕ) × (q : ℕ) × AreLeastTwo x.0 p q = some_least_two x.0 (first_canonical cs x.0 x.1 x.2 row.canonical).0 x.3 in
      let r : (r : ℕ) × (s : ℕ) × AreLeastTwo y.0 r s = some_least_two y.0 (first_canonical x.1 y.0 y.1 y.2 (first_canonical cs x.0 x.1 x.2 row.canonical).1).0 y.3 in
      (bar_across k p.0 p.1 r.0 r.1, witness adj k free.0 (names_below cs) class narrow cs x.0 x.1 y.0 y.1 row x.2 y.2 p.0 p.1 r.0 r.1 p.2 r.2)

  bar_or_one : (k : Kind) (cs : PlainTrees) (ps : List Pair) → IsCanonicalTree (node k cs ps) → HasNoPrimeNode (node k cs ps) → FollowsTree e (node k cs ps) → IsNarrow class k →
      HasBar class e (names_below cs) ⊎ HasOneInner cs
  bar_or_one k cs ps canonical free f narrow = elim (next_inner cs) [
    | inr leaves ↦ inr (one_of_leaves cs leaves)
    | inl x ↦ elim (next_inner x.1) [
      | inr leaves ↦ inr (one_of_then cs x.0 x.1 x.2 leaves)
      | inl y ↦ inl (bar_at_two k cs ps canonical free f narrow x y)
    ]
  ]

  bar_or_narrow : (k : Kind) (cs : PlainTrees) (ps : List Pair) → IsCanonicalTree (node k cs ps) → HasNoPrimeNode (node k cs ps) → FollowsTree e (node k cs ps) →
      HasBar class e (names_below cs) ⊎ (IsNarrow class k → HasOneInner cs)
  bar_or_narrow k cs ps canonical free f = elim (narrow_or_not class k) [
    | inr wide ↦ inr (λ narrow. absurd (wide narrow))
    | inl narrow ↦ elim (bar_or_one k cs ps canonical free f narrow) [ inl bar ↦ inl bar | inr one ↦ inr (λ _. one) ]
  ]

  mutual
    bar_or_few : (t : PlainTree) → IsCanonicalTree t → HasNoPrimeNode t → FollowsTree e t → HasBar class e (names t) ⊎ HasFewInner class t
    bar_or_few (leaf v) canonical free f = inr tt
    bar_or_few (node k cs ps) canonical free f = elim (bar_or_narrow k cs ps canonical free f) [
      | inl bar ↦ inl bar
      | inr narrow ↦ elim (bar_or_few_below (across k) cs canonical.1 free.1 f) [ inl bar ↦ inl bar | inr few ↦ inr (narrow, few) ]
    ]

    bar_or_few_below : (w : Bool) (cs : PlainTrees) → EachNodeBelow IsCanonicalNode cs → HaveNoPrimeNode cs → FollowsRow e w cs → HasBar class e (names_below cs) ⊎ HaveFewInner class cs
    bar_or_few_below w no_tree canonical free f = inr tt
    bar_or_few_below w (one_more t ts) canonical free f = elim (bar_or_few t canonical.0 free.0 f.0) [
      | inl bar ↦ inl (bar.0, bar_within class e (names t) (names_below (one_more t ts)) bar.0 (union_left (names t) (names_below ts)) bar.1)
      | inr few ↦ elim (bar_or_few_below w ts canonical.1 free.1 f.2) [
        | inl bar ↦ inl (bar.0, bar_within class e (names_below ts) (names_below (one_more t ts)) bar.0 (union_right (names t) (names_below ts)) bar.1)
        | inr rest ↦ inr (few, rest)
      ]
    ]

pub tree_follows : (e : ℕ → ℕ → Bool) → IsAdjacency e → (s : NameSet) (t : PlainTree) → IsTreeOf e s t → HasNoPrimeNode t → FollowsTree e t
tree_follows e adj s t is free =
    let c : (names t ≡ s) × IsCanonicalTree t = canonical_proof e adj s t is in
    follows e t c.1 free (λ a b ha hb. tells_proof e adj s t is a b (Has-along (names t) s c.0 a ha) (Has-along (names t) s c.0 b hb))

-- a bar has a name
first_inside : (kind : BarKind) (e : ℕ → ℕ → Bool) (s : NameSet) (a b c d : ℕ) → IsBarOfKind kind e s a b c d → Has s a
first_inside P4 e s a b c d is = is.inside.0
first_inside C4 e s a b c d is = is.inside.0
first_inside TwoK2 e s a b c d is = is.inside.0

pub no_bar_of_none : (class : Class) (e : ℕ → ℕ → Bool) (s : NameSet) → s ≡ empty → HasBar class e s → ⊥
no_bar_of_none class e s none bar =
    clash (Has-along s empty none bar.0.a (first_inside bar.0.kind e s bar.0.a bar.0.b bar.0.c bar.0.d bar.1.is)) (empty_lacks bar.0.a)

pub no_bar_of_tree : (e : ℕ → ℕ → Bool) → IsAdjacency e → (s : NameSet) (t : PlainTree) → IsTreeOf e s t → (class : Class) → HasNoPrimeNode t → HasFewInner class t → HasBar class e s → ⊥
no_bar_of_tree e adj s t is class free few bar =
    let same : names t ≡ s = (canonical_proof e adj s t is).0 in
    let no_path : HasInducedPath e s → ⊥ = (no_path_proof e adj s t is).1 free in
    no_bar adj class t free (tree_follows e adj s t is free) few (λ path. no_path (subst (HasInducedPath e) same path)) (subst (HasBar class e) (sym same) bar)

pub no_bar_if_few_inner_proof : NoBarIfFewInner
no_bar_if_few_inner_proof e adj s None is no_path class = ((λ _. tt), λ _. no_bar_of_none class e s is)
no_bar_if_few_inner_proof e adj s (Some t) is no_path class =
    let free : HasNoPrimeNode t = (no_path_proof e adj s t is).0 no_path in
    let c : (names t ≡ s) × IsCanonicalTree t = canonical_proof e adj s t is in (
      (λ none. elim (bar_or_few adj class t c.1 free (tree_follows e adj s t is free)) [
        | inl bar ↦ absurd (none (subst (HasBar class e) c.0 bar))
        | inr few ↦ few
      ]),
      λ few. no_bar_of_tree e adj s t is class free few,
    )

-- whether a graph has a bar of a class is decided: by an induced path, or by its tree
bar_by_tree : (class : Class) (e : ℕ → ℕ → Bool) → IsAdjacency e → (s : NameSet) (o : Option PlainTree) → IsTree e s o → ¬ (HasInducedPath e s) → Decided (HasBar class e s)
bar_by_tree class e adj s None is no_path = inr (no_bar_of_none class e s is)
bar_by_tree class e adj s (Some t) is no_path =
    let free : HasNoPrimeNode t = (no_path_proof e adj s t is).0 no_path in
    let c : (names t ≡ s) × IsCanonicalTree t = canonical_proof e adj s t is in
    elim (bar_or_few adj class t c.1 free (tree_follows e adj s t is free)) [
      | inl bar ↦ inl (subst (HasBar class e) c.0 bar)
      | inr few ↦ inr (no_bar_of_tree e adj s t is class free few)
    ]

pub decide_bar : (class : Class) (e : ℕ → ℕ → Bool) → IsAdjacency e → (s : NameSet) → Decided (HasBar class e s)
decide_bar class e adj s =
    elim (decide_path adj s) [
      | inl path ↦ inl (record { kind = P4; a = path.0; b = path.1; c = path.2; d = path.3 }, record { bars = tt; is = path.4 })
      | inr no_path ↦ let o = one_tree_proof e adj s in bar_by_tree class e adj s o.0 o.1 no_path
    ]
