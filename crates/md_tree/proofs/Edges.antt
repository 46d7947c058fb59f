-- The edges of a tree's nodes are those of the graph that it denotes.
use Rattle.std.proofs.Common.{◌≡◌, ◌≢◌, ℕ, suc, ◌<◌, true, false, cond, eqb, min, max, ◌&&◌, ◌||◌, ◌==◌, ◌⊎◌, List, [], ◌∷◌, refl, sym, ◌∙◌, ap, subst, inl, inr, true≢false, eqb-true, eq-eqb, arith}
use Rattle.std.specs.FinSet.{contains, empty, union}
use Rattle.md_graph.specs.Sets.{NameSet, Has, Lacks, Disjoint, only_name}
use Rattle.std.proofs.lemmas.Bool.{cases_Bool, false_from_ne_true, or_cases, or_left, or_right, and_parts, and_from}
use Rattle.std.specs.Cmp.{both_ways}
use Rattle.md_graph.proofs.SetLemmas.{clash, only_has, of_only, empty_lacks, union_left, union_right, of_union, ascending_or_not}
use Rattle.md_graph.specs.PlainGraph.{PlainGraph, adjacent, with_edge}
use Rattle.md_graph.proofs.GraphLemmas.{adjacent-with_edge}
use Rattle.md_tree.specs.declared.Kind.{Kind}
use Rattle.md_tree.specs.declared.Kind.TheVariants.{Parallel, Series, Prime}
use Rattle.md_tree.specs.declared.Pair.{Pair}
use Rattle.md_tree.specs.Trees.{PlainTree, leaf, node, PlainTrees, no_tree, one_more, names, names_below, names_at, EachNode, EachNodeBelow}
use Rattle.md_tree.specs.WellFormed.{AreDisjoint, IsCanonicalNode, IsPrimeNode}
use Rattle.md_tree.specs.TreeGraph.{position_of, lists_pair, joins, adjacent_in, adjacent_below}
use Rattle.md_tree.specs.TreeEdges.{crosses, in_two, in_listed, edge_across, has_edge_in, has_edge_below}
use Rattle.md_text.proofs.Lists.{In, to_contains}
use Rattle.md_tree.proofs.Pairs.{pair}
use Rattle.md_tree.proofs.Nodes.{at_position, at_inside, position_at}
use Rattle.md_tree.proofs.Graph.{of_lists, to_lists}

pub of_crosses : (a b : NameSet) (x y : ℕ) → crosses a b x y ≡ true → (Has a x × Has b y) ⊎ (Has a y × Has b x)
unfolding crosses
of_crosses a b x y h = elim (or_cases (contains a x && contains b y) (contains a y && contains b x) h) [
  | inl l ↦ inl (and_parts (contains a x) (contains b y) l)
  | inr r ↦ inr (and_parts (contains a y) (contains b x) r)
]

pub to_crosses : (a b : NameSet) (x y : ℕ) → (Has a x × Has b y) ⊎ (Has a y × Has b x) → crosses a b x y ≡ true
unfolding crosses
to_crosses a b x y (inl l) = or_left (contains a x && contains b y) (contains a y && contains b x) (and_from (contains a x) (contains b y) l.0 l.1)
to_crosses a b x y (inr r) = or_right (contains a x && contains b y) (contains a y && contains b x) (and_from (contains a y) (contains b x) r.0 r.1)

-- two names of a row, at different positions
record InTwo (cs : PlainTrees) (x y : ℕ) : Type 0 where
  first : Has (names_below cs) x
  second : Has (names_below cs) y
  differ : position_of cs x ≢ position_of cs y

pub here : (t : PlainTree) (ts : PlainTrees) (x : ℕ) → Has (names t) x → position_of (one_more t ts) x ≡ 0
here t ts x h = ap (λ w. cond w 0 (suc (position_of ts x))) h

pub later : (t : PlainTree) (ts : PlainTrees) (x : ℕ) → Lacks (names t) x → position_of (one_more t ts) x ≡ suc (position_of ts x)
later t ts x l = ap (λ w. cond w 0 (suc (position_of ts x))) l

below_lacks : (t : PlainTree) (ts : PlainTrees) (x : ℕ) → Disjoint (names t) (names_below ts) → Has (names_below ts) x → Lacks (names t) x
below_lacks t ts x apart h = false_from_ne_true _ (λ k. clash h (apart x k))

two_here : (t : PlainTree) (ts : PlainTrees) (x y : ℕ) → Disjoint (names t) (names_below ts) → Has (names t) x → Has (names_below ts) y →
    position_of (one_more t ts) x ≢ position_of (one_more t ts) y
two_here t ts x y apart hx hy same =
    let p : position_of (one_more t ts) x ≡ 0 = here t ts x hx in
    let q : position_of (one_more t ts) y ≡ suc (position_of ts y) = later t ts y (below_lacks t ts y apart hy) in
    let r : 0 ≡ suc (position_of ts y) = sym p ∙ same ∙ q in
    omega arith

of_two : (cs : PlainTrees) (x y : ℕ) → AreDisjoint cs → in_two cs x y ≡ true → InTwo cs x y
of_two no_tree x y apart h = absurd (true≢false (sym h))
of_two (one_more t ts) x y apart h = elim (or_cases (crosses (names t) (names_below ts) x y) (in_two ts x y) h) [
  | inl l ↦ elim (of_crosses (names t) (names_below ts) x y l) [
    | inl w ↦ record {
      first = union_left (names t) (names_below ts) x w.0;
      second = union_right (names t) (names_below ts) y w.1;
      differ = two_here t ts x y apart.0 w.0 w.1;
    }
    | inr w ↦ record {
      first = union_right (names t) (names_below ts) x w.1;
      second = union_left (names t) (names_below ts) y w.0;
      differ = λ same. two_here t ts y x apart.0 w.0 w.1 (sym same);
    }
  ]
  | inr r ↦ (
      let i : InTwo ts x y = of_two ts x y apart.1 r in
      let p : position_of (one_more t ts) x ≡ suc (position_of ts x) = later t ts x (below_lacks t ts x apart.0 i.first) in
      let q : position_of (one_more t ts) y ≡ suc (position_of ts y) = later t ts y (below_lacks t ts y apart.0 i.second) in
      record {
        first = union_right (names t) (names_below ts) x i.first;
        second = union_right (names t) (names_below ts) y i.second;
        differ = λ same. i.differ (let r : suc (position_of ts x) ≡ suc (position_of ts y) = sym p ∙ same ∙ q in omega arith);
      })
]

to_two : (cs : PlainTrees) (x y : ℕ) → InTwo cs x y → in_two cs x y ≡ true
to_two no_tree x y i = clash i.first (empty_lacks x)
to_two (one_more t ts) x y i = elim (cases_Bool (contains (names t) x)) [
  | inl hx ↦ elim (cases_Bool (contains (names t) y)) [
    | inl hy ↦ absurd (i.differ (here t ts x hx ∙ sym (here t ts y hy)))
    | inr ly ↦ or_left (crosses (names t) (names_below ts) x y) (in_two ts x y)
        (to_crosses (names t) (names_below ts) x y (inl (hx, elim (of_union (names t) (names_below ts) y i.second) [ inl k ↦ clash k ly | inr j ↦ j ])))
  ]
  | inr lx ↦ elim (cases_Bool (contains (names t) y)) [
    | inl hy ↦ or_left (crosses (names t) (names_below ts) x y) (in_two ts x y)
        (to_crosses (names t) (names_below ts) x y (inr (hy, elim (of_union (names t) (names_below ts) x i.first) [ inl k ↦ clash k lx | inr j ↦ j ])))
    | inr ly ↦ or_right (crosses (names t) (names_below ts) x y) (in_two ts x y) (to_two ts x y (record {
      first = elim (of_union (names t) (names_below ts) x i.first) [ inl k ↦ clash k lx | inr j ↦ j ];
      second = elim (of_union (names t) (names_below ts) y i.second) [ inl k ↦ clash k ly | inr j ↦ j ];
      differ = λ same. i.differ (later t ts x lx ∙ ap (λ n. suc n) same ∙ sym (later t ts y ly));
    }))
  ]
]

-- two names at the positions of a listed pair
of_listed : (cs : PlainTrees) (ps : List Pair) (x y : ℕ) → in_listed cs ps x y ≡ true → (p : Pair) × In ps p × (crosses (names_at cs p.low) (names_at cs p.high) x y ≡ true)
of_listed cs [] x y h = absurd (true≢false (sym h))
of_listed cs (p ∷ ps) x y h = elim (or_cases (crosses (names_at cs p.low) (names_at cs p.high) x y) (in_listed cs ps x y) h) [
  | inl l ↦ (p, inl refl, l)
  | inr r ↦ (let q : (p : Pair) × In ps p × (crosses (names_at cs p.low) (names_at cs p.high) x y ≡ true) = of_listed cs ps x y r in (q.0, inr q.1, q.2))
]

to_listed : (cs : PlainTrees) (ps : List Pair) (x y : ℕ) (p : Pair) → In ps p → crosses (names_at cs p.low) (names_at cs p.high) x y ≡ true → in_listed cs ps x y ≡ true
to_listed cs [] x y p i h = absurd i
to_listed cs (q ∷ ps) x y p (inl e) h =
    or_left (crosses (names_at cs q.low) (names_at cs q.high) x y) (in_listed cs ps x y) (subst (λ r. crosses (names_at cs r.low) (names_at cs r.high) x y ≡ true) e h)
to_listed cs (q ∷ ps) x y p (inr i) h = or_right (crosses (names_at cs q.low) (names_at cs q.high) x y) (in_listed cs ps x y) (to_listed cs ps x y p i h)

-- the edges between the children of a node
record AcrossEdge (k : Kind) (cs : PlainTrees) (ps : List Pair) (x y : ℕ) : Type 0 where
  two : InTwo cs x y
  joined : joins k ps (position_of cs x) (position_of cs y) ≡ true

sorted : (ps : List Pair) (i j : ℕ) → i < j → lists_pair ps i j ≡ true → (lists_pair ps (min i j) (max i j) ≡ true) × (lists_pair ps (min j i) (max j i) ≡ true)
sorted ps i j l h =
    let a : min i j ≡ i = omega arith in
    let b : max i j ≡ j = omega arith in
    let c : min j i ≡ i = omega arith in
    let d : max j i ≡ j = omega arith in
    (ap (λ w. lists_pair ps w (max i j)) a ∙ ap (lists_pair ps i) b ∙ h, ap (λ w. lists_pair ps w (max j i)) c ∙ ap (lists_pair ps i) d ∙ h)

of_across_prime : (cs : PlainTrees) (ps : List Pair) (x y : ℕ) → AreDisjoint cs → IsPrimeNode cs ps → in_listed cs ps x y ≡ true → AcrossEdge Prime cs ps x y
of_across_prime cs ps x y apart shape h =
    let p : (p : Pair) × In ps p × (crosses (names_at cs p.low) (names_at cs p.high) x y ≡ true) = of_listed cs ps x y h in
    let less : p.0.low < p.0.high = (shape.positions p.0 (to_contains ps p.0 p.1)).0 in
    let s : (lists_pair ps (min p.0.low p.0.high) (max p.0.low p.0.high) ≡ true) × (lists_pair ps (min p.0.high p.0.low) (max p.0.high p.0.low) ≡ true) =
    sorted ps p.0.low p.0.high less (to_lists ps p.0 p.1) in
    elim (of_crosses (names_at cs p.0.low) (names_at cs p.0.high) x y p.2) [
      | inl w ↦ (
          let a : position_of cs x ≡ p.0.low = position_at cs apart p.0.low x w.0 in
          let b : position_of cs y ≡ p.0.high = position_at cs apart p.0.high y w.1 in
          record {
            two = record { first = at_inside cs p.0.low x w.0; second = at_inside cs p.0.high y w.1; differ = λ same. omega arith };
            joined = ap (λ i. lists_pair ps (min i (position_of cs y)) (max i (position_of cs y))) a ∙ ap (λ j. lists_pair ps (min p.0.low j) (max p.0.low j)) b ∙ s.0;
          })
      | inr w ↦ (
          let a : position_of cs y ≡ p.0.low = position_at cs apart p.0.low y w.0 in
          let b : position_of cs x ≡ p.0.high = position_at cs apart p.0.high x w.1 in
          record {
            two = record { first = at_inside cs p.0.high x w.1; second = at_inside cs p.0.low y w.0; differ = λ same. omega arith };
            joined = ap (λ i. lists_pair ps (min i (position_of cs y)) (max i (position_of cs y))) b ∙ ap (λ j. lists_pair ps (min p.0.high j) (max p.0.high j)) a ∙ s.1;
          })
    ]

to_across_prime : (cs : PlainTrees) (ps : List Pair) (x y : ℕ) → AcrossEdge Prime cs ps x y → in_listed cs ps x y ≡ true
to_across_prime cs ps x y is = elim (ascending_or_not (position_of cs x) (position_of cs y) is.two.differ) [
  | inl l ↦ (
      let a : min (position_of cs x) (position_of cs y) ≡ position_of cs x = omega arith in
      let b : max (position_of cs x) (position_of cs y) ≡ position_of cs y = omega arith in
      to_listed cs ps x y (pair (position_of cs x) (position_of cs y))
      (of_lists ps (position_of cs x) (position_of cs y)
      (sym (ap (λ w. lists_pair ps w (max (position_of cs x) (position_of cs y))) a ∙ ap (lists_pair ps (position_of cs x)) b) ∙ is.joined))
      (to_crosses (names_at cs (position_of cs x)) (names_at cs (position_of cs y)) x y (inl (at_position cs x is.two.first, at_position cs y is.two.second))))
  | inr l ↦ (
      let a : min (position_of cs x) (position_of cs y) ≡ position_of cs y = omega arith in
      let b : max (position_of cs x) (position_of cs y) ≡ position_of cs x = omega arith in
      to_listed cs ps x y (pair (position_of cs y) (position_of cs x))
      (of_lists ps (position_of cs y) (position_of cs x)
      (sym (ap (λ w. lists_pair ps w (max (position_of cs x) (position_of cs y))) a ∙ ap (lists_pair ps (position_of cs y)) b) ∙ is.joined))
      (to_crosses (names_at cs (position_of cs y)) (names_at cs (position_of cs x)) x y (inr (at_position cs y is.two.second, at_position cs x is.two.first))))
]

of_across : (k : Kind) (cs : PlainTrees) (ps : List Pair) (x y : ℕ) → IsCanonicalNode k cs ps → edge_across k cs ps x y ≡ true → AcrossEdge k cs ps x y
of_across Parallel cs ps x y is h = absurd (true≢false (sym h))
of_across Series cs ps x y is h = record { two = of_two cs x y is.apart h; joined = refl }
of_across Prime cs ps x y is h = of_across_prime cs ps x y is.apart is.shape h

to_across : (k : Kind) (cs : PlainTrees) (ps : List Pair) (x y : ℕ) → AcrossEdge k cs ps x y → edge_across k cs ps x y ≡ true
to_across Parallel cs ps x y is = is.joined
to_across Series cs ps x y is = to_two cs x y is.two
to_across Prime cs ps x y is = to_across_prime cs ps x y is

-- the edges of a tree
record IsEdge (t : PlainTree) (x y : ℕ) : Type 0 where
  first : Has (names t) x
  second : Has (names t) y
  adjacent : adjacent_in t x y ≡ true

record IsEdgeBelow (cs : PlainTrees) (x y : ℕ) : Type 0 where
  first : Has (names_below cs) x
  second : Has (names_below cs) y
  same : position_of cs x ≡ position_of cs y
  adjacent : adjacent_below cs x y ≡ true

mutual
  of_edge : (t : PlainTree) → EachNode IsCanonicalNode t → (x y : ℕ) → has_edge_in t x y ≡ true → IsEdge t x y
  of_edge (leaf v) each x y h = absurd (true≢false (sym h))
  of_edge (node k cs ps) each x y h = elim (or_cases (has_edge_below cs x y) (edge_across k cs ps x y) h) [
    | inl l ↦ (
        let i : IsEdgeBelow cs x y = of_edge_below cs each.1 each.0.apart x y l in
        record {
          first = i.first;
          second = i.second;
          adjacent = ap (λ w. cond w (adjacent_below cs x y) (joins k ps (position_of cs x) (position_of cs y))) (eq-eqb (position_of cs x) (position_of cs y) i.same) ∙ i.adjacent;
        })
    | inr r ↦ (
        let i : AcrossEdge k cs ps x y = of_across k cs ps x y each.0 r in
        let n : eqb (position_of cs x) (position_of cs y) ≡ false = false_from_ne_true _ (λ e. i.two.differ (eqb-true (position_of cs x) (position_of cs y) e)) in
        record {
          first = i.two.first;
          second = i.two.second;
          adjacent = ap (λ w. cond w (adjacent_below cs x y) (joins k ps (position_of cs x) (position_of cs y))) n ∙ i.joined;
        })
  ]

  of_edge_below : (cs : PlainTrees) → EachNodeBelow IsCanonicalNode cs → AreDisjoint cs → (x y : ℕ) → has_edge_below cs x y ≡ true → IsEdgeBelow cs x y
  of_edge_below no_tree each apart x y h = absurd (true≢false (sym h))
  of_edge_below (one_more t ts) each apart x y h = elim (or_cases (has_edge_in t x y) (has_edge_below ts x y) h) [
    | inl l ↦ (
        let i : IsEdge t x y = of_edge t each.0 x y l in
        record {
          first = union_left (names t) (names_below ts) x i.first;
          second = union_left (names t) (names_below ts) y i.second;
          same = here t ts x i.first ∙ sym (here t ts y i.second);
          adjacent = ap (λ w. cond w (adjacent_in t x y) (adjacent_below ts x y)) i.first ∙ i.adjacent;
        })
    | inr r ↦ (
        let i : IsEdgeBelow ts x y = of_edge_below ts each.1 apart.1 x y r in
        let lx : Lacks (names t) x = below_lacks t ts x apart.0 i.first in
        record {
          first = union_right (names t) (names_below ts) x i.first;
          second = union_right (names t) (names_below ts) y i.second;
          same = later t ts x lx ∙ ap (λ n. suc n) i.same ∙ sym (later t ts y (below_lacks t ts y apart.0 i.second));
          adjacent = ap (λ w. cond w (adjacent_in t x y) (adjacent_below ts x y)) lx ∙ i.adjacent;
        })
  ]

mutual
  to_edge : (t : PlainTree) → (x y : ℕ) → IsEdge t x y → has_edge_in t x y ≡ true
  to_edge (leaf v) x y is = is.adjacent
  to_edge (node k cs ps) x y is = elim (cases_Bool (eqb (position_of cs x) (position_of cs y))) [
    | inl e ↦ or_left (has_edge_below cs x y) (edge_across k cs ps x y) (to_edge_below cs x y (record {
      first = is.first;
      second = is.second;
      same = eqb-true (position_of cs x) (position_of cs y) e;
      adjacent = sym (ap (λ w. cond w (adjacent_below cs x y) (joins k ps (position_of cs x) (position_of cs y))) e) ∙ is.adjacent;
    }))
    | inr n ↦ or_right (has_edge_below cs x y) (edge_across k cs ps x y) (to_across k cs ps x y (record {
      two = record { first = is.first; second = is.second; differ = λ same. clash (eq-eqb (position_of cs x) (position_of cs y) same) n };
      joined = sym (ap (λ w. cond w (adjacent_below cs x y) (joins k ps (position_of cs x) (position_of cs y))) n) ∙ is.adjacent;
    }))
  ]

  to_edge_below : (cs : PlainTrees) → (x y : ℕ) → IsEdgeBelow cs x y → has_edge_below cs x y ≡ true
  to_edge_below no_tree x y is = clash is.first (empty_lacks x)
  to_edge_below (one_more t ts) x y is = elim (cases_Bool (contains (names t) x)) [
    | inl hx ↦ elim (cases_Bool (contains (names t) y)) [
      | inl hy ↦ or_left (has_edge_in t x y) (has_edge_below ts x y) (to_edge t x y (record {
        first = hx;
        second = hy;
        adjacent = sym (ap (λ w. cond w (adjacent_in t x y) (adjacent_below ts x y)) hx) ∙ is.adjacent;
      }))
      | inr ly ↦ (let r : 0 ≡ suc (position_of ts y) = sym (here t ts x hx) ∙ is.same ∙ later t ts y ly in absurd (omega arith))
    ]
    | inr lx ↦ elim (cases_Bool (contains (names t) y)) [
      | inl hy ↦ (let r : suc (position_of ts x) ≡ 0 = sym (later t ts x lx) ∙ is.same ∙ here t ts y hy in absurd (omega arith))
      | inr ly ↦ or_right (has_edge_in t x y) (has_edge_below ts x y) (to_edge_below ts x y (record {
        first = elim (of_union (names t) (names_below ts) x is.first) [ inl k ↦ clash k lx | inr j ↦ j ];
        second = elim (of_union (names t) (names_below ts) y is.second) [ inl k ↦ clash k ly | inr j ↦ j ];
        same = (let r : suc (position_of ts x) ≡ suc (position_of ts y) = sym (later t ts x lx) ∙ is.same ∙ later t ts y ly in omega arith);
        adjacent = sym (ap (λ w. cond w (adjacent_in t x y) (adjacent_below ts x y)) lx) ∙ is.adjacent;
      }))
    ]
  ]

-- the edges of the nodes are the pairs of names that are adjacent in the tree
pub edges_are : (t : PlainTree) → EachNode IsCanonicalNode t → (x y : ℕ) → has_edge_in t x y ≡ ((contains (names t) x && contains (names t) y) && adjacent_in t x y)
edges_are t each x y = both_ways (has_edge_in t x y) ((contains (names t) x && contains (names t) y) && adjacent_in t x y)
    (λ h. let i : IsEdge t x y = of_edge t each x y h in
    and_from (contains (names t) x && contains (names t) y) (adjacent_in t x y) (and_from (contains (names t) x) (contains (names t) y) i.first i.second) i.adjacent)
    (λ h.
    let a : (contains (names t) x && contains (names t) y ≡ true) × (adjacent_in t x y ≡ true) = and_parts (contains (names t) x && contains (names t) y) (adjacent_in t x y) h in
    let b : Has (names t) x × Has (names t) y = and_parts (contains (names t) x) (contains (names t) y) a.0 in
    to_edge t x y (record { first = b.0; second = b.1; adjacent = a.1 }))

-- the edges across a union
pub crosses_right : (a : NameSet) (t : PlainTree) (ts : PlainTrees) (x y : ℕ) →
    crosses a (names_below (one_more t ts)) x y ≡ (crosses a (names t) x y || crosses a (names_below ts) x y)
crosses_right a t ts x y =
    both_ways (crosses a (union (names t) (names_below ts)) x y) (crosses a (names t) x y || crosses a (names_below ts) x y)
    (λ h. elim (of_crosses a (union (names t) (names_below ts)) x y h) [
      | inl w ↦ elim (of_union (names t) (names_below ts) y w.1) [
        | inl i ↦ or_left (crosses a (names t) x y) (crosses a (names_below ts) x y) (to_crosses a (names t) x y (inl (w.0, i)))
        | inr i ↦ or_right (crosses a (names t) x y) (crosses a (names_below ts) x y) (to_crosses a (names_below ts) x y (inl (w.0, i)))
      ]
      | inr w ↦ elim (of_union (names t) (names_below ts) x w.1) [
        | inl i ↦ or_left (crosses a (names t) x y) (crosses a (names_below ts) x y) (to_crosses a (names t) x y (inr (w.0, i)))
        | inr i ↦ or_right (crosses a (names t) x y) (crosses a (names_below ts) x y) (to_crosses a (names_below ts) x y (inr (w.0, i)))
      ]
    ])
    (λ h. elim (or_cases (crosses a (names t) x y) (crosses a (names_below ts) x y) h) [
      | inl l ↦ elim (of_crosses a (names t) x y l) [
        | inl w ↦ to_crosses a (union (names t) (names_below ts)) x y (inl (w.0, union_left (names t) (names_below ts) y w.1))
        | inr w ↦ to_crosses a (union (names t) (names_below ts)) x y (inr (w.0, union_left (names t) (names_below ts) x w.1))
      ]
      | inr l ↦ elim (of_crosses a (names_below ts) x y l) [
        | inl w ↦ to_crosses a (union (names t) (names_below ts)) x y (inl (w.0, union_right (names t) (names_below ts) y w.1))
        | inr w ↦ to_crosses a (union (names t) (names_below ts)) x y (inr (w.0, union_right (names t) (names_below ts) x w.1))
      ]
    ])

crosses_turn : (a b : NameSet) (x y : ℕ) → crosses a b x y ≡ crosses b a x y
crosses_turn a b x y = both_ways (crosses a b x y) (crosses b a x y)
    (λ h. to_crosses b a x y (elim (of_crosses a b x y h) [ inl w ↦ inr (w.1, w.0) | inr w ↦ inl (w.1, w.0) ]))
    (λ h. to_crosses a b x y (elim (of_crosses b a x y h) [ inl w ↦ inr (w.1, w.0) | inr w ↦ inl (w.1, w.0) ]))

pub crosses_left : (b : NameSet) (t : PlainTree) (ts : PlainTrees) (x y : ℕ) →
    crosses (names_below (one_more t ts)) b x y ≡ (crosses (names t) b x y || crosses (names_below ts) b x y)
crosses_left b t ts x y =
    crosses_turn (union (names t) (names_below ts)) b x y ∙ crosses_right b t ts x y
    ∙ ap (λ w. w || crosses b (names_below ts) x y) (crosses_turn b (names t) x y) ∙ ap (λ w. crosses (names t) b x y || w) (crosses_turn b (names_below ts) x y)

pub crosses_none : (a : NameSet) (x y : ℕ) → crosses a empty x y ≡ false
crosses_none a x y = false_from_ne_true _ (λ h. elim (of_crosses a empty x y h) [ inl w ↦ clash w.1 (empty_lacks y) | inr w ↦ clash w.1 (empty_lacks x) ])

pub none_crosses : (b : NameSet) (x y : ℕ) → crosses empty b x y ≡ false
none_crosses b x y = crosses_turn empty b x y ∙ crosses_none b x y

-- one edge
pub joined_two : (g h : PlainGraph) (u v : ℕ) → h ≡ with_edge g u v → (x y : ℕ) → adjacent h x y ≡ (adjacent g x y || crosses (only_name u) (only_name v) x y)
joined_two g h u v same x y =
    ap (λ k. adjacent k x y) same ∙ adjacent-with_edge g u v x y
    ∙ both_ways ((((x == u) && (y == v)) || ((x == v) && (y == u))) || adjacent g x y) (adjacent g x y || crosses (only_name u) (only_name v) x y) forth back
  where
    forth : ((((x == u) && (y == v)) || ((x == v) && (y == u))) || adjacent g x y) ≡ true → (adjacent g x y || crosses (only_name u) (only_name v) x y) ≡ true
    forth h = elim (or_cases (((x == u) && (y == v)) || ((x == v) && (y == u))) (adjacent g x y) h) [
      | inl l ↦ or_right (adjacent g x y) (crosses (only_name u) (only_name v) x y) (to_crosses (only_name u) (only_name v) x y
          (elim (or_cases ((x == u) && (y == v)) ((x == v) && (y == u)) l) [
            | inl w ↦ (let p : ((x == u) ≡ true) × ((y == v) ≡ true) = and_parts (x == u) (y == v) w in
                inl (subst (Has (only_name u)) (sym (eqb-true x u p.0)) (only_has u), subst (Has (only_name v)) (sym (eqb-true y v p.1)) (only_has v)))
            | inr w ↦ (let p : ((x == v) ≡ true) × ((y == u) ≡ true) = and_parts (x == v) (y == u) w in
                inr (subst (Has (only_name u)) (sym (eqb-true y u p.1)) (only_has u), subst (Has (only_name v)) (sym (eqb-true x v p.0)) (only_has v)))
          ]))
      | inr r ↦ or_left (adjacent g x y) (crosses (only_name u) (only_name v) x y) r
    ]

    back : (adjacent g x y || crosses (only_name u) (only_name v) x y) ≡ true → ((((x == u) && (y == v)) || ((x == v) && (y == u))) || adjacent g x y) ≡ true
    back h = elim (or_cases (adjacent g x y) (crosses (only_name u) (only_name v) x y) h) [
      | inl l ↦ or_right (((x == u) && (y == v)) || ((x == v) && (y == u))) (adjacent g x y) l
      | inr r ↦ or_left (((x == u) && (y == v)) || ((x == v) && (y == u))) (adjacent g x y)
          (elim (of_crosses (only_name u) (only_name v) x y r) [
            | inl w ↦ or_left ((x == u) && (y == v)) ((x == v) && (y == u)) (and_from (x == u) (y == v) (eq-eqb x u (of_only u x w.0)) (eq-eqb y v (of_only v y w.1)))
            | inr w ↦ or_right ((x == u) && (y == v)) ((x == v) && (y == u)) (and_from (x == v) (y == u) (eq-eqb x v (of_only v x w.1)) (eq-eqb y u (of_only u y w.0)))
          ])
    ]
