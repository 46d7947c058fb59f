-- Adjacency by counts: two names of a tree are adjacent where they stand once in two different trees below a series node.
use Rattle.std.proofs.Common.{◌≡◌, ◌≢◌, ◌⊎◌, ℕ, suc, ◌+◌, ◌*◌, ◌<◌, ◌≤◌, Bool, true, false, not, cond, ◌&&◌, ◌||◌, ◌==◌, [], Some, refl, sym, ◌∙◌, ap, subst, inl, inr, arith}
use Rattle.std.proofs.lemmas.Bool.{cases_eq, cases_lt, eq-eqb, ne_eqb, false_from_ne_true}
use Rattle.std.specs.FinSet.{contains}
use Rattle.md_graph.specs.declared.TheConstants.{NAMES}
use Rattle.md_graph.specs.Sets.{Has, Lacks}
use Rattle.md_graph.specs.NameSet.{AllBelow}
use Rattle.md_graph.specs.PlainGraph.{PlainGraph, IsGraph, adjacent, with_edge, without_edge}
use Rattle.md_graph.proofs.SetLemmas.{clash, only_has, of_only, union_left, union_right, of_union, same_members, empty_lacks, same_turned}
use Rattle.md_graph.proofs.GraphLemmas.{same_graph, adjacent_ends, IsGraph-with_edge, adjacent-with_edge, IsGraph-without_edge, adjacent-without_edge}
use Rattle.md_tree.specs.Trees.{names, names_below}
use Rattle.md_tree.specs.TreeGraph.{position_of, joins, adjacent_in, adjacent_below, graph_of_tree}
use Rattle.md_tree.proofs.Edges.{here as first_place, later as later_place}
use Rattle.md_cotree.specs.PlaceTrees.{PlaceTree, tip, inner, PlaceTrees, no_more, then, kind_of, shape, shapes}
use Rattle.md_cotree.proofs.Frames.{miss}
use Rattle.md_cotree.proofs.TreeGraphs.{some_graph, graph_tells}
use Rattle.md_cotree_edit.specs.Counts.{name_in, name_row, pair_row, edge_in, edge_row, crossing}
use Rattle.md_cotree_edit.proofs.Trees.LocalCounts.{edge_none, edges_none, edge_turned, edges_turned, pair_none, pair_turned, sum_no}
use Rattle.md_cotree.proofs.Meeting.{joins_kind}

-- ---- names

mutual
  pub counted_has : (t : PlaceTree) (x : ℕ) → 0 < name_in x t → Has (names (shape t)) x
  counted_has (tip p v) x some =
      elim (cases_eq v x) [
        | inl same ↦ subst (λ z. Has (names (shape (tip p v))) z) same (only_has v)
        | inr other ↦ absurd (let m = miss v x other in omega arith)
      ]
  counted_has (inner p k ts) x some = counted_have ts x some

  counted_have : (ts : PlaceTrees) (x : ℕ) → 0 < name_row x ts → Has (names_below (shapes ts)) x
  counted_have no_more x some = absurd (omega arith)
  counted_have (then t ts) x some =
      elim (cases_lt 0 (name_in x t)) [
        | inl here ↦ union_left (names (shape t)) (names_below (shapes ts)) x (counted_has t x here)
        | inr none ↦ union_right (names (shape t)) (names_below (shapes ts)) x (counted_have ts x (omega arith))
      ]

mutual
  pub has_counted : (t : PlaceTree) (x : ℕ) → Has (names (shape t)) x → 0 < name_in x t
  has_counted (tip p v) x h = let same = of_only v x h in let e : ◌≡◌ {A = ℕ} (cond (v == x) 1 0) 1 = rw (eq-eqb v x (sym same)) refl in omega arith
  has_counted (inner p k ts) x h = have_counted ts x h

  have_counted : (ts : PlaceTrees) (x : ℕ) → Has (names_below (shapes ts)) x → 0 < name_row x ts
  have_counted no_more x h = clash h (empty_lacks x)
  have_counted (then t ts) x h =
      elim (of_union (names (shape t)) (names_below (shapes ts)) x h) [
        | inl i ↦ let e = has_counted t x i in omega arith
        | inr i ↦ let e = have_counted ts x i in omega arith
      ]

lacks : (t : PlaceTree) (x : ℕ) → name_in x t ≡ 0 → Lacks (names (shape t)) x
lacks t x none = false_from_ne_true _ (λ h. absurd (let e = has_counted t x h in omega arith))

-- ---- adjacency

-- two names in one tree of a row
record Alike (ts : PlaceTrees) (x y : ℕ) : Type 0 where
  at : position_of (shapes ts) x ≡ position_of (shapes ts) y
  edges : edge_row x y ts ≡ cond (adjacent_below (shapes ts) x y) 1 0
  pairs : pair_row x y ts ≡ 0

-- and in two
record Unlike (ts : PlaceTrees) (x y : ℕ) : Type 0 where
  at : position_of (shapes ts) x ≢ position_of (shapes ts) y
  edges : edge_row x y ts ≡ 0
  pairs : pair_row x y ts ≡ 1

no_edge : (x y : ℕ) (t : PlaceTree) → name_in y t ≡ 0 → edge_in x y t ≡ 0
no_edge x y t none = edge_turned x y t ∙ edge_none y x t none

edges_turned_none : (x y : ℕ) (ts : PlaceTrees) → name_row y ts ≡ 0 → edge_row x y ts ≡ 0
edges_turned_none x y ts none = edges_turned x y ts ∙ edges_none y x ts none

pairs_turned_none : (x y : ℕ) (ts : PlaceTrees) → name_row y ts ≡ 0 → pair_row x y ts ≡ 0
pairs_turned_none x y ts none = pair_turned x y ts ∙ pair_none y x ts none

mutual
  pub told : (t : PlaceTree) (x y : ℕ) → name_in x t ≡ 1 → name_in y t ≡ 1 → edge_in x y t ≡ cond (adjacent_in (shape t) x y) 1 0
  told (tip p v) x y hx hy = refl
  told (inner p k ts) x y hx hy =
      elim (told_row ts x y hx hy) [
        | inl a ↦
            (λ i. cond k (a.pairs i) 0 + a.edges i) ∙ none k (adjacent_below (shapes ts) x y)
            ∙ sym (ap (λ b. cond (cond b (adjacent_below (shapes ts) x y) (joins (kind_of k) [] (position_of (shapes ts) x) (position_of (shapes ts) y))) 1 0) (eq-eqb _ _ a.at))
        | inr a ↦
            (λ i. cond k (a.pairs i) 0 + a.edges i) ∙ one k
            ∙ sym (ap (λ b. cond (cond b (adjacent_below (shapes ts) x y) (joins (kind_of k) [] (position_of (shapes ts) x) (position_of (shapes ts) y))) 1 0) (ne_eqb _ _ a.at)
            ∙ ap (λ b. cond b 1 0) (joins_kind k (position_of (shapes ts) x) (position_of (shapes ts) y)))
      ]
    where
      none : (k b : Bool) → ◌≡◌ {A = ℕ} (cond k 0 0 + cond b 1 0) (cond b 1 0)
      none true b = omega arith
      none false b = omega arith

      one : (k : Bool) → ◌≡◌ {A = ℕ} (cond k 1 0 + 0) (cond k 1 0)
      one true = refl
      one false = refl

  told_row : (ts : PlaceTrees) (x y : ℕ) → name_row x ts ≡ 1 → name_row y ts ≡ 1 → Alike ts x y ⊎ Unlike ts x y
  told_row no_more x y hx hy = absurd (omega arith)
  told_row (then t ts) x y hx hy =
      elim (cases_lt 0 (name_in x t)) [
        | inl ix ↦
            let no_x : name_row x ts ≡ 0 = omega arith in
            let has_x = counted_has t x ix in
            elim (cases_lt 0 (name_in y t)) [
              | inl iy ↦
                  let no_y : name_row y ts ≡ 0 = omega arith in
                  let has_y = counted_has t y iy in
                  let e = told t x y (omega arith) (omega arith) in
                  let f = edges_none x y ts no_x in
                  inl (record {
                    at = first_place (shape t) (shapes ts) x has_x ∙ sym (first_place (shape t) (shapes ts) y has_y);
                    edges = sum_first _ _ _ e f ∙ sym (ap (λ b. cond (cond b (adjacent_in (shape t) x y) (adjacent_below (shapes ts) x y)) 1 0) has_x);
                    pairs = (λ i. (name_in x t * no_y i + name_in y t * no_x i) + pair_none x y ts no_x i) ∙ omega arith;
                  })
              | inr jy ↦
                  let no_y : name_in y t ≡ 0 = omega arith in
                  let one_x : name_in x t ≡ 1 = omega arith in
                  let one_y : name_row y ts ≡ 1 = omega arith in
                  inr (record {
                    at = λ e. let p : 0 ≡ suc (position_of (shapes ts) y) = sym (first_place (shape t) (shapes ts) x has_x) ∙ e ∙ later_place (shape t) (shapes ts) y (lacks t y no_y) in omega arith;
                    edges = (λ i. no_edge x y t no_y i + edges_none x y ts no_x i);
                    pairs = (λ i. (one_x i * one_y i + no_y i * no_x i) + pair_none x y ts no_x i);
                  })
            ]
        | inr jx ↦
            let no_x : name_in x t ≡ 0 = omega arith in
            let one_x : name_row x ts ≡ 1 = omega arith in
            let lacks_x = lacks t x no_x in
            elim (cases_lt 0 (name_in y t)) [
              | inl iy ↦
                  let no_y : name_row y ts ≡ 0 = omega arith in
                  let one_y : name_in y t ≡ 1 = omega arith in
                  let has_y = counted_has t y iy in
                  inr (record {
                    at = λ e. let p : suc (position_of (shapes ts) x) ≡ 0 = sym (later_place (shape t) (shapes ts) x lacks_x) ∙ e ∙ first_place (shape t) (shapes ts) y has_y in omega arith;
                    edges = (λ i. edge_none x y t no_x i + (edges_turned_none x y ts no_y) i);
                    pairs = (λ i. (no_x i * no_y i + one_y i * one_x i) + pairs_turned_none x y ts no_y i);
                  })
              | inr jy ↦
                  let no_y : name_in y t ≡ 0 = omega arith in
                  let one_y : name_row y ts ≡ 1 = omega arith in
                  let lacks_y = lacks t y no_y in
                  let f = edge_none x y t no_x in
                  elim (told_row ts x y one_x one_y) [
                    | inl a ↦ inl (record {
                      at = later_place (shape t) (shapes ts) x lacks_x ∙ ap (λ z. suc z) a.at ∙ sym (later_place (shape t) (shapes ts) y lacks_y);
                      edges = sum_no _ _ _ f a.edges ∙ sym (ap (λ b. cond (cond b (adjacent_in (shape t) x y) (adjacent_below (shapes ts) x y)) 1 0) lacks_x);
                      pairs = (λ i. (no_x i * name_row y ts + no_y i * name_row x ts) + a.pairs i) ∙ omega arith;
                    })
                    | inr a ↦ inr (record {
                      at = λ e. a.at (let p : suc (position_of (shapes ts) x) ≡ suc (position_of (shapes ts) y) =
                          sym (later_place (shape t) (shapes ts) x lacks_x) ∙ e ∙ later_place (shape t) (shapes ts) y lacks_y in omega arith);
                      edges = (λ i. f i + a.edges i);
                      pairs = (λ i. (no_x i * name_row y ts + no_y i * name_row x ts) + a.pairs i) ∙ omega arith;
                    })
                  ]
            ]
      ]
    where
      sum_first : (a b n : ℕ) → a ≡ n → b ≡ 0 → a + b ≡ n
      sum_first a b n e f = omega arith

-- ---- the graph

-- each name stands once at most, and below the limit
pub record AreNamed (t : PlaceTree) : Type 0 where
  pub once : (x : ℕ) → name_in x t ≤ 1
  pub low : AllBelow (names (shape t)) NAMES

abbrev pub graph_in : PlaceTree → PlainGraph
graph_in t = graph_of_tree (Some (shape t))

pub told_graph : (t : PlaceTree) → AreNamed t → (x y : ℕ) → 0 < name_in x t → 0 < name_in y t → edge_in x y t ≡ cond (adjacent (graph_in t) x y) 1 0
told_graph t is x y hx hy =
    told t x y (let o = is.once x in omega arith) (let o = is.once y in omega arith)
    ∙ ap (λ b. cond b 1 0) (graph_tells (shape t) is.low x y (counted_has t x hx) (counted_has t y hy))

pub same_value : (j k : Bool) → ◌≡◌ {A = ℕ} (cond j 1 0) (cond k 1 0) → j ≡ k
same_value true true e = refl
same_value true false e = absurd (omega arith)
same_value false true e = absurd (omega arith)
same_value false false e = refl

-- two of four tests, by their counts
either_count : (p q r w : Bool) → ((((p && q) || (r && w)) ≡ true) × (1 ≤ cond p 1 0 * cond q 1 0 + cond w 1 0 * cond r 1 0)) ⊎ ((((p && q) || (r && w)) ≡ false) × (cond p 1 0 * cond q 1 0 + cond w 1 0 * cond r 1 0 ≡ 0))
either_count true true r w = inl (refl, omega arith)
either_count true false true true = inl (refl, omega arith)
either_count true false true false = inr (refl, omega arith)
either_count true false false w = inr (refl, omega arith)
either_count false q true true = inl (refl, omega arith)
either_count false q true false = inr (refl, omega arith)
either_count false q false w = inr (refl, omega arith)

one_more_is : (a b c : Bool) (n : ℕ) → ((c ≡ true) × (1 ≤ n)) ⊎ ((c ≡ false) × (n ≡ 0)) → cond a 1 0 ≡ cond b 1 0 + n → a ≡ (c || b)
one_more_is true b c n (inl h) e = sym (ap (λ z. z || b) h.0)
one_more_is false b c n (inl h) e = absurd (let low = h.1 in omega arith)
one_more_is true true c n (inr h) e = sym (ap (λ z. z || true) h.0)
one_more_is true false c n (inr h) e = absurd (let low = h.1 in omega arith)
one_more_is false true c n (inr h) e = absurd (let low = h.1 in omega arith)
one_more_is false false c n (inr h) e = sym (ap (λ z. z || false) h.0)

one_less_is : (a b c : Bool) (n : ℕ) → ((c ≡ true) × (1 ≤ n)) ⊎ ((c ≡ false) × (n ≡ 0)) → cond a 1 0 + n ≡ cond b 1 0 → a ≡ (not c && b)
one_less_is true b c n (inl h) e = absurd (at_most_one b (let low = h.1 in omega arith))
  where
    at_most_one : (b : Bool) → 2 ≤ cond b 1 0 → ⊥
    at_most_one true low = omega arith
    at_most_one false low = omega arith
one_less_is false b c n (inl h) e = sym (ap (λ z. not z && b) h.0)
one_less_is true true c n (inr h) e = sym (ap (λ z. not z && true) h.0)
one_less_is true false c n (inr h) e = absurd (omega arith)
one_less_is false true c n (inr h) e = absurd (let low = h.1 in omega arith)
one_less_is false false c n (inr h) e = sym (ap (λ z. not z && false) h.0)

module _ (t s : PlaceTree) (is : AreNamed t) (same : (x : ℕ) → name_in x s ≡ name_in x t) where
  turned_names : names (shape s) ≡ names (shape t)
  turned_names =
      same_members (names (shape s)) (names (shape t)) (λ x h. counted_has t x (let a = has_counted s x h in let e = same x in omega arith))
      (λ x h. counted_has s x (let a = has_counted t x h in let e = same x in omega arith))

  pub turned_named : AreNamed s
  turned_named = record {
    once = λ x. let o = is.once x in let e = same x in omega arith;
    low = λ x h. is.low x (counted_has t x (let a = has_counted s x h in let e = same x in omega arith));
  }

  -- the same graph where each pair is told as there
  pub graph_by_pairs : (h : PlainGraph) → IsGraph h → h.vertices ≡ names (shape t) → ((x y : ℕ) → Has (names (shape t)) x → Has (names (shape t)) y → adjacent (graph_in s) x y ≡ adjacent h x y) → graph_in s ≡ h
  graph_by_pairs h graph vertices pairs =
      same_graph (some_graph (shape s) turned_named.low) graph (turned_names ∙ sym vertices) (λ x y. go x y (contains (names (shape t)) x) (contains (names (shape t)) y) refl refl)
    where
      off_s : (x y : ℕ) → (Has (names (shape t)) x → Has (names (shape t)) y → ⊥) → adjacent (graph_in s) x y ≡ false
      off_s x y not_both = false_from_ne_true _ (λ j.
          let ends = adjacent_ends (some_graph (shape s) turned_named.low) x y j in
          not_both (subst (λ z. Has z x) turned_names ends.0) (subst (λ z. Has z y) turned_names ends.1))

      off_h : (x y : ℕ) → (Has (names (shape t)) x → Has (names (shape t)) y → ⊥) → adjacent h x y ≡ false
      off_h x y not_both = false_from_ne_true _ (λ j.
          let ends = adjacent_ends graph x y j in
          not_both (subst (λ z. Has z x) vertices ends.0) (subst (λ z. Has z y) vertices ends.1))

      go : (x y : ℕ) (a b : Bool) → contains (names (shape t)) x ≡ a → contains (names (shape t)) y ≡ b → adjacent (graph_in s) x y ≡ adjacent h x y
      go x y true true hx hy = pairs x y hx hy
      go x y false b hx hy = off_s x y (λ i j. clash i hx) ∙ sym (off_h x y (λ i j. clash i hx))
      go x y true false hx hy = off_s x y (λ i j. clash j hy) ∙ sym (off_h x y (λ i j. clash j hy))

  module _ (a b u v : ℕ) (hu : Has (names (shape t)) u) (hv : Has (names (shape t)) v) (differ : u ≢ v) where
    counts : (x y : ℕ) → crossing (tip a u) (tip b v) x y ≡ cond (x == u) 1 0 * cond (y == v) 1 0 + cond (y == u) 1 0 * cond (x == v) 1 0
    counts x y = λ i. cond (same_turned u x i) 1 0 * cond (same_turned v y i) 1 0 + cond (same_turned u y i) 1 0 * cond (same_turned v x i) 1 0

    edge_s : (x y : ℕ) → Has (names (shape t)) x → Has (names (shape t)) y → edge_in x y s ≡ cond (adjacent (graph_in s) x y) 1 0
    edge_s x y hx hy =
        told_graph s turned_named x y (let c = has_counted t x hx in let e = same x in omega arith) (let c = has_counted t y hy in let e = same y in omega arith)

    edge_t : (x y : ℕ) → Has (names (shape t)) x → Has (names (shape t)) y → edge_in x y t ≡ cond (adjacent (graph_in t) x y) 1 0
    edge_t x y hx hy = told_graph t is x y (has_counted t x hx) (has_counted t y hy)

    pub graph_joined : ((x y : ℕ) → edge_in x y s ≡ edge_in x y t + crossing (tip a u) (tip b v) x y) → graph_in s ≡ with_edge (graph_in t) u v
    graph_joined edges =
        graph_by_pairs (with_edge (graph_in t) u v) (IsGraph-with_edge (some_graph (shape t) is.low) u v hu hv differ) refl (λ x y hx hy.
        one_more_is (adjacent (graph_in s) x y) (adjacent (graph_in t) x y) _ _ (either_count (x == u) (y == v) (x == v) (y == u))
        (sym (edge_s x y hx hy) ∙ edges x y ∙ (λ i. edge_t x y hx hy i + counts x y i))
        ∙ sym (adjacent-with_edge (graph_in t) u v x y))

    pub graph_parted : ((x y : ℕ) → edge_in x y s + crossing (tip a u) (tip b v) x y ≡ edge_in x y t) → graph_in s ≡ without_edge (graph_in t) u v
    graph_parted edges =
        graph_by_pairs (without_edge (graph_in t) u v) (IsGraph-without_edge (some_graph (shape t) is.low) u v) refl (λ x y hx hy.
        one_less_is (adjacent (graph_in s) x y) (adjacent (graph_in t) x y) _ _ (either_count (x == u) (y == v) (x == v) (y == u))
        ((λ i. sym (edge_s x y hx hy) i + sym (counts x y) i) ∙ edges x y ∙ edge_t x y hx hy)
        ∙ sym (adjacent-without_edge (graph_in t) u v x y))
