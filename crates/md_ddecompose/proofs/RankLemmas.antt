-- The names of a set, with their lags, sorted by these.
use Rattle.std.proofs.Common.{◌≡◌, ℕ, ◌+◌, ◌*◌, ◌<◌, ◌≤◌, Bool, eqb, List, [], ◌∷◌, ◌++◌, get_or, map, All, Contains, refl, sym, ◌∙◌, ap, subst, inl, arith, append_assoc, append-nil}
use Rattle.std.proofs.lemmas.Bool.{ne_eqb, eqb-false}
use Rattle.std.proofs.lemmas.List.Elements.{All-push}
use Rattle.std.proofs.lemmas.List.{map-append}
use Rattle.std.proofs.lemmas.List.Sorted.{All-permutation, IsPermutation-map, IsPermutation-sym, Contains-permutation}
use Rattle.std.proofs.lemmas.Map.Keys.{IsDistinct-from_apart, IsDistinct-IsPermutation, apart_from_distinct}
use Rattle.std.specs.FinSet.{intersection, retain, len}
use Rattle.std.specs.List.{IsDistinct}
use Rattle.std.specs.List.Sorted.{IsPermutation, IsNonDecreasingBy}
use Rattle.md_graph.specs.declared.TheConstants.{NAMES}
use Rattle.md_graph.specs.NameSet.{AllBelow, ascending}
use Rattle.md_graph.specs.Sets.{NameSet, Has}
use Rattle.md_graph.proofs.SetLemmas.{same_turned, same_members, meet_has, of_meet, retain_has, of_retain}
use Rattle.md_graph.proofs.Search.{len_within}
use Rattle.md_graph.proofs.NameLemmas.{ascending_items, ascending_order, ascending_appears, few_names}
use Rattle.md_text.proofs.Lists.{to_contains, in_right}
use Rattle.md_digraph.specs.declared.TheConstants.{DIRECTED_NAMES}
use Rattle.md_digraph.specs.PlainDigraph.{PlainDigraph, IsDigraph, has_arc_to, successors, predecessors}
use Rattle.md_digraph.proofs.DigraphLemmas.{contains-successors, contains-predecessors}
use Rattle.md_dtree.specs.Balance.{arcs_from, arcs_to}
use Rattle.md_ddecompose.specs.declared.order_parts.Ranked.{Ranked}
use Rattle.md_ddecompose.specs.Ranks.{HasItsLag, name_of, AreRanked}

-- ---- counts

module _ {g : PlainDigraph} (digraph : IsDigraph g) (s : NameSet) (v : ℕ) where
  pub from_counted : (row shared : NameSet) (count : ℕ) → row ≡ successors g v → shared ≡ intersection row s → count ≡ len shared → count ≡ arcs_from (has_arc_to g) s v
  from_counted row shared count is_row is_shared is_count =
      is_count ∙ ap len (is_shared ∙ ap (λ t. intersection t s) is_row
      ∙ same_members (intersection (successors g v) s) (retain s (has_arc_to g v))
      (λ y h. let two = of_meet (successors g v) s y h in retain_has s (has_arc_to g v) y two.1 (sym (contains-successors digraph v y) ∙ two.0))
      (λ y h. let two = of_retain s (has_arc_to g v) y h in meet_has (successors g v) s y (contains-successors digraph v y ∙ two.1) two.0))

  pub to_counted : (row shared : NameSet) (count : ℕ) → row ≡ predecessors g v → shared ≡ intersection row s → count ≡ len shared → count ≡ arcs_to (has_arc_to g) s v
  to_counted row shared count is_row is_shared is_count =
      is_count ∙ ap len (is_shared ∙ ap (λ t. intersection t s) is_row
      ∙ same_members (intersection (predecessors g v) s) (retain s (λ u. has_arc_to g u v))
      (λ y h. let two = of_meet (predecessors g v) s y h in retain_has s (λ u. has_arc_to g u v) y two.1 (sym (contains-predecessors digraph v y) ∙ two.0))
      (λ y h. let two = of_retain s (λ u. has_arc_to g u v) y h in meet_has (predecessors g v) s y (contains-predecessors digraph v y ∙ two.1) two.0))

-- a part of the vertices is as small as these
pub few_shared : (row s shared : NameSet) (count n : ℕ) → AllBelow s n → shared ≡ intersection row s → count ≡ len shared → count ≤ n
few_shared row s shared count n below is_shared is_count =
    let few = few_names shared n (λ x h. below x (of_meet row s x (subst (λ t. Has t x) is_shared h)).1) in
    omega arith

-- a lag is small
pub few_lags : (arc : ℕ → ℕ → Bool) (s : NameSet) (r : Ranked) → len s ≤ DIRECTED_NAMES → HasItsLag arc s r → r.lag ≤ 2 * DIRECTED_NAMES
few_lags arc s r few lag =
    let own : r.lag + arcs_from arc s r.name ≡ arcs_to arc s r.name + DIRECTED_NAMES = lag in
    let part : arcs_to arc s r.name ≤ len s = len_within (retain s (λ u. arc u r.name)) s (λ y h. (of_retain s (λ u. arc u r.name) y h).0) in
    omega arith

-- ---- one more name

-- the ranked names and those left are all names in ascending order, and each has its lag
pub record AreRankedSoFar (arc : ℕ → ℕ → Bool) (s : NameSet) (rs : List Ranked) (left : List ℕ) : Type 0 where
  pub names : map name_of rs ++ left ≡ ascending s
  pub lags : All (HasItsLag arc s) rs

module _ (arc : ℕ → ℕ → Bool) (s : NameSet) where
  pub ranks_begin : (rs : List Ranked) (left : List ℕ) → rs ≡ [] → left ≡ ascending s → AreRankedSoFar arc s rs left
  ranks_begin rs left none is = record {
    names = ap (λ qs. map name_of qs ++ left) none ∙ is;
    lags = subst (All (HasItsLag arc s)) (sym none) (λ k d l. absurd (let b : k < 0 = l in omega arith));
  }

  pub next_member : (rs : List Ranked) (left rest : List ℕ) (x : ℕ) → AreRankedSoFar arc s rs left → left ≡ x ∷ rest → Has s x
  next_member rs left rest x are steps =
      let c : Contains (ascending s) x = subst (λ xs. Contains xs x) (ap (λ xs. map name_of rs ++ xs) (sym steps) ∙ are.names) (to_contains (map name_of rs ++ x ∷ rest) x (in_right (map name_of rs) (x ∷ rest) x (inl refl))) in
      subst (Has s) c.2 (ascending_items s 0 NAMES c.0 x c.1).member

  pub ranks_more : (rs rs' : List Ranked) (left rest : List ℕ) (r : Ranked) → AreRankedSoFar arc s rs left → left ≡ r.name ∷ rest → HasItsLag arc s r → rs' ≡ rs ++ r ∷ [] → AreRankedSoFar arc s rs' rest
  ranks_more rs rs' left rest r are steps lag pushed = record {
    names = ap (λ qs. map name_of qs ++ rest) pushed ∙ ap (λ xs. xs ++ rest) (map-append name_of rs (r ∷ [])) ∙ append_assoc (map name_of rs) (r.name ∷ []) rest
        ∙ ap (λ xs. map name_of rs ++ xs) (sym steps) ∙ are.names;
    lags = subst (All (HasItsLag arc s)) (sym pushed) (All-push (HasItsLag arc s) rs r are.lags lag);
  }

-- ---- sorted

module _ (arc : ℕ → ℕ → Bool) (s : NameSet) (rs sorted : List Ranked) (left : List ℕ) (all : AreRankedSoFar arc s rs left) (none : left ≡ []) (below : AllBelow s NAMES)
    (moved : IsPermutation rs sorted) (rising : IsNonDecreasingBy (λ (r : Ranked). r.lag) sorted) where
  names : map name_of rs ≡ ascending s
  names = sym (append-nil (map name_of rs)) ∙ ap (λ xs. map name_of rs ++ xs) (sym none) ∙ all.names

  moved_names : IsPermutation (map name_of rs) (map name_of sorted)
  moved_names = IsPermutation-map name_of rs sorted moved

  distinct : IsDistinct eqb (map name_of rs)
  distinct = subst (IsDistinct eqb) (sym names) (IsDistinct-from_apart eqb (ascending s) (λ i j d before known.
      let less : get_or (ascending s) i d < get_or (ascending s) j d = ascending_order s 0 NAMES i j d before known in
      ne_eqb _ _ (λ same. omega arith)))

  pub are_ranked : AreRanked arc s sorted
  are_ranked = record {
    lists = record {
      once = λ i j d before known. eqb-false _ _ (apart_from_distinct eqb (map name_of sorted) i j d
          (IsDistinct-IsPermutation eqb same_turned (map name_of rs) (map name_of sorted) moved_names distinct) before known);
      exactly = λ x. (
        λ c.
            let at = subst (λ xs. Contains xs x) names (Contains-permutation (map name_of sorted) (map name_of rs) x (IsPermutation-sym (map name_of rs) (map name_of sorted) moved_names) c) in
            subst (Has s) at.2 (ascending_items s 0 NAMES at.0 x at.1).member,
        λ h. Contains-permutation (map name_of rs) (map name_of sorted) x moved_names
            (subst (λ xs. Contains xs x) (sym names) (ascending_appears s 0 NAMES x h (omega arith) (below x h))),
      );
    };
    lags = All-permutation (HasItsLag arc s) rs sorted moved all.lags;
    rising = λ i j d before known. rising i j d (omega arith) known;
  }
