-- What an edit that may be applied to a graph finds there, and what it leaves.
use Rattle.std.specs.Prelude.{◌≡◌, ℕ, zero, suc, slice_get, ◌<◌, ◌≤◌, Bool, true, false, not, ◌||◌, ◌&&◌, ◌==◌, nat_eq, find, List, [], ◌∷◌, Option, Some, None, option_map, cond, refl}
use Rattle.std.specs.Bool.{then_some}
use Rattle.std.specs.Option.{option_or}
use Rattle.std.specs.List.{All, list_any}
use Rattle.std.specs.List.Sorted.{IsStrictlyIncreasing}
use Rattle.std.proofs.Common.{ap, sym, ◌∙◌, inl, inr, arith, subst}
use Rattle.std.proofs.lemmas.Bool.{cases_Bool, eqb-true, eqb-false, or_cases, or_left, or_right, and_from, and_parts}
use Rattle.std.proofs.lemmas.Bool.Decides.{nat_tests}
use Rattle.std.proofs.lemmas.List.Elements.{All-head, All-tail, All-weaker}
use Rattle.std.specs.FinSet as set
use Rattle.std.specs.FinSet.{contains-from_list_nat}
use Rattle.md_graph.specs.Sets.{NameSet, Has}
use Rattle.md_graph.specs.NameSet.{IsLeastFrom}
use Rattle.md_graph.specs.PlainGraph.{PlainGraph, IsGraph, with_vertex}
use Rattle.md_graph.proofs.NameLemmas.{increases_rest}
use Rattle.md_graph.proofs.SetLaws.{contains-insert, contains-difference}
use Rattle.md_graph.proofs.GraphLemmas.{IsGraph-with_vertex, IsGraph-with_edge, IsGraph-with_edges, IsGraph-without_vertex, IsGraph-without_edge}
use Rattle.md_script.specs.declared.edit.Edit.{Edit}
use Rattle.md_script.specs.declared.edit.Edit.TheVariants.{AddEdge, DelEdge, AddVertex, DelVertex}
use Rattle.md_script.specs.declared.edit.EditReason.{EditReason}
use Rattle.md_script.specs.declared.edit.EditReason.TheVariants.{Same, NoVertex, NameTaken}
use Rattle.md_script.specs.Edit.{HasNames, HasNamesBelow, least_absent, reason_of, after}

-- the new vertex isn't there, and all its neighbours are
record MayAdd (g : PlainGraph) (x : ℕ) (neighbours : List ℕ) : Type 0 where
  absent : set.contains g.vertices x ≡ false
  there : least_absent g neighbours ≡ None

pub by_parts : (least : Option ℕ) (taken : Bool) (x : ℕ) → option_or (option_map NoVertex least) (then_some taken (NameTaken x)) ≡ None → (taken ≡ false) × (least ≡ None)
by_parts None true x h = absurd (cc)
by_parts None false x h = (refl, refl)
by_parts (Some v) taken x h = absurd (cc)

may_add : (g : PlainGraph) (edit : Edit) (x : ℕ) (neighbours : List ℕ) → edit ≡ AddVertex x neighbours → reason_of g edit ≡ None → MayAdd g x neighbours
may_add g edit x neighbours is none =
    let parts = by_parts (least_absent g neighbours) (set.contains g.vertices x) x (ap (reason_of g) (sym is) ∙ none) in
    record { absent = parts.0; there = parts.1 }

listed : (s : NameSet) (v u : ℕ) (rest : List ℕ) (there here : Bool) → set.contains s v ≡ there → nat_eq v u ≡ here → cond (not there) (Some v) (find (λ w. not (set.contains s w)) rest) ≡ None
    → (here || list_any (λ w. nat_eq w u) rest) ≡ true → (find (λ w. not (set.contains s w)) rest ≡ None → list_any (λ w. nat_eq w u) rest ≡ true → set.contains s u ≡ true)
    → set.contains s u ≡ true
listed s v u rest false here has same none any before = absurd (cc)
listed s v u rest true true has same none any before = ap (set.contains s) (sym (eqb-true v u same)) ∙ has
listed s v u rest true false has same none any before = before none any

all_there : (s : NameSet) (list : List ℕ) (u : ℕ) → find (λ w. not (set.contains s w)) list ≡ None → list_any (λ w. nat_eq w u) list ≡ true → set.contains s u ≡ true
all_there s [] u none any = absurd (cc)
all_there s (v ∷ rest) u none any = listed s v u rest (set.contains s v) (nat_eq v u) refl refl none any (all_there s rest u)

-- each member of the set of the neighbours is a vertex
neighbours_there : (g : PlainGraph) (edit : Edit) (x : ℕ) (neighbours : List ℕ) (others : NameSet) → edit ≡ AddVertex x neighbours → reason_of g edit ≡ None
    → others ≡ set.from_list neighbours → (u : ℕ) → set.contains others u ≡ true → set.contains g.vertices u ≡ true
neighbours_there g edit x neighbours others is none made u member =
    all_there g.vertices neighbours u (may_add g edit x neighbours is none).there (sym (contains-from_list_nat neighbours u) ∙ ap (λ s. set.contains s u) (sym made) ∙ member)

-- ---- what the added edges require

new_vertex : (s : NameSet) (x u : ℕ) → set.contains s u ≡ true → set.contains (set.insert s x) u ≡ true
new_vertex s x u member = contains-insert s x u ∙ by_test (u == x) where
  by_test : (b : Bool) → (b || set.contains s u) ≡ true
  by_test true = refl
  by_test false = member

same_vertex : (s : NameSet) (x : ℕ) → set.contains (set.insert s x) x ≡ true
same_vertex s x = contains-insert s x x ∙ grind (arith, nat_tests)

pub vertex_added : (g h : PlainGraph) (x : ℕ) → h ≡ with_vertex g x → Has h.vertices x
vertex_added g h x added = ap (λ (k : PlainGraph). set.contains k.vertices x) added ∙ same_vertex g.vertices x

pub neighbours_are_vertices : (g h : PlainGraph) (edit : Edit) (x : ℕ) (neighbours : List ℕ) (others : NameSet) → edit ≡ AddVertex x neighbours → reason_of g edit ≡ None
    → others ≡ set.from_list neighbours → h ≡ with_vertex g x → (u : ℕ) → Has others u → Has h.vertices u
neighbours_are_vertices g h edit x neighbours others is none made added u member =
    ap (λ (k : PlainGraph). set.contains k.vertices u) added
    ∙ new_vertex g.vertices x u (neighbours_there g edit x neighbours others is none made u member)

pub no_own_neighbour : (g : PlainGraph) (edit : Edit) (x : ℕ) (neighbours : List ℕ) (others : NameSet) → edit ≡ AddVertex x neighbours → reason_of g edit ≡ None
    → others ≡ set.from_list neighbours → set.contains others x ≡ false
no_own_neighbour g edit x neighbours others is none made =
    elim (cases_Bool (set.contains others x)) [
      | inl member ↦ absurd (let there = neighbours_there g edit x neighbours others is none made x member in let absent = (may_add g edit x neighbours is none).absent in cc)
      | inr absent ↦ absent
    ]

-- ---- the graph after an edit

below_more : {limit more : ℕ} → limit ≤ more → (v : ℕ) → v < limit → v < more
below_more few v below = omega arith

-- names below a limit are below every greater one
pub names_within : {limit more : ℕ} → limit ≤ more → (edit : Edit) → HasNamesBelow limit edit → HasNamesBelow more edit
names_within few (AddEdge u v) names = (below_more few u names.0, below_more few v names.1)
names_within few (DelEdge u v) names = (below_more few u names.0, below_more few v names.1)
names_within {limit} {more} few (AddVertex x neighbours) names =
    (below_more few x names.0, All-weaker (λ v. v < limit) (λ v. v < more) (below_more few) neighbours names.1)
names_within few (DelVertex x) names = below_more few x names

-- what holds of each holds of the one at a place
pub holds_at : {X : Type 0} (P : X → Type 0) (xs : List X) (i : ℕ) (x : X) → slice_get xs i ≡ Some x → All P xs → P x
holds_at P [] i x found all = absurd (cc)
holds_at P (y ∷ ys) zero x found all = let same : y ≡ x = cc in subst P same (All-head P y ys all)
holds_at P (y ∷ ys) (suc i) x found all = holds_at P ys i x found (All-tail P y ys all)

pub ends_by_tests : (u v : ℕ) (same first second : Bool) (last : Option EditReason)
    → option_or (cond same (Some Same) (cond (not first) (Some (NoVertex u)) (cond (not second) (Some (NoVertex v)) None))) last ≡ None → (same ≡ false) × (first ≡ true) × (second ≡ true)
ends_by_tests u v true first second last h = absurd (cc)
ends_by_tests u v false false second last h = absurd (cc)
ends_by_tests u v false true false last h = absurd (cc)
ends_by_tests u v false true true last h = (refl, refl, refl)

pub after_is_graph : (g : PlainGraph) (edit : Edit) → IsGraph g → HasNames edit → reason_of g edit ≡ None → IsGraph (after g edit)
after_is_graph g (AddEdge u v) is names none =
    let ends = ends_by_tests u v (u == v) (set.contains g.vertices u) (set.contains g.vertices v) _ none in
    IsGraph-with_edge is u v ends.1 ends.2 (eqb-false u v ends.0)
after_is_graph g (DelEdge u v) is names none = IsGraph-without_edge is u v
after_is_graph g (AddVertex x neighbours) is names none =
    let h = with_vertex g x in
    IsGraph-with_edges (IsGraph-with_vertex is x names.0) x (set.from_list neighbours) (vertex_added g h x refl)
    (neighbours_are_vertices g h (AddVertex x neighbours) x neighbours (set.from_list neighbours) refl none refl refl)
    (no_own_neighbour g (AddVertex x neighbours) x neighbours (set.from_list neighbours) refl none refl)
after_is_graph g (DelVertex x) is names none = IsGraph-without_vertex is x

-- ---- the least of the neighbours that are no vertices

-- w is one of the list
abbrev is_listed : ℕ → List ℕ → Bool
is_listed w list = list_any (λ y. nat_eq y w) list

below_rest : (x w : ℕ) (xs : List ℕ) → IsStrictlyIncreasing (x ∷ xs) → is_listed w xs ≡ true → x < w
below_rest x w [] h listed = absurd (cc)
below_rest x w (y ∷ ys) h listed =
    let first : x < y = h 0 (omega arith) in
    elim (or_cases (nat_eq y w) (is_listed w ys) listed) [
      | inl same ↦ let e = eqb-true y w same in omega arith
      | inr later ↦ let rest = below_rest y w ys (increases_rest x (y ∷ ys) h) later in omega arith
    ]

-- v comes first among those that pass
record ComesFirst (test : ℕ → Bool) (list : List ℕ) (v : ℕ) : Type 0 where
  listed : is_listed v list ≡ true
  passes : test v ≡ true
  least : (w : ℕ) → is_listed w list ≡ true → test w ≡ true → v ≤ w

same_listed : (v : ℕ) (rest : List ℕ) → is_listed v (v ∷ rest) ≡ true
same_listed v rest = or_left (nat_eq v v) (is_listed v rest) (grind (arith, nat_tests))

first_passes : (test : ℕ → Bool) (x : ℕ) (xs : List ℕ) → IsStrictlyIncreasing (x ∷ xs) → test x ≡ true → ComesFirst test (x ∷ xs) x
first_passes test x xs h passes = record {
  listed = same_listed x xs;
  passes = passes;
  least = λ w listed t.
      elim (or_cases (nat_eq x w) (is_listed w xs) listed) [
        | inl same ↦ let e = eqb-true x w same in omega arith
        | inr later ↦ let above = below_rest x w xs h later in omega arith
      ];
}

later_passes : (test : ℕ → Bool) (x v : ℕ) (xs : List ℕ) → test x ≡ false → ComesFirst test xs v → ComesFirst test (x ∷ xs) v
later_passes test x v xs fails first = record {
  listed = or_right (nat_eq x v) (is_listed v xs) first.listed;
  passes = first.passes;
  least = λ w listed t.
      elim (or_cases (nat_eq x w) (is_listed w xs) listed) [
        | inl same ↦ absurd (let e = ap test (eqb-true x w same) in cc)
        | inr later ↦ first.least w later t
      ];
}

comes_first : (test : ℕ → Bool) (list : List ℕ) (v : ℕ) → IsStrictlyIncreasing list → find test list ≡ Some v → ComesFirst test list v
comes_first test [] v h found = absurd (cc)
comes_first test (x ∷ xs) v h found =
    elim (cases_Bool (test x)) [
      | inl passes ↦
          let here = ap (λ b. cond b (Some x) (find test xs)) (sym passes) ∙ found in
          let same : x ≡ v = cc in
          subst (ComesFirst test (x ∷ xs)) same (first_passes test x xs h passes)
      | inr fails ↦
          let later = ap (λ b. cond b (Some x) (find test xs)) (sym fails) ∙ found in
          later_passes test x v xs fails (comes_first test xs v (increases_rest x xs h) later)
    ]

pub absent_is_least : (g : PlainGraph) (neighbours : List ℕ) (v : ℕ) → IsStrictlyIncreasing neighbours → least_absent g neighbours ≡ Some v
    → IsLeastFrom (set.difference (set.from_list neighbours) g.vertices) 0 v
absent_is_least g neighbours v h found =
    let first = comes_first (λ w. not (set.contains g.vertices w)) neighbours v h found in
    record {
      member = member_is v ∙ and_from (is_listed v neighbours) (not (set.contains g.vertices v)) first.listed first.passes;
      above = omega arith;
      first = λ w member _.
          let parts = and_parts (is_listed w neighbours) (not (set.contains g.vertices w)) (sym (member_is w) ∙ member) in
          first.least w parts.0 parts.1;
    }
  where
    member_is : (w : ℕ) → set.contains (set.difference (set.from_list neighbours) g.vertices) w ≡ (is_listed w neighbours && not (set.contains g.vertices w))
    member_is w =
        contains-difference (set.from_list neighbours) g.vertices w
        ∙ ap (λ b. b && not (set.contains g.vertices w)) (contains-from_list_nat neighbours w)
