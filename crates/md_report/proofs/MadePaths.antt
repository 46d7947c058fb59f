-- An induced P4 of the graph after an edit holds the change, where the graph before had none.
use Rattle.std.proofs.Common.{◌≡◌, ◌≢◌, ℕ, ◌<◌, ◌≤◌, Bool, true, false, not, ◌&&◌, ◌||◌, ◌==◌, List, Option, None, IfNone, refl, sym, ◌∙◌, subst, inl, inr}
use Rattle.std.proofs.lemmas.Bool.{eqb-false, ne_eqb}
use Rattle.std.specs.FinSet as set
use Rattle.md_graph.specs.declared.TheConstants.{NAMES}
use Rattle.md_graph.specs.Sets.{NameSet, Has}
use Rattle.md_graph.specs.PlainGraph.{PlainGraph, IsGraph, adjacent, with_vertex, with_edge, with_edges, without_edge, without_vertex}
use Rattle.md_graph.proofs.GraphLemmas.{IsGraph-with_vertex, adjacent-with_vertex, adjacent-with_edge, adjacent-with_edges, adjacent-without_edge, adjacent-without_vertex}
use Rattle.md_graph.proofs.SetLemmas.{same_name, of_insert, of_remove}
use Rattle.md_graph.proofs.Search.{Decided}
use Rattle.md_modules.specs.declared.induced_paths.P4.{P4}
use Rattle.md_modules.specs.InducedPaths.{IsInducedPath, IsOneOf, IsInducedPathWith, IsInducedPathWithBoth}
use Rattle.md_modules.proofs.PathSearch.{if_none_map}
use Rattle.md_script.specs.declared.edit.Edit.{Edit}
use Rattle.md_script.specs.declared.edit.Edit.TheVariants.{AddEdge, DelEdge, AddVertex, DelVertex}
use Rattle.md_script.specs.Edit.{HasNames, reason_of, after}
use Rattle.md_script.specs.Pasts.{Led}
use Rattle.md_script.proofs.ChangeLemmas.{names_within, ends_by_tests, vertex_added, neighbours_are_vertices}
use Rattle.md_report.specs.Cographs.{IsCograph}
use Rattle.md_report.specs.Made.{HasChange, HoldsChange, HasNoneMade}

decide_one : (x a b c d : ℕ) → Decided (IsOneOf x a b c d)
decide_one x a b c d =
    elim (same_name x a) [
      | inl e ↦ inl (inl e)
      | inr na ↦ elim (same_name x b) [
        | inl e ↦ inl (inr (inl e))
        | inr nb ↦ elim (same_name x c) [
          | inl e ↦ inl (inr (inr (inl e)))
          | inr nc ↦ elim (same_name x d) [
            | inl e ↦ inl (inr (inr (inr e)))
            | inr nd ↦ inr (λ h. elim h [ inl e ↦ na e | inr (inl e) ↦ nb e | inr (inr (inl e)) ↦ nc e | inr (inr (inr e)) ↦ nd e ])
          ]
        ]
      ]
    ]

-- a name that isn't among the four is none of them
away : (a b c d x : ℕ) → (IsOneOf x a b c d → ⊥) → (y : ℕ) → IsOneOf y a b c d → (y == x) ≡ false
away a b c d x none y one = ne_eqb y x (λ same. none (subst (λ w. IsOneOf w a b c d) same one))

module _ {f : ℕ → ℕ → Bool} {t : NameSet} (a b c d : ℕ) (is : IsInducedPath f t a b c d) where
  inside : (y : ℕ) → IsOneOf y a b c d → Has t y
  inside y (inl same) = subst (Has t) (sym same) is.inside.0
  inside y (inr (inl same)) = subst (Has t) (sym same) is.inside.1
  inside y (inr (inr (inl same))) = subst (Has t) (sym same) is.inside.2
  inside y (inr (inr (inr same))) = subst (Has t) (sym same) is.inside.3

  -- where another graph is the same on the four names, they are a path of it
  carried : (e : ℕ → ℕ → Bool) (s : NameSet) → ((y : ℕ) → IsOneOf y a b c d → Has s y) → ((y z : ℕ) → IsOneOf y a b c d → IsOneOf z a b c d → f y z ≡ e y z) → IsInducedPath e s a b c d
  carried e s has same =
      let at_a : IsOneOf a a b c d = inl refl in
      let at_b : IsOneOf b a b c d = inr (inl refl) in
      let at_c : IsOneOf c a b c d = inr (inr (inl refl)) in
      let at_d : IsOneOf d a b c d = inr (inr (inr refl)) in
      record {
        inside = (has a at_a, has b at_b, has c at_c, has d at_d);
        different = is.different;
        edges = (sym (same a b at_a at_b) ∙ is.edges.0, sym (same b c at_b at_c) ∙ is.edges.1, sym (same c d at_c at_d) ∙ is.edges.2);
        apart = (sym (same a c at_a at_c) ∙ is.apart.0, sym (same a d at_a at_d) ∙ is.apart.1, sym (same b d at_b at_d) ∙ is.apart.2);
        ascending = is.ascending;
      }

-- ---- tests of a changed edge, where one end isn't there

first_absent : (p q r t g : Bool) → p ≡ false → t ≡ false → (((p && q) || (r && t)) || g) ≡ g
first_absent p q r t g hp ht = rw (hp, ht) (by_test r) where
  by_test : (r : Bool) → (((false && q) || (r && false)) || g) ≡ g
  by_test true = refl
  by_test false = refl

second_absent : (p q r t g : Bool) → q ≡ false → r ≡ false → (((p && q) || (r && t)) || g) ≡ g
second_absent p q r t g hq hr = rw (hq, hr) (by_test p) where
  by_test : (p : Bool) → (((p && false) || (false && t)) || g) ≡ g
  by_test true = refl
  by_test false = refl

first_kept : (p q r t g : Bool) → p ≡ false → t ≡ false → (not ((p && q) || (r && t)) && g) ≡ g
first_kept p q r t g hp ht = rw (hp, ht) (by_test r) where
  by_test : (r : Bool) → (not ((false && q) || (r && false)) && g) ≡ g
  by_test true = refl
  by_test false = refl

second_kept : (p q r t g : Bool) → q ≡ false → r ≡ false → (not ((p && q) || (r && t)) && g) ≡ g
second_kept p q r t g hq hr = rw (hq, hr) (by_test p) where
  by_test : (p : Bool) → (not ((p && false) || (false && t)) && g) ≡ g
  by_test true = refl
  by_test false = refl

no_star : (p q r t g : Bool) → p ≡ false → r ≡ false → (((p && q) || (r && t)) || g) ≡ g
no_star p q r t g hp hr = rw (hp, hr) refl

none_gone : (p q g : Bool) → p ≡ false → q ≡ false → (g && (not p && not q)) ≡ g
none_gone p q g hp hq = rw (hp, hq) (by_test g) where
  by_test : (g : Bool) → (g && (not false && not false)) ≡ g
  by_test true = refl
  by_test false = refl

-- ---- what an edit shows

pub shown : (g : PlainGraph) (edit : Edit) → reason_of g edit ≡ None → HasChange (after g edit) edit
shown g (AddEdge u v) none =
    let ends = ends_by_tests u v (u == v) (set.contains g.vertices u) (set.contains g.vertices v) _ none in (ends.1, ends.2, eqb-false u v ends.0)
shown g (DelEdge u v) none =
    let ends = ends_by_tests u v (u == v) (set.contains g.vertices u) (set.contains g.vertices v) _ none in (ends.1, ends.2, eqb-false u v ends.0)
shown g (AddVertex x neighbours) none = vertex_added g (with_vertex g x) x refl
shown g (DelVertex x) none = tt

-- ---- each path holds the change

module _ (g : PlainGraph) (is_graph : IsGraph g) (free : IsCograph g) where
  -- a path of a graph that differs from g at one name alone holds that name
  holds_name : (f : ℕ → ℕ → Bool) (s : NameSet) (x a b c d : ℕ) → ((y : ℕ) → Has s y → y ≢ x → Has g.vertices y) →
      ((y z : ℕ) → (y == x) ≡ false → (z == x) ≡ false → f y z ≡ adjacent g y z) → IsInducedPath f s a b c d → IsOneOf x a b c d
  holds_name f s x a b c d within same is =
      elim (decide_one x a b c d) [
        | inl h ↦ h
        | inr none ↦ absurd (free (
          a,
          b,
          c,
          d,
          carried a b c d is (adjacent g) g.vertices (λ y hy. within y (inside a b c d is y hy) (λ e. none (subst (λ w. IsOneOf w a b c d) e hy)))
              (λ y z hy hz. same y z (away a b c d x none y hy) (away a b c d x none z hz)),
        ))
      ]

  edge_added : (u v a b c d : ℕ) → IsInducedPath (adjacent (with_edge g u v)) g.vertices a b c d → IsOneOf u a b c d × IsOneOf v a b c d
  edge_added u v a b c d is = (
    holds_name _ g.vertices u a b c d (λ y h differ. h) (λ y z ny nz. adjacent-with_edge g u v y z ∙ first_absent (y == u) (z == v) (y == v) (z == u) _ ny nz) is,
    holds_name _ g.vertices v a b c d (λ y h differ. h) (λ y z ny nz. adjacent-with_edge g u v y z ∙ second_absent (y == u) (z == v) (y == v) (z == u) _ nz ny) is,
  )

  edge_gone : (u v a b c d : ℕ) → IsInducedPath (adjacent (without_edge g u v)) g.vertices a b c d → IsOneOf u a b c d × IsOneOf v a b c d
  edge_gone u v a b c d is = (
    holds_name _ g.vertices u a b c d (λ y h differ. h) (λ y z ny nz. adjacent-without_edge g u v y z ∙ first_kept (y == u) (z == v) (y == v) (z == u) _ ny nz) is,
    holds_name _ g.vertices v a b c d (λ y h differ. h) (λ y z ny nz. adjacent-without_edge g u v y z ∙ second_kept (y == u) (z == v) (y == v) (z == u) _ nz ny) is,
  )

  vertex_made : (x a b c d : ℕ) (others : NameSet) → ((w : ℕ) → Has others w → w < NAMES) →
      IsInducedPath (adjacent (with_edges (with_vertex g x) x others)) (set.insert g.vertices x) a b c d → IsOneOf x a b c d
  vertex_made x a b c d others names is =
      holds_name _ (set.insert g.vertices x) x a b c d (λ y h differ. elim (of_insert g.vertices x y h) [ inl same ↦ absurd (differ same) | inr old ↦ old ])
      (λ y z ny nz.
      adjacent-with_edges (with_vertex g x) x others names y z
      ∙ no_star (y == x) (set.contains others z) (z == x) (set.contains others y) _ ny nz
      ∙ adjacent-with_vertex g x y z) is

  vertex_gone : (x a b c d : ℕ) → IsInducedPath (adjacent (without_vertex g x)) (set.remove g.vertices x) a b c d → ⊥
  vertex_gone x a b c d is =
      free (
        a,
        b,
        c,
        d,
        carried a b c d is (adjacent g) g.vertices (λ y hy. (of_remove g.vertices x y (inside a b c d is y hy)).1) (λ y z hy hz.
            adjacent-without_vertex g x y z
            ∙ none_gone (y == x) (z == x) _ (ne_eqb y x (of_remove g.vertices x y (inside a b c d is y hy)).0) (ne_eqb z x (of_remove g.vertices x z (inside a b c d is z hz)).0)),
      )

  holds_change : (edit : Edit) → HasNames edit → reason_of g edit ≡ None → (a b c d : ℕ) →
      IsInducedPath (adjacent (after g edit)) (after g edit).vertices a b c d → HoldsChange edit a b c d
  holds_change (AddEdge u v) names none a b c d is = edge_added u v a b c d is
  holds_change (DelEdge u v) names none a b c d is = edge_gone u v a b c d is
  holds_change (AddVertex x neighbours) names none a b c d is =
      let h = with_vertex g x in
      let graph : IsGraph h = IsGraph-with_vertex is_graph x names.0 in
      vertex_made x a b c d (set.from_list neighbours)
      (λ w member. graph.names w (neighbours_are_vertices g h (AddVertex x neighbours) x neighbours (set.from_list neighbours) refl none refl refl w member)) is
  holds_change (DelVertex x) names none a b c d is = vertex_gone x a b c d is

  still_cograph : (edit : Edit) → HasNames edit → reason_of g edit ≡ None → HasNoneMade (after g edit) edit → IsCograph (after g edit)
  still_cograph edit names none made path = made path.0 path.1 path.2 path.3 path.4 (holds_change edit names none path.0 path.1 path.2 path.3 path.4)

-- a cograph from which an edit led to a graph without a path that holds the change gave a cograph
pub cograph_if_none : {limit : ℕ} → limit ≤ NAMES → (found : Option P4) (g h : PlainGraph) (edit : Edit) → IfNone found (HasNoneMade h edit) → Led limit g edit h → IsCograph g → IfNone found (IsCograph h)
cograph_if_none few found g h edit none led free =
    if_none_map found (HasNoneMade h edit) (IsCograph h) (λ made.
    subst IsCograph (sym led.next_is) (still_cograph g led.is_graph free edit (names_within few edit led.names) led.no_reason (subst (λ k. HasNoneMade k edit) led.next_is made))) none

-- ---- what a search doesn't find

module _ (g : PlainGraph) (edit : Edit) (u v : ℕ) (found : Option P4)
    (none : IfNone found ((a b c d : ℕ) → IsInducedPathWithBoth (adjacent g) g.vertices u v a b c d → ⊥)) where
  none_of_ends : ((a b c d : ℕ) → HoldsChange edit a b c d → IsOneOf u a b c d × IsOneOf v a b c d) → IfNone found (HasNoneMade g edit)
  none_of_ends ends =
      if_none_map found _ (HasNoneMade g edit) (λ no a b c d path holds.
      no a b c d (record { path = path; first = (ends a b c d holds).0; second = (ends a b c d holds).1 })) none

  pub none_made_added : edit ≡ AddEdge u v → IfNone found (HasNoneMade g edit)
  none_made_added is = none_of_ends (λ a b c d holds. subst (λ e. HoldsChange e a b c d) is holds)

  pub none_made_gone : edit ≡ DelEdge u v → IfNone found (HasNoneMade g edit)
  none_made_gone is = none_of_ends (λ a b c d holds. subst (λ e. HoldsChange e a b c d) is holds)

-- nor does a search for the paths through a new vertex
pub none_made_new : (g : PlainGraph) (edit : Edit) (x : ℕ) (neighbours : List ℕ) (found : Option P4) → IfNone found ((a b c d : ℕ) → IsInducedPathWith (adjacent g) g.vertices x a b c d → ⊥) → edit ≡ AddVertex x neighbours
    → IfNone found (HasNoneMade g edit)
none_made_new g edit x neighbours found none is =
    if_none_map found _ (HasNoneMade g edit) (λ no a b c d path holds.
    no a b c d (record { path = path; holds = subst (λ e. HoldsChange e a b c d) is holds })) none

-- an edit that leaves out a vertex makes no path
pub none_made_left : (g : PlainGraph) (edit : Edit) (x : ℕ) → edit ≡ DelVertex x → HasNoneMade g edit
none_made_left g edit x is = λ a b c d path holds. subst (λ e. HoldsChange e a b c d) is holds
