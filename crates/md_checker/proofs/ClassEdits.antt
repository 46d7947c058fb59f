-- An edit of a graph of a class: a bar of the graph after it that is no induced P4 has the name at which the edit changed the graph.
use Rattle.std.proofs.Common.{◌≡◌, ◌≢◌, ℕ, Bool, true, false, ◌==◌, ◌≤◌, ◌⊎◌, List, Option, None, Some, IfNone, refl, sym, ◌∙◌, ap, subst, inl, inr, arith}
use Rattle.std.specs.Prelude.{is_some}
use Rattle.std.proofs.lemmas.Bool.{ne_eqb}
use Rattle.std.specs.FinSet as set
use Rattle.md_graph.specs.declared.TheConstants.{NAMES}
use Rattle.md_graph.specs.Sets.{Has}
use Rattle.md_graph.specs.PlainGraph.{PlainGraph, IsGraph, adjacent, with_vertex}
use Rattle.md_graph.proofs.GraphLemmas.{IsGraph-with_vertex, adjacent-with_vertex, adjacent-with_edge, adjacent-with_edges, adjacent-without_edge, adjacent-without_vertex}
use Rattle.md_graph.proofs.SetLemmas.{clash, same_name, of_insert, of_remove, remove_gone}
use Rattle.md_modules.specs.declared.induced_paths.P4.{P4}
use Rattle.md_bar_tree.specs.declared.Bar.{Bar}
use Rattle.md_bar_tree.specs.declared.BarKind.{BarKind}
use Rattle.md_bar_tree.specs.declared.BarKind.TheVariants as kinds
use Rattle.md_bar_tree.specs.declared.Class.{Class}
use Rattle.md_bar_tree.specs.Bars.{IsInducedCycle, AreTwoEdges, Bars, IsBarOfKind}
use Rattle.md_bar_tree.specs.Crossing.{IsNameOf}
use Rattle.md_script.specs.declared.edit.Edit.{Edit}
use Rattle.md_script.specs.declared.edit.Edit.TheVariants.{AddEdge, DelEdge, AddVertex, DelVertex}
use Rattle.md_script.specs.Edit.{HasNames, reason_of, after}
use Rattle.md_script.specs.Pasts.{Led}
use Rattle.md_script.proofs.ChangeLemmas.{names_within, neighbours_are_vertices}
use Rattle.md_report.specs.Cographs.{IsCograph}
use Rattle.md_report.specs.Classes.{IsAllowedIn, IsBarOf}

-- ---- all is as before but at a name

-- h has the vertices and edges of g, but perhaps for w and the edges at w
pub record IsSameOff (g : PlainGraph) (w : ℕ) (h : PlainGraph) : Type 0 where
  pub within : (y : ℕ) → Has h.vertices y → y ≢ w → Has g.vertices y
  pub same : (y z : ℕ) → y ≢ w → z ≢ w → adjacent h y z ≡ adjacent g y z

module _ (g : PlainGraph) (is : IsGraph g) where
  edge_came : (u v : ℕ) → IsSameOff g u (after g (AddEdge u v))
  edge_came u v = record {
    within = λ y has other. has;
    same = λ y z ny nz.
        let py : (y == u) ≡ false = ne_eqb y u ny in
        let pz : (z == u) ≡ false = ne_eqb z u nz in
        let e = adjacent-with_edge g u v y z in
        grind arith;
  }

  edge_went : (u v : ℕ) → IsSameOff g u (after g (DelEdge u v))
  edge_went u v = record {
    within = λ y has other. has;
    same = λ y z ny nz.
        let py : (y == u) ≡ false = ne_eqb y u ny in
        let pz : (z == u) ≡ false = ne_eqb z u nz in
        let e = adjacent-without_edge g u v y z in
        grind arith;
  }

  vertex_came : (x : ℕ) (neighbours : List ℕ) → HasNames (AddVertex x neighbours) → reason_of g (AddVertex x neighbours) ≡ None → IsSameOff g x (after g (AddVertex x neighbours))
  vertex_came x neighbours names none = record {
    within = λ y has other. elim (of_insert g.vertices x y has) [ inl same ↦ absurd (other same) | inr old ↦ old ];
    same = λ y z ny nz.
        let h = with_vertex g x in
        let graph : IsGraph h = IsGraph-with_vertex is x names.0 in
        let py : (y == x) ≡ false = ne_eqb y x ny in
        let pz : (z == x) ≡ false = ne_eqb z x nz in
        let e = adjacent-with_edges h x (set.from_list neighbours)
        (λ w member. graph.names w (neighbours_are_vertices g h (AddVertex x neighbours) x neighbours (set.from_list neighbours) refl none refl refl w member)) y z in
        let f = adjacent-with_vertex g x y z in
        grind arith;
  }

  vertex_went : (x : ℕ) → IsSameOff g x (after g (DelVertex x))
  vertex_went x = record {
    within = λ y has other. (of_remove g.vertices x y has).1;
    same = λ y z ny nz.
        let py : (y == x) ≡ false = ne_eqb y x ny in
        let pz : (z == x) ≡ false = ne_eqb z x nz in
        let e = adjacent-without_vertex g x y z in
        grind arith;
  }

-- ---- bars off the name

name_or_not : (w : ℕ) (bar : Bar) → IsNameOf w bar ⊎ ((bar.a ≢ w) × (bar.b ≢ w) × (bar.c ≢ w) × (bar.d ≢ w))
name_or_not w bar =
    elim (same_name w bar.a) [
      | inl e ↦ inl (inl e)
      | inr na ↦ elim (same_name w bar.b) [
        | inl e ↦ inl (inr (inl e))
        | inr nb ↦ elim (same_name w bar.c) [
          | inl e ↦ inl (inr (inr (inl e)))
          | inr nc ↦ elim (same_name w bar.d) [
            | inl e ↦ inl (inr (inr (inr e)))
            | inr nd ↦ inr ((λ e. na (sym e)), (λ e. nb (sym e)), (λ e. nc (sym e)), (λ e. nd (sym e)))
          ]
        ]
      ]
    ]

module _ (g : PlainGraph) (w : ℕ) (h : PlainGraph) (off : IsSameOff g w h) (a b c d : ℕ) (away : (a ≢ w) × (b ≢ w) × (c ≢ w) × (d ≢ w)) where
  was : (y z : ℕ) → y ≢ w → z ≢ w → (v : Bool) → adjacent h y z ≡ v → adjacent g y z ≡ v
  was y z ny nz v is = sym (off.same y z ny nz) ∙ is

  cycle_was : IsInducedCycle (adjacent h) h.vertices a b c d → IsInducedCycle (adjacent g) g.vertices a b c d
  cycle_was k = record {
    inside = (off.within a k.inside.0 away.0, off.within b k.inside.1 away.1, off.within c k.inside.2 away.2, off.within d k.inside.3 away.3);
    different = k.different;
    edges = (was a b away.0 away.1 true k.edges.0, was b c away.1 away.2 true k.edges.1, was c d away.2 away.3 true k.edges.2, was d a away.3 away.0 true k.edges.3);
    apart = (was a c away.0 away.2 false k.apart.0, was b d away.1 away.3 false k.apart.1);
    ascending = k.ascending;
  }

  edges_were : AreTwoEdges (adjacent h) h.vertices a b c d → AreTwoEdges (adjacent g) g.vertices a b c d
  edges_were k = record {
    inside = (off.within a k.inside.0 away.0, off.within b k.inside.1 away.1, off.within c k.inside.2 away.2, off.within d k.inside.3 away.3);
    different = k.different;
    edges = (was a b away.0 away.1 true k.edges.0, was c d away.2 away.3 true k.edges.1);
    apart = (was a c away.0 away.2 false k.apart.0, was a d away.0 away.3 false k.apart.1, was b c away.1 away.2 false k.apart.2, was b d away.1 away.3 false k.apart.3);
    ascending = k.ascending;
  }

-- where the graph before is of the class, and the one after is a cograph of which bars at w are no others, that is of the class
module _ (class : Class) (g : PlainGraph) (w : ℕ) (h : PlainGraph) (off : IsSameOff g w h) (allowed : IsAllowedIn class g) (cograph : IsCograph h)
    (none : (bar : Bar) → IsBarOf class h bar → IsNameOf w bar → bar.kind ≡ kinds.P4) where
  not_path : (k : BarKind) → k ≡ kinds.P4 → k ≡ kinds.C4 → ⊥
  not_path k p q = absurd (cc)

  not_edges : (k : BarKind) → k ≡ kinds.P4 → k ≡ kinds.TwoK2 → ⊥
  not_edges k p q = absurd (cc)

  no_kind : (bar : Bar) → IsBarOf class h bar → (k : BarKind) → bar.kind ≡ k → Bars k class → IsBarOfKind k (adjacent h) h.vertices bar.a bar.b bar.c bar.d → ⊥
  no_kind bar is kinds.P4 same may path = cograph (bar.a, bar.b, bar.c, bar.d, path)
  no_kind bar is kinds.C4 same may cycle =
      elim (name_or_not w bar) [
        | inl name ↦ not_path bar.kind (none bar is name) same
        | inr away ↦ allowed (record { kind = kinds.C4; a = bar.a; b = bar.b; c = bar.c; d = bar.d }, record { bars = may; is = cycle_was g w h off bar.a bar.b bar.c bar.d away cycle })
      ]
  no_kind bar is kinds.TwoK2 same may edges =
      elim (name_or_not w bar) [
        | inl name ↦ not_edges bar.kind (none bar is name) same
        | inr away ↦ allowed (record { kind = kinds.TwoK2; a = bar.a; b = bar.b; c = bar.c; d = bar.d }, record { bars = may; is = edges_were g w h off bar.a bar.b bar.c bar.d away edges })
      ]

  pub still_allowed : IsAllowedIn class h
  still_allowed bar = no_kind bar.0 bar.1 bar.0.kind refl bar.1.bars bar.1.is

-- ---- by the edit

name_inside : (class : Class) (w : ℕ) (h : PlainGraph) (bar : Bar) → IsBarOf class h bar → IsNameOf w bar → Has h.vertices w
name_inside class w h bar is name = by_name (by_kind bar.kind is.is) name where
  by_kind : (k : BarKind) → IsBarOfKind k (adjacent h) h.vertices bar.a bar.b bar.c bar.d → Has h.vertices bar.a × Has h.vertices bar.b × Has h.vertices bar.c × Has h.vertices bar.d
  by_kind kinds.P4 shape = shape.inside
  by_kind kinds.C4 shape = shape.inside
  by_kind kinds.TwoK2 shape = shape.inside

  by_name : Has h.vertices bar.a × Has h.vertices bar.b × Has h.vertices bar.c × Has h.vertices bar.d → IsNameOf w bar → Has h.vertices w
  by_name all (inl e) = subst (Has h.vertices) (sym e) all.0
  by_name all (inr (inl e)) = subst (Has h.vertices) (sym e) all.1
  by_name all (inr (inr (inl e))) = subst (Has h.vertices) (sym e) all.2
  by_name all (inr (inr (inr e))) = subst (Has h.vertices) (sym e) all.3

-- the answer of a search that finds none
pub when_none : (o : Option P4) (P : Type 0) → is_some o ≡ false → IfNone o P → P
when_none None P told free = free
when_none (Some p) P told free = absurd (cc)

-- what is known of a graph to which an edit led
module _ {limit : ℕ} (few : limit ≤ NAMES) (class : Class) (g h : PlainGraph) (edit : Edit) (led : Led limit g edit h) (allowed : IsAllowedIn class g) (cograph : IsCograph h) where
  pub allowed_added : (u v : ℕ) → edit ≡ AddEdge u v → ((bar : Bar) → IsBarOf class h bar → IsNameOf u bar → bar.kind ≡ kinds.P4) → IsAllowedIn class h
  allowed_added u v is none =
      still_allowed class g u h (subst (IsSameOff g u) (sym (led.next_is ∙ ap (after g) is)) (edge_came g led.is_graph u v)) allowed cograph none

  pub allowed_gone : (u v : ℕ) → edit ≡ DelEdge u v → ((bar : Bar) → IsBarOf class h bar → IsNameOf u bar → bar.kind ≡ kinds.P4) → IsAllowedIn class h
  allowed_gone u v is none =
      still_allowed class g u h (subst (IsSameOff g u) (sym (led.next_is ∙ ap (after g) is)) (edge_went g led.is_graph u v)) allowed cograph none

  pub allowed_new : (x : ℕ) (neighbours : List ℕ) → edit ≡ AddVertex x neighbours → ((bar : Bar) → IsBarOf class h bar → IsNameOf x bar → bar.kind ≡ kinds.P4) → IsAllowedIn class h
  allowed_new x neighbours is none =
      still_allowed class g x h
      (subst (IsSameOff g x) (sym (led.next_is ∙ ap (after g) is))
      (vertex_came g led.is_graph x neighbours (subst HasNames is (names_within few edit led.names)) (ap (reason_of g) (sym is) ∙ led.no_reason))) allowed cograph none

  pub allowed_left : (x : ℕ) → edit ≡ DelVertex x → IsAllowedIn class h
  allowed_left x is =
      let next : h ≡ after g (DelVertex x) = led.next_is ∙ ap (after g) is in
      still_allowed class g x h (subst (IsSameOff g x) (sym next) (vertex_went g led.is_graph x)) allowed cograph
      (λ bar bars name. clash (subst (λ (k : PlainGraph). Has k.vertices x) next (name_inside class x h bar bars name)) (remove_gone g.vertices x))
