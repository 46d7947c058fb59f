-- The pairs of children of a prime node with arcs from the one to the other, by their least names.
use Rattle.std.proofs.Common.{◌≡◌, ◌≢◌, ℕ, ◌<◌, ◌↔◌, Bool, true, List, length, get_or, sym, ◌∙◌, ap, subst, inl, inr, arith}
use Rattle.std.proofs.lemmas.Bool.{cases_lt, false_from_ne_true}
use Rattle.std.specs.FinSet.{empty, intersection}
use Rattle.md_graph.specs.declared.TheConstants.{NAMES}
use Rattle.md_graph.specs.Sets.{NameSet, Has, Lacks}
use Rattle.md_graph.proofs.SetLemmas.{of_meet, meet_has}
use Rattle.md_modules.specs.Modules.{IsModule, IsMaximalStrong}
use Rattle.md_modules.proofs.Strong.{children_meet}
use Rattle.md_modules.proofs.ClassLists.{at_known}
use Rattle.md_digraph.specs.declared.TheConstants.{DIRECTED_NAMES}
use Rattle.md_digraph.specs.PlainDigraph.{PlainDigraph, IsDigraph, has_arc_to, successors}
use Rattle.md_digraph.specs.ArcColours.{ArcColour, between}
use Rattle.md_digraph.proofs.DigraphLemmas.{contains-successors}
use Rattle.md_tree.specs.StrongTrees.{IsBefore, ListsExactly}
use Rattle.md_decompose.specs.Children.{AreChildren, set_at}
use Rattle.md_decompose.specs.Heads.{HoldsHeads, ListsHeadPairs}
use Rattle.md_decompose.proofs.Heads.{heads_rise}
use Rattle.md_decompose.proofs.HeadPairs.{pairs_exactly}
use Rattle.md_decompose.proofs.Joining.{child_at, child_within}
use Rattle.md_dtree.specs.declared.DPair.{DPair}
use Rattle.md_dtree.specs.DirectedSpelling.{directed_pairs}
use Rattle.md_dtree.proofs.ArcKinds.{directed_pairs_law}
use Rattle.md_ddecompose.specs.Children.{IsArcOfSets}
use Rattle.md_ddecompose.specs.Heads.{IsHeadArc}

pub arcs_among : {arc : ℕ → ℕ → Bool} {heads : NameSet} (a b : ℕ) → IsHeadArc arc heads a b → Has heads a × Has heads b
arcs_among a b is = (is.first, is.second)

-- the heads to which an arc runs from a head
pub arcs_near : {g : PlainDigraph} → IsDigraph g → (heads : NameSet) (h : ℕ) → Has heads h → (b : ℕ) → Has (intersection (successors g h) heads) b ↔ IsHeadArc (has_arc_to g) heads h b
arcs_near {g} digraph heads h head b = (
  λ k.
      let two : Has (successors g h) b × Has heads b = of_meet (successors g h) heads b k in
      record { first = head; second = two.1; runs = sym (contains-successors digraph h b) ∙ two.0 },
  λ is. meet_has (successors g h) heads b (contains-successors digraph h b ∙ is.runs) is.second,
)

-- ---- the arcs between children are those between their heads

module _ (arc : ℕ → ℕ → Bool) (s : NameSet) (cs : List NameSet) (children : AreChildren (between arc) s cs) where
  abbrev e : ℕ → ℕ → ArcColour
  e = between arc

  abbrev child : (k : ℕ) → k < length cs → IsMaximalStrong e s (set_at cs k)
  child = child_at s cs children.exactly

  sets_differ : (i j : ℕ) → i < length cs → j < length cs → i ≢ j → set_at cs i ≢ set_at cs j
  sets_differ i j li lj differ same = elim (cases_lt i j) [
    | inl less ↦
        let before : IsBefore (set_at cs i) (set_at cs j) = children.order i j empty less lj in
        absurd (let b : before.0 < before.0 = before.2 before.0 (subst (λ t. Has t before.0) same before.1) in omega arith)
    | inr more ↦
        let before : IsBefore (set_at cs j) (set_at cs i) = children.order j i empty (omega arith) li in
        absurd (let b : before.0 < before.0 = before.2 before.0 (subst (λ t. Has t before.0) (sym same) before.1) in omega arith)
  ]

  apart : (i j x : ℕ) → i < length cs → j < length cs → i ≢ j → Has (set_at cs i) x → Lacks (set_at cs j) x
  apart i j x li lj differ h = false_from_ne_true _ (λ k. sets_differ i j li lj differ (children_meet s (set_at cs i) (set_at cs j) x (child i li) (child j lj) h k))

  -- between two children all pairs have one colour
  same_arc : (i j a b x y : ℕ) → i < length cs → j < length cs → i ≢ j → Has (set_at cs i) a → Has (set_at cs j) b → Has (set_at cs i) x → Has (set_at cs j) y → arc a b ≡ true → arc x y ≡ true
  same_arc i j a b x y li lj differ ha hb hx hy runs =
      let m : IsModule e s (set_at cs i) = (child i li).is_strong.is_module in
      let n : IsModule e s (set_at cs j) = (child j lj).is_strong.is_module in
      let first : e b x ≡ e b a = m.alike x a b hx ha (n.inside b hb) (apart j i b lj li (λ q. differ (sym q)) hb) in
      let second : e x y ≡ e x b = n.alike y b x hy hb (m.inside x hx) (apart i j x li lj differ hx) in
      ap (λ c. c.0) second ∙ ap (λ c. c.1) first ∙ runs

  module _ (loopless : (v : ℕ) → arc v v ≡ true → ⊥) (heads : NameSet) (places : List ℕ) (is : HoldsHeads cs (length cs) heads places) where
    places_differ : (a b : ℕ) → Has heads a → Has heads b → a ≢ b → get_or places a 0 ≢ get_or places b 0
    places_differ a b ha hb differ same = elim (cases_lt a b) [
      | inl less ↦ absurd (let up : get_or places a 0 < get_or places b 0 = heads_rise cs children.order (length cs) heads places (omega arith) is a b ha hb less in omega arith)
      | inr more ↦ absurd (let up : get_or places b 0 < get_or places a 0 = heads_rise cs children.order (length cs) heads places (omega arith) is b a hb ha (omega arith) in omega arith)
    ]

    to_sets : (a b : ℕ) → IsHeadArc arc heads a b → IsArcOfSets arc cs (get_or places a 0) (get_or places b 0)
    to_sets a b near = record {
      differ = places_differ a b near.first near.second (λ same. loopless b (subst (λ v. arc v b ≡ true) same near.runs));
      runs = (a, b, (is.least a near.first).member, (is.least b near.second).member, near.runs);
    }

    of_sets : (i j : ℕ) → IsArcOfSets arc cs i j → (a : ℕ) × (b : ℕ) × IsHeadArc arc heads a b × (get_or places a 0 ≡ i) × (get_or places b 0 ≡ j)
    of_sets i j runs =
        let x : ℕ = runs.runs.0 in
        let y : ℕ = runs.runs.1 in
        let li : i < length cs = at_known cs i x runs.runs.2 in
        let lj : j < length cs = at_known cs j y runs.runs.3 in
        let a : (a : ℕ) × Has heads a × (get_or places a 0 ≡ i) = is.each i li in
        let b : (b : ℕ) × Has heads b × (get_or places b 0 ≡ j) = is.each j lj in
        let a_in : Has (set_at cs i) a.0 = subst (λ k. Has (set_at cs k) a.0) a.2 (is.least a.0 a.1).member in
        let b_in : Has (set_at cs j) b.0 = subst (λ k. Has (set_at cs k) b.0) b.2 (is.least b.0 b.1).member in (
          a.0,
          b.0,
          record { first = a.1; second = b.1; runs = same_arc i j x y a.0 b.0 li lj runs.differ runs.runs.2 runs.runs.3 a_in b_in runs.runs.4 },
          a.2,
          b.2,
        )

    pub arcs_listed : ((v : ℕ) → Has s v → v < DIRECTED_NAMES) → (ps : List DPair) → ListsHeadPairs directed_pairs (IsHeadArc arc heads) places NAMES 0 ps → ListsExactly directed_pairs (IsArcOfSets arc cs) ps
    arcs_listed names ps lists =
        pairs_exactly directed_pairs_law heads (heads_rise cs children.order (length cs) heads places (omega arith) is) arcs_among (IsArcOfSets arc cs) ps
        (λ v h. let few : v < DIRECTED_NAMES = names v (child_within s cs children.exactly (get_or places v 0) v (is.below v h) (is.least v h).member) in omega arith) to_sets of_sets lists
