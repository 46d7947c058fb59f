-- The arcs of a set as an ascending list.
use Rattle.std.proofs.Common.{◌≡◌, ◌↔◌, ℕ, zero, suc, ◌+◌, ◌<◌, true, false, ◌&&◌, nat_le, if◌then◌else◌, List, [], ◌∷◌, ◌++◌, map, append_assoc, append-nil, length, refl, sym, ◌∙◌, ap, subst, inl, inr, arith}
use Rattle.std.proofs.lemmas.Bool.{cases_lt}
use Rattle.std.proofs.lemmas.List.{map-append}
use Rattle.std.specs.FinSet as set
use Rattle.md_graph.specs.declared.TheConstants.{NAMES}
use Rattle.md_graph.specs.Sets.{NameSet, Has}
use Rattle.md_graph.specs.NameSet.{ascending, ascending_between}
use Rattle.md_graph.specs.Rows.{row_of}
use Rattle.md_graph.specs.PlainGraph.{PlainGraph, IsGraph, adjacent}
use Rattle.md_forcing.specs.declared.arc.Arc.{Arc}
use Rattle.md_forcing.specs.declared.arc_set.Side.TheVariants.{Edges}
use Rattle.md_forcing.specs.Lists.{Holds}
use Rattle.md_forcing.specs.Forcing.{arc}
use Rattle.md_forcing.specs.ArcSet.{HasArc}
use Rattle.md_forcing.proofs.ListLemmas.{holds_left, holds_right, of_append, holds_map, of_map}
use Rattle.md_forcing.proofs.SeenRows.{tail_within}
use Rattle.md_forcing.proofs.NameLists.{of_ascending, in_ascending}
use Rattle.md_comparability.specs.Orientations.{AreAscending, HasTransitiveOrientation, IsLeastEdgeOrientation}
use Rattle.md_comparability.specs.Walking.{IsWholeOrientation}
use Rattle.md_comparability.proofs.Reached.{side_premises}
use Rattle.md_comparability.proofs.Chosen.{chosen_arc}
use Rattle.md_comparability.proofs.Alternative.{free_orientation}
use Rattle.md_comparability.proofs.ArcLists.{ascending_append}
use Rattle.md_comparability.specs.Listed.{arcs_below}

-- ---- one row

row_up : (u : ℕ) (s : NameSet) (n : ℕ) → AreAscending (map (arc u) (ascending_between s 0 n))
unfolding ascending_between
row_up u s zero = tt
row_up u s (suc n) =
    let before = row_up u s n in
    elim (nat_le 0 n && set.contains s n) as (λ b. AreAscending (map (arc u) (ascending_between s 0 n ++ (if b then n ∷ [] else [])))) [
      | true ↦ subst AreAscending (sym (map-append (arc u) (ascending_between s 0 n) (n ∷ [])))
          (ascending_append (map (arc u) (ascending_between s 0 n)) (arc u n ∷ []) before (λ b h. absurd h, tt) (λ a b h i.
          let w = of_map (arc u) (ascending_between s 0 n) a h in
          let less = (of_ascending s n w.0 w.1).1 in
          elim i [
            | inl same ↦
                let tail_a : a.tail ≡ u = ap (λ x. x.tail) w.2 in
                let tail_b : b.tail ≡ u = ap (λ x. x.tail) same in
                let head_a : a.head ≡ w.0 = ap (λ x. x.head) w.2 in
                let head_b : b.head ≡ n = ap (λ x. x.head) same in
                inr (tail_a ∙ sym tail_b, omega arith)
            | inr none ↦ absurd none
          ]))
      | false ↦ subst (λ l. AreAscending (map (arc u) l)) (sym (append-nil (ascending_between s 0 n))) before
    ]

of_row : (u : ℕ) (s : NameSet) (a : Arc) → Holds (map (arc u) (ascending s)) a → (a.tail ≡ u) × Has s a.head
of_row u s a h =
    let w = of_map (arc u) (ascending s) a h in
    (ap (λ x. x.tail) w.2, subst (Has s) (sym (ap (λ x. x.head) w.2)) (of_ascending s NAMES w.0 w.1).0)

-- ---- all rows

module _ (rows : List NameSet) where
  of_arcs : (n : ℕ) (a : Arc) → Holds (arcs_below rows n) a → (a.tail < n) × HasArc rows a
  unfolding arcs_below
  of_arcs zero a h = absurd h
  of_arcs (suc n) a h =
      elim (of_append (arcs_below rows n) _ a h) [
        | inl l ↦ let before = of_arcs n a l in let less = before.0 in (omega arith, before.1)
        | inr r ↦
            let w = of_row n (row_of rows n) a r in
            let same = w.0 in
            (omega arith, subst (λ k. Has (row_of rows k) a.head) (sym same) w.1)
      ]

  in_arcs : (n : ℕ) (a : Arc) → a.tail < n → a.head < NAMES → HasArc rows a → Holds (arcs_below rows n) a
  unfolding arcs_below
  in_arcs zero a less name seen = absurd (omega arith)
  in_arcs (suc n) a less name seen =
      elim (cases_lt a.tail n) [
        | inl below ↦ holds_left (arcs_below rows n) _ a (in_arcs n a below name seen)
        | inr above ↦
            let same : a.tail ≡ n = omega arith in
            let is : arc n a.head ≡ a = λ i. record { tail = sym same i; head = a.head } in
            let here = in_ascending (row_of rows n) NAMES a.head (subst (λ k. Has (row_of rows k) a.head) same seen) name in
            holds_right (arcs_below rows n) _ a (subst (Holds (map (arc n) (ascending (row_of rows n)))) is (holds_map (arc n) (ascending (row_of rows n)) a.head here))
      ]

  pub arcs_up : (n : ℕ) → AreAscending (arcs_below rows n)
  unfolding arcs_below
  arcs_up zero = tt
  arcs_up (suc n) =
      ascending_append (arcs_below rows n) _ (arcs_up n) (row_up n (row_of rows n) NAMES) (λ a b h i.
      let less = (of_arcs n a h).0 in
      let same = (of_row n (row_of rows n) b i).0 in
      inl (omega arith))

  pub arcs_are : (n : ℕ) → ((a : Arc) → HasArc rows a → (a.tail < n) × (a.head < NAMES)) → (a : Arc) → Holds (arcs_below rows n) a ↔ HasArc rows a
  arcs_are n within a = (λ h. (of_arcs n a h).1, λ s. in_arcs n a (within a s).0 (within a s).1 s)

  pub arcs_more : (n : ℕ) (now new : List Arc) (heads : NameSet) → now ≡ arcs_below rows n → heads ≡ row_of rows n → new ≡ now ++ map (arc n) (ascending heads) → new ≡ arcs_below rows (n + 1)
  unfolding arcs_below
  arcs_more n now new heads is_now is_heads made =
      let next : n + 1 ≡ suc n = omega arith in
      made ∙ (λ i. is_now i ++ map (arc n) (ascending (is_heads i))) ∙ sym (ap (arcs_below rows) next)

  pub arcs_none : arcs_below rows 0 ≡ []
  unfolding arcs_below
  arcs_none = refl

-- ---- the loop over a row

pub record RowListed (tail : ℕ) (heads : NameSet) (start now : List Arc) (left : List ℕ) : Type 0 where
  pub whole : now ++ map (arc tail) left ≡ start ++ map (arc tail) (ascending heads)

pub row_start : (tail : ℕ) (heads : NameSet) (start : List Arc) (left : List ℕ) → left ≡ ascending heads → RowListed tail heads start start left
row_start tail heads start left is = record { whole = ap (λ l. start ++ map (arc tail) l) is }

pub row_more : (tail : ℕ) (heads : NameSet) (start now new : List Arc) (left rest : List ℕ) (x : ℕ) → RowListed tail heads start now left → left ≡ x ∷ rest → new ≡ now ++ arc tail x ∷ [] → RowListed tail heads start new rest
row_more tail heads start now new left rest x before is made = record {
  whole = ap (λ l. l ++ map (arc tail) rest) made ∙ append_assoc now (arc tail x ∷ []) (map (arc tail) rest) ∙ sym (ap (λ l. now ++ map (arc tail) l) is) ∙ before.whole;
}

pub row_end : (tail : ℕ) (heads : NameSet) (start now : List Arc) (left : List ℕ) → RowListed tail heads start now left → left ≡ [] → now ≡ start ++ map (arc tail) (ascending heads)
row_end tail heads start now left before is = sym (append-nil now) ∙ sym (ap (λ l. now ++ map (arc tail) l) is) ∙ before.whole

-- ---- the list of all arcs of the least-edge orientation

pub oriented : {g : PlainGraph} → IsGraph g → (chosen : List NameSet) → IsWholeOrientation (adjacent g) chosen → (list : List Arc) → list ≡ arcs_below chosen (length chosen) → HasTransitiveOrientation (adjacent g) × IsLeastEdgeOrientation (adjacent g) list
oriented {g} is chosen whole list made =
    let side = side_premises is Edges in
    let within : (a : Arc) → HasArc chosen a → (a.tail < length chosen) × (a.head < NAMES) = λ a s. (tail_within chosen a s, (side.below a.tail a.head (chosen_arc (adjacent g) side.adjacency a ((whole.all a).0 s))).1) in
    let P : List Arc → Type 0 = λ l. IsLeastEdgeOrientation (adjacent g) l in (
      free_orientation (adjacent g) side.adjacency NAMES side.below whole.free,
      subst P (sym made) (record {
        arcs = λ a. (
          λ h. (whole.all a).0 ((arcs_are chosen (length chosen) within a).0 h),
          λ c. (arcs_are chosen (length chosen) within a).1 ((whole.all a).1 c),
        );
        ascending = arcs_up chosen (length chosen);
      }),
    )
