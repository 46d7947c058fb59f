-- A list that is gone through in step with the arcs of a set.
use Rattle.std.proofs.Common.{◌≡◌, ◌↔◌, ℕ, zero, suc, ◌<◌, ◌≤◌, List, [], ◌++◌, map, length, append_assoc, append-nil, refl, sym, ◌∙◌, ap, inl, inr, arith}
use Rattle.std.proofs.lemmas.Bool.{cases_lt}
use Rattle.md_graph.specs.Sets.{NameSet}
use Rattle.md_graph.specs.NameSet.{ascending}
use Rattle.md_graph.specs.PlainGraph.{PlainGraph, IsGraph, adjacent}
use Rattle.md_graph.specs.declared.TheConstants.{NAMES}
use Rattle.md_forcing.specs.declared.arc.Arc.{Arc}
use Rattle.md_forcing.specs.declared.arc_set.Side.TheVariants.{Edges}
use Rattle.md_forcing.specs.Forcing.{arc}
use Rattle.md_graph.specs.Rows.{row_of}
use Rattle.md_comparability.specs.Listed.{arcs_below}
use Rattle.md_comparability.specs.Orientations.{HasTransitiveOrientation, IsLeastEdgeOrientation}
use Rattle.md_comparability.specs.Walking.{IsStopped, IsWholeOrientation}
use Rattle.md_comparability.proofs.Listing.{oriented}
use Rattle.md_comparability.proofs.OneList.{one_list_proof}
use Rattle.md_comparability.proofs.Reached.{side_premises}
use Rattle.md_comparability.proofs.Alternative.{orientation_free}

-- the arcs of the first rows are a front of all
rows_front : (rows : List NameSet) (k n : ℕ) → k ≤ n → (rest : List Arc) × (arcs_below rows n ≡ arcs_below rows k ++ rest)
unfolding arcs_below
rows_front rows k zero le = let same : k ≡ 0 = omega arith in ([], ap (arcs_below rows) (sym same) ∙ sym (append-nil (arcs_below rows k)))
rows_front rows k (suc n) le = elim (cases_lt n k) [
  | inl less ↦ let same : k ≡ suc n = omega arith in ([], ap (arcs_below rows) (sym same) ∙ sym (append-nil (arcs_below rows k)))
  | inr more ↦
      let before = rows_front rows k n more in
      (before.0 ++ map (arc n) (ascending (row_of rows n)), ap (λ l. l ++ map (arc n) (ascending (row_of rows n))) before.1 ∙ append_assoc (arcs_below rows k) before.0 _)
]

-- the next row isn't there
pub row_missing : (rows : List NameSet) (list now : List Arc) (n : ℕ) (heads : NameSet) → n < length rows → now ≡ arcs_below rows n → heads ≡ row_of rows n → ((rest : List Arc) → list ≡ (now ++ map (arc n) (ascending heads)) ++ rest → ⊥) → list ≡ arcs_below rows (length rows) → ⊥
unfolding arcs_below
row_missing rows list now n heads below is_now is_heads none is =
    let front = rows_front rows (suc n) (length rows) (omega arith) in
    none front.0 (is ∙ front.1 ∙ ap (λ l. l ++ front.0) (λ i. sym is_now i ++ map (arc n) (ascending (sym is_heads i))))

-- ---- the least-edge orientation

module _ {g : PlainGraph} (is : IsGraph g) where
  pub stopped_has_none : (class : List (Arc × ℕ)) → IsStopped (adjacent g) class → (list : List Arc) → HasTransitiveOrientation (adjacent g) × IsLeastEdgeOrientation (adjacent g) list → ⊥
  stopped_has_none class stopped list has =
      orientation_free (adjacent g) has.0.0 (side_premises is Edges).adjacency has.0.1 (arc stopped.u stopped.v) ((stopped.is.reached (arc stopped.v stopped.u)).0 stopped.turns)

  pub whole_listed : (chosen : List NameSet) → IsWholeOrientation (adjacent g) chosen → (list : List Arc) → (list ≡ arcs_below chosen (length chosen)) ↔ (HasTransitiveOrientation (adjacent g) × IsLeastEdgeOrientation (adjacent g) list)
  whole_listed chosen whole list =
      let side = side_premises is Edges in (
        oriented is chosen whole list,
        λ has. (one_list_proof (adjacent g) side.adjacency NAMES side.below).one list (arcs_below chosen (length chosen)) has.1 (oriented is chosen whole (arcs_below chosen (length chosen)) refl).1,
      )
