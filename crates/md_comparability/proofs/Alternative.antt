-- A graph has a forcing chain or a transitive orientation, and not both.
use Rattle.std.proofs.Common.{◌≡◌, ◌⊎◌, ℕ, ◌<◌, Bool, true, false, sym, ◌∙◌, subst, inl, inr}
use Rattle.md_graph.proofs.SetLemmas.{clash}
use Rattle.md_graph.specs.Adjacency.{IsAdjacency}
use Rattle.md_forcing.specs.declared.arc.Arc.{Arc}
use Rattle.md_forcing.specs.Forcing.{arc, reverse, IsArc, ForcesDirectly, Reaches}
use Rattle.md_forcing.proofs.Reaching.{over_reached}
use Rattle.md_comparability.specs.Chains.{HasForcingChain, Precedes}
use Rattle.md_comparability.specs.Orientations.{IsTransitiveOrientation, HasTransitiveOrientation}
use Rattle.md_comparability.specs.Laws.{ChainOrOrientation, IsBelow}
use Rattle.md_comparability.proofs.Reached.{reaches_turned}
use Rattle.md_comparability.proofs.Deciding.{decide_reaches}
use Rattle.md_comparability.proofs.Least.{least_pair}
use Rattle.md_comparability.proofs.Chosen.{ends_apart, chosen_test, chosen_orients}
use Rattle.md_comparability.proofs.Cutting.{list_to_reverse, list_reaches}

-- a transitive orientation holds with an arc all that it forces
module _ (e f : ℕ → ℕ → Bool) (is : IsAdjacency e) (o : IsTransitiveOrientation e f) where
  abbrev In : Arc → Type 0
  In a = f a.tail a.head ≡ true

  tail_in : (u v w : ℕ) → f u v ≡ true → e u w ≡ true → e v w ≡ false → f u w ≡ true
  tail_in u v w here is_arc none =
      elim (o.one u w is_arc) [
        | inl there ↦ there
        | inr back ↦ absurd (clash (is.symmetric v w ∙ o.arcs w v (o.transitive w u v back here)) none)
      ]

  head_in : (u v w : ℕ) → f u v ≡ true → e w v ≡ true → e u w ≡ false → f w v ≡ true
  head_in u v w here is_arc none =
      elim (o.one w v is_arc) [
        | inl there ↦ there
        | inr back ↦ absurd (clash (o.arcs u w (o.transitive u v w here back)) none)
      ]

  step_in : (a b : Arc) → IsArc e a → In a → IsArc e b → ForcesDirectly e a b → In b
  step_in a b a_is here b_is force =
      elim force as (λ _. In b) [
        | inl t ↦ subst (λ k. f k b.head ≡ true) t.0 (tail_in a.tail a.head b.head here (subst (λ k. e k b.head ≡ true) (sym t.0) b_is) t.2)
        | inr h ↦ subst (λ k. f b.tail k ≡ true) h.0 (head_in a.tail a.head b.tail here (subst (λ k. e b.tail k ≡ true) (sym h.0) b_is) h.2)
      ]

  -- so no arc reaches its reverse
  pub orientation_free : (a : Arc) → Reaches e a (reverse a) → ⊥
  orientation_free a r =
      elim (o.one a.tail a.head r.0) [
        | inl here ↦ o.not_both a.tail a.head here (over_reached e In step_in a (reverse a) here r)
        | inr back ↦ o.not_both a.tail a.head (over_reached e In step_in (reverse a) a back (reaches_turned e is a (reverse a) r)) back
      ]

module _ (e : ℕ → ℕ → Bool) (is : IsAdjacency e) (n : ℕ) (below : IsBelow e n) where
  abbrev Turns : ℕ → ℕ → Type 0
  Turns u v = Reaches e (arc u v) (arc v u)

  turns_up : (a : Arc) → Reaches e a (reverse a) → (u : ℕ) × (v : ℕ) × (u < v) × Turns u v
  turns_up a r =
      elim (ends_apart e is a.tail a.head r.0) [
        | inl up ↦ (a.tail, a.head, up, r)
        | inr down ↦ (a.head, a.tail, down, reaches_turned e is a (reverse a) r)
      ]

  -- the least edge that reaches its own reverse has a forcing chain
  pub least_chain : (u v : ℕ) → u < v → Turns u v → ((x y : ℕ) → x < y → Turns x y → ¬ Precedes x y u v) → HasForcingChain e
  least_chain u v up turns least =
      let l = list_to_reverse e (arc u v) turns in
      (l.0, record { u = u; v = v; ascending = up; turns = l.1; least = λ x y other l is_list. least x y l (list_reaches e (arc x y) other is_list) })

  pub chain_or_free : HasForcingChain e ⊎ ((a : Arc) → Reaches e a (reverse a) → ⊥)
  chain_or_free =
      elim (least_pair Turns (λ x y. decide_reaches e n below (arc x y) (arc y x)) n (λ x y r. below x y r.0)) [
        | inl found ↦ inl (least_chain found.0 found.1 found.2.ascending found.2.has found.2.least)
        | inr none ↦ inr (λ a r. let up = turns_up a r in none up.0 up.1 up.2 up.3)
      ]

  chain_turns : HasForcingChain e → (a : Arc) × Reaches e a (reverse a)
  chain_turns c = (arc c.1.u c.1.v, list_reaches e (arc c.1.u c.1.v) c.0 c.1.turns)

  turns_chain : (a : Arc) × Reaches e a (reverse a) → HasForcingChain e
  turns_chain t = elim chain_or_free [ inl c ↦ c | inr free ↦ absurd (free t.0 t.1) ]

  pub chain_has_no_orientation : HasForcingChain e → HasTransitiveOrientation e → ⊥
  chain_has_no_orientation c o = let t = chain_turns c in orientation_free e o.0 is o.1 t.0 t.1

  pub free_orientation : ((a : Arc) → Reaches e a (reverse a) → ⊥) → HasTransitiveOrientation e
  free_orientation free = let t = chosen_test e is n below in (t.0, chosen_orients e is n below free t.0 t.1)

pub alternative_proof : ChainOrOrientation
alternative_proof e is n below = record {
  one = elim (chain_or_free e is n below) [ inl c ↦ inl c | inr free ↦ inr (free_orientation e is n below free) ];
  not_both = chain_has_no_orientation e is n below;
  chain = (chain_turns e is n below, turns_chain e is n below);
}
