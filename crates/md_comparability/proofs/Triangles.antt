-- The triangle lemma.
use Rattle.std.proofs.Common.{◌≡◌, ◌≢◌, ℕ, Bool, true, false, refl, sym, ◌∙◌, subst, inl, inr}
use Rattle.std.proofs.lemmas.Bool.{cases_Bool}
use Rattle.md_graph.proofs.SetLemmas.{clash}
use Rattle.md_graph.specs.Adjacency.{IsAdjacency}
use Rattle.md_forcing.specs.declared.arc.Arc.{Arc}
use Rattle.md_forcing.specs.Forcing.{arc, IsArc, ForcesDirectly, Reaches}
use Rattle.md_forcing.proofs.Reaching.{reaches_itself, reaches_step, reaches_on, over_reached}
use Rattle.md_comparability.specs.Laws.{TriangleLemma, IsMoved}
use Rattle.md_comparability.proofs.Reached.{reaches_back, reaches_turned}

module _ (e : ℕ → ℕ → Bool) (is : IsAdjacency e) (a b c : ℕ) (across : e a b ≡ true) (along : e a c ≡ true)
    (not_head : ¬ Reaches e (arc b c) (arc a c)) (not_tail : ¬ Reaches e (arc b c) (arc b a)) where
  -- a step with one tail
  tail_step : (u v d : ℕ) → IsMoved e a b c u v → Reaches e (arc b c) (arc u d) → v ≢ d → e v d ≡ false → IsMoved e a b c u d
  tail_step u v d moved r apart none =
      elim (cases_Bool (e a d)) [
        | inl there ↦ record {
          first = moved.first;
          second = there;
          left = moved.left;
          right = reaches_step e (arc a c) (arc a v) (arc a d) moved.right there (inl (refl, apart, none));
        }
        | inr missing ↦
            let other : d ≢ a = λ same. clash moved.second (is.symmetric a v ∙ subst (λ x. e v x ≡ false) same none) in
            let on : Reaches e (arc b c) (arc u a) = reaches_step e (arc b c) (arc u d) (arc u a) r (is.symmetric u a ∙ moved.first) (inl (refl, other, is.symmetric d a ∙ missing)) in
            absurd (not_tail (reaches_on e (arc b c) (arc u a) (arc b a) on (reaches_back e is (arc b a) (arc u a) (reaches_turned e is (arc a b) (arc a u) moved.left))))
      ]

  -- a step with one head
  head_step : (u v d : ℕ) → IsMoved e a b c u v → Reaches e (arc b c) (arc d v) → u ≢ d → e u d ≡ false → IsMoved e a b c d v
  head_step u v d moved r apart none =
      elim (cases_Bool (e a d)) [
        | inl there ↦ record {
          first = there;
          second = moved.second;
          left = reaches_step e (arc a b) (arc a u) (arc a d) moved.left there (inl (refl, apart, none));
          right = moved.right;
        }
        | inr missing ↦
            let other : d ≢ a = λ same. clash moved.first (is.symmetric a u ∙ subst (λ x. e u x ≡ false) same none) in
            let on : Reaches e (arc b c) (arc a v) = reaches_step e (arc b c) (arc d v) (arc a v) r moved.second (inr (refl, other, is.symmetric d a ∙ missing)) in
            absurd (not_head (reaches_on e (arc b c) (arc a v) (arc a c) on (reaches_back e is (arc a c) (arc a v) moved.right)))
      ]

  abbrev Moves : Arc → Type 0
  Moves x = Reaches e (arc b c) x × IsMoved e a b c x.tail x.head

  moves_step : (x y : Arc) → IsArc e x → Moves x → IsArc e y → ForcesDirectly e x y → Moves y
  moves_step x y x_is here y_is f =
      let r = reaches_step e (arc b c) x y here.0 y_is f in (
        r,
        elim f as (λ _. IsMoved e a b c y.tail y.head) [
          | inl t ↦ subst (λ k. IsMoved e a b c k y.head) t.0 (tail_step x.tail x.head y.head here.1 (subst (λ k. Reaches e (arc b c) (arc k y.head)) (sym t.0) r) t.1 t.2)
          | inr h ↦ subst (λ k. IsMoved e a b c y.tail k) h.0 (head_step x.tail x.head y.tail here.1 (subst (λ k. Reaches e (arc b c) (arc y.tail k)) (sym h.0) r) h.1 h.2)
        ],
      )

  pub moved : (u v : ℕ) → Reaches e (arc b c) (arc u v) → IsMoved e a b c u v
  moved u v r =
      (over_reached e Moves moves_step (arc b c) (arc u v) (
        reaches_itself e (arc b c) r.0,
        record { first = across; second = along; left = reaches_itself e (arc a b) across; right = reaches_itself e (arc a c) along },
      ) r).1

pub triangle_proof : TriangleLemma
triangle_proof e is a b c u v across along not_head not_tail r = moved e is a b c across along not_head not_tail u v r
