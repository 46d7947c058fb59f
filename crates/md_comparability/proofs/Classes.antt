-- A class that doesn't meet its reverse is transitive.
use Rattle.std.proofs.Common.{◌≡◌, ◌≢◌, true, refl, sym, ◌∙◌, subst, inl, inr}
use Rattle.std.proofs.lemmas.Bool.{cases_Bool}
use Rattle.md_graph.proofs.SetLemmas.{clash}
use Rattle.md_forcing.specs.declared.arc.Arc.{Arc}
use Rattle.md_forcing.specs.Forcing.{arc, Reaches}
use Rattle.md_forcing.proofs.Reaching.{reaches_step, reaches_on, reached_arc}
use Rattle.md_comparability.specs.Laws.{ClassesAreTransitive}
use Rattle.md_comparability.proofs.Reached.{reaches_back, both_turned}
use Rattle.md_comparability.proofs.Triangles.{moved}
use Rattle.md_comparability.proofs.Deciding.{decide_reaches}

pub transitive_proof : ClassesAreTransitive
transitive_proof e is n below a free u v w r s =
    let uv : e u v ≡ true = reached_arc e a (arc u v) r in
    let apart : u ≢ w = λ same. free (both_turned e is a (arc u v) r (subst (λ x. Reaches e a (arc v x)) (sym same) s)) in
    let uw : e u w ≡ true = elim (cases_Bool (e u w)) [
      | inl there ↦ there
      | inr none ↦ absurd (free (both_turned e is a (arc v w) s (reaches_step e a (arc u v) (arc w v) r (is.symmetric w v ∙ reached_arc e a (arc v w) s) (inr (refl, apart, none)))))
    ] in
    elim (decide_reaches e n below a (arc u w)) [
      | inl yes_it ↦ yes_it
      | inr missing ↦
          let on : (x : Arc) → Reaches e (arc v w) x → Reaches e a x = λ x t. reaches_on e a (arc v w) x s t in
          let back : Reaches e (arc v w) (arc u v) = reaches_on e (arc v w) a (arc u v) (reaches_back e is a (arc v w) s) r in
          let m = moved e is u v w uv uw (λ t. missing (on (arc u w) t)) (λ t. free (both_turned e is a (arc u v) r (on (arc v u) t))) u v back in
          absurd (clash m.first (is.irreflexive u))
    ]
