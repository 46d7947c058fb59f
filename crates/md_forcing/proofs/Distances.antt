-- How far the arcs of a class are from the first, and that no list is shorter than its last arc is far.
use Rattle.std.proofs.Common.{◌≡◌, ℕ, zero, suc, ◌+◌, ◌<◌, ◌≤◌, Bool, List, [], ◌∷◌, length, slice_get, Some, sym, ◌∙◌, ap, subst, inl, inr, arith}
use Rattle.std.proofs.lemmas.Bool.{cases_lt}
use Rattle.md_forcing.specs.declared.arc.Arc.{Arc}
use Rattle.md_forcing.specs.Forcing.{ForcesDirectly, Leads}
use Rattle.md_forcing.specs.Classes.{IsAtDistance, IsClass}
use Rattle.md_forcing.proofs.ListLemmas.{get_some, key_at, one_place, place_of_key, place_within, same_some}
use Rattle.md_forcing.proofs.Reaching.{reaches_step}

module _ (e : ℕ → ℕ → Bool) (first : Arc) (es : List (Arc × ℕ)) (is : IsClass e first es) where
  -- a later place is no nearer
  pub at_in_order : (n m k l : ℕ) → k ≤ l → IsAtDistance es n k → IsAtDistance es m l → n ≤ m
  at_in_order zero m k l order near far = omega arith
  at_in_order (suc n) zero k l order near far = let above = near.0 in absurd (omega arith)
  at_in_order (suc n) (suc m) k l order near far =
      let (above, p, a, s, rest) = near in
      let (below, q, b, t, more) = far in
      let less = at_in_order n m p q (is.by_distance.in_order k l p q a b order s t) rest more in
      omega arith

  -- what an arc forces is at most one step further
  pub one_step : (n m k l p q : ℕ) (a b : Arc) → slice_get es k ≡ Some (a, p) → slice_get es l ≡ Some (b, q) → ForcesDirectly e a b → IsAtDistance es n k → IsAtDistance es m l → m ≤ suc n
  one_step n zero k l p q a b s t f near far = omega arith
  one_step n (suc m) k l p q a b s t f near far =
      let (above, r, c, u, rest) = far in
      let same : q ≡ r = ap (λ x. x.1) (same_some (b, q) (c, r) (sym t ∙ u)) in
      elim (cases_lt k q) [
        | inl less ↦ absurd (is.by_distance.earliest l k q p b a t s less f)
        | inr not_less ↦ let fewer = at_in_order m n r k (omega arith) rest near in omega arith
      ]

  -- each arc is some steps away; the bound is that of its place
  pub at_some : (bound k : ℕ) → k < bound → k < length es → (n : ℕ) × IsAtDistance es n k
  at_some zero k below within = absurd (omega arith)
  at_some (suc bound) k below within =
      elim (cases_lt 0 k) [
        | inl above ↦
            let entry = get_some es k within in
            let forced = is.forced k entry.0.1 entry.0.0 above entry.1 in
            let before = forced.before in
            let rest = at_some bound entry.0.1 (omega arith) (omega arith) in
            (suc rest.0, (above, entry.0.1, entry.0.0, entry.1, rest.1))
        | inr here ↦ (zero, omega arith)
      ]

  -- a list of arcs is as long as its last arc is far behind the arc that it leads from
  pub as_long : (list : List Arc) (a b : Arc) (n m k l p q : ℕ) → Leads e a list b → slice_get es k ≡ Some (a, p) → slice_get es l ≡ Some (b, q) → IsAtDistance es n k → IsAtDistance es m l → m ≤ n + length list
  as_long [] a b n m k l p q same s t near far =
      let here : l ≡ k = one_place es l k a q p is.once (subst (λ x. slice_get es l ≡ Some (x, q)) (sym same) t) s in
      let less = at_in_order m n l k (omega arith) far near in
      omega arith
  as_long (c ∷ list) a b n m k l p q leads s t near far =
      let reached = reaches_step e first a c ((is.reached a).0 (key_at es k a p s)) leads.0 leads.1 in
      let place = place_of_key es c ((is.reached c).1 reached) in
      let within = place_within es place.0 _ place.2 in
      let away = at_some (suc place.0) place.0 (omega arith) within in
      let next = one_step n away.0 k place.0 p place.1 a c s place.2 leads.1 near away.1 in
      let rest = as_long list c b away.0 m place.0 l place.1 q leads.2 place.2 t away.1 far in
      omega arith
