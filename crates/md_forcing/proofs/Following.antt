-- The places of a class followed from an arc back to the first.
use Rattle.std.proofs.Common.{◌≡◌, ℕ, suc, ◌+◌, ◌<◌, Bool, List, [], ◌∷◌, ◌++◌, length, slice_get, Some, Option, refl, sym, ◌∙◌, ap, subst, inl, inr, arith, length-append, reverse as back_to_front}
use Rattle.std.proofs.lemmas.List.{reverse-append, length-reverse}
use Rattle.md_forcing.specs.declared.arc.Arc.{Arc}
use Rattle.md_forcing.specs.Lists.{Holds, NoRepeats}
use Rattle.md_forcing.specs.Forcing.{reverse, ForcesDirectly, Leads, IsListToReverse, IsShortestToReverse}
use Rattle.md_forcing.specs.Classes.{IsAtDistance, IsClass, TurnsAt}
use Rattle.md_forcing.proofs.ListLemmas.{key_at, one_place, place_within, same_some}
use Rattle.md_forcing.proofs.Reaching.{reached_arc}
use Rattle.md_forcing.proofs.Distances.{as_long}

-- The collected arcs, the last first, lead from the arc at the place to the target, and stand behind that place.
pub record Following (es : List (Arc × ℕ)) (target : Arc) (place : ℕ) (list : List Arc) : Type 0 where
  pub leads : (e : ℕ → ℕ → Bool) (first : Arc) → IsClass e first es → (a : Arc) (p : ℕ) → slice_get es place ≡ Some (a, p) → Leads e a (back_to_front list) target
  pub later : (y : Arc) → Holds (back_to_front list) y → (j : ℕ) × (q : ℕ) × (place < j) × (slice_get es j ≡ Some (y, q))
  pub once : NoRepeats (back_to_front list)
  pub within : place < length es
  -- as many steps as there are arcs lead from the target to the place
  pub further : (n : ℕ) → IsAtDistance es n place → (t : ℕ) × (q : ℕ) × (slice_get es t ≡ Some (target, q)) × IsAtDistance es (n + length list) t

pushed_back : (list : List Arc) (a : Arc) → back_to_front (list ++ a ∷ []) ≡ a ∷ back_to_front list
pushed_back list a = reverse-append list (a ∷ [])

entry_parts : (a b : Arc) (p q : ℕ) (x : Option (Arc × ℕ)) → x ≡ Some (a, p) → x ≡ Some (b, q) → (a ≡ b) × (p ≡ q)
entry_parts a b p q x s t = let same = same_some (a, p) (b, q) (sym s ∙ t) in (ap (λ y. y.0) same, ap (λ y. y.1) same)

-- the reverse of the first arc stands at the place
pub turns_there : (es : List (Arc × ℕ)) (place p q : ℕ) (first turned : Arc) → slice_get es 0 ≡ Some (first, p) → turned ≡ reverse first → slice_get es place ≡ Some (turned, q) → TurnsAt es place
turns_there es place p q first turned begins is stands = record {
  first = first;
  first_place = p;
  its_place = q;
  begins = begins;
  stands = subst (λ x. slice_get es place ≡ Some (x, q)) is stands;
}

-- and it does however the first is read
pub turned_first : (es : List (Arc × ℕ)) (place : ℕ) (turns : TurnsAt es place) (a : Arc) (p : ℕ) → slice_get es 0 ≡ Some (a, p) → slice_get es place ≡ Some (reverse a, turns.its_place)
turned_first es place turns a p s =
    let same = (entry_parts turns.first a turns.first_place p _ turns.begins s).0 in
    subst (λ x. slice_get es place ≡ Some (reverse x, turns.its_place)) same turns.stands

pub following_start : (es : List (Arc × ℕ)) (target : Arc) (place p : ℕ) → slice_get es place ≡ Some (target, p) → Following es target place []
following_start es target place p stands = record {
  leads = λ e first is a q s. (entry_parts a target q p _ s stands).0;
  later = λ y h. absurd h;
  once = tt;
  within = place_within es place _ stands;
  further = λ n near. let same : n ≡ n + 0 = omega arith in (place, p, stands, subst (λ m. IsAtDistance es m place) same near);
}

module _ (es : List (Arc × ℕ)) (target : Arc) (place : ℕ) (list : List Arc) (before : Following es target place list) where
  -- no collected arc stands at the place
  not_there : (e : ℕ → ℕ → Bool) (first : Arc) → IsClass e first es → (a : Arc) (p : ℕ) → slice_get es place ≡ Some (a, p) → Holds (back_to_front list) a → ⊥
  not_there e first is a p s h =
      let w = before.later a h in
      let same = one_place es place w.0 a p w.1 is.once s w.3 in
      let behind = w.2 in
      omega arith

  pub following_more : (e : ℕ → ℕ → Bool) (first : Arc) → IsClass e first es → 0 < place → (a : Arc) (p : ℕ) → slice_get es place ≡ Some (a, p) → (p < place) × Following es target p (list ++ a ∷ [])
  following_more e first is above a p s =
      let own = is.forced place p a above s in
      let less = own.before in (
        own.before,
        record {
          leads = λ f other is_other b q t.
              let forced = is_other.forced place p a above s in
              let by_same = (entry_parts forced.by b forced.its_place q _ forced.stands t).0 in
              let P : List Arc → Type 0 = λ l. Leads f b l target in
              subst P (sym (pushed_back list a)) (
                reached_arc f other a ((is_other.reached a).0 (key_at es place a p s)),
                subst (λ x. ForcesDirectly f x a) by_same forced.forces,
                before.leads f other is_other a p s,
              );
          later = λ y h.
              elim (subst (λ l. Holds l y) (pushed_back list a) h) [
                | inl same ↦ (place, p, own.before, subst (λ x. slice_get es place ≡ Some (x, p)) (sym same) s)
                | inr rest ↦ let w = before.later y rest in let behind = w.2 in (w.0, w.1, omega arith, w.3)
              ];
          once = subst NoRepeats (sym (pushed_back list a)) (not_there e first is a p s, before.once);
          within = (let w = before.within in omega arith);
          further = λ n near.
              let (t, q, there, far) = before.further (suc n) (above, p, a, s, near) in
              let longer = length-append list (a ∷ []) in
              let same : suc n + length list ≡ n + length (list ++ a ∷ []) = omega arith in
              (t, q, there, subst (λ m. IsAtDistance es m t) same far);
        },
      )

  -- at the first place the list is whole
  pub followed : (chain : List Arc) (a : Arc) (p : ℕ) → place ≡ 0 → target ≡ reverse a → slice_get es 0 ≡ Some (a, p) → chain ≡ back_to_front (list ++ a ∷ []) → (e : ℕ → ℕ → Bool) (first : Arc) → IsClass e first es → IsShortestToReverse e first chain
  followed chain a p here turned s is_chain e first is =
      let same = (entry_parts a first p 0 _ s is.begins).0 in
      let stands : slice_get es place ≡ Some (a, p) = ap (slice_get es) here ∙ s in
      let whole : chain ≡ a ∷ back_to_front list = is_chain ∙ pushed_back list a in
      let P : Arc → Type 0 = λ x. IsListToReverse e x chain in record {
        to_reverse = subst P same (record {
          rest = back_to_front list;
          begins = whole;
          starts = reached_arc e first a ((is.reached a).0 (key_at es 0 a p s));
          leads = subst (Leads e a (back_to_front list)) turned (before.leads e first is a p stands);
          no_repeats = subst NoRepeats (sym whole) (not_there e first is a p stands, before.once);
        });
        shortest = λ other led.
            let (t, q, there, far) = before.further 0 here in
            let last : slice_get es t ≡ Some (reverse first, q) = there ∙ ap (λ x. Some (x, q)) (turned ∙ ap reverse same) in
            let long = as_long e first es is led.rest first (reverse first) 0 _ 0 t 0 q led.leads is.begins last refl far in
            let length_is : length chain ≡ suc (length list) = ap length is_chain ∙ length-reverse (list ++ a ∷ []) ∙ length-append list (a ∷ []) ∙ next in
            let other_is = ap length led.begins in
            omega arith;
      } where
        next : length list + 1 ≡ suc (length list)
        next = omega arith

pub has_first : (e : ℕ → ℕ → Bool) (first : Arc) (es : List (Arc × ℕ)) → IsClass e first es → 0 < length es
has_first e first es is = place_within es 0 _ is.begins
