-- Whether an arc reaches another is decided.
use Rattle.std.proofs.Common.{◌≡◌, ◌⊎◌, ℕ, Bool, true, false, List, [], ◌∷◌, ap, subst, inl, inr}
use Rattle.md_graph.proofs.SetLemmas.{same_name}
use Rattle.md_graph.proofs.Search.{Decided, decide_test, decide_both, decide_three, decide_not, decide_like}
use Rattle.md_forcing.specs.declared.arc.Arc.{Arc}
use Rattle.md_forcing.specs.Lists.{Holds}
use Rattle.md_forcing.specs.Forcing.{IsArc, ForcesDirectly, Leads, Reaches}
use Rattle.md_forcing.proofs.Reaching.{reaches_itself, reaches_step, reaches_on}
use Rattle.md_comparability.specs.Laws.{IsBelow}
use Rattle.md_comparability.proofs.ArcLists.{has_list}

pub decide_either : {P Q : Type 0} → Decided P → Decided Q → Decided (P ⊎ Q)
decide_either (inl p) d = inl (inl p)
decide_either (inr n) (inl q) = inl (inr q)
decide_either (inr n) (inr m) = inr (λ h. elim h [ inl p ↦ n p | inr q ↦ m q ])

pub decide_arc : (a b : Arc) → Decided (a ≡ b)
decide_arc a b =
    decide_like {P = (a.tail ≡ b.tail) × (a.head ≡ b.head)} (λ p i. record { tail = p.0 i; head = p.1 i }) (λ e. (ap (λ x. x.tail) e, ap (λ x. x.head) e)) (decide_both (same_name a.tail b.tail) (same_name a.head b.head))

pub decide_holds : (l : List Arc) (a : Arc) → Decided (Holds l a)
decide_holds [] a = inr (λ h. h)
decide_holds (b ∷ l) a = decide_either (decide_arc a b) (decide_holds l a)

module _ (e : ℕ → ℕ → Bool) where
  pub decide_is_arc : (a : Arc) → Decided (IsArc e a)
  decide_is_arc a = decide_test (e a.tail a.head) true

  pub decide_forces : (a b : Arc) → Decided (ForcesDirectly e a b)
  decide_forces a b =
      decide_either
      (decide_three (same_name a.tail b.tail) (decide_not (same_name a.head b.head)) (decide_test (e a.head b.head) false))
      (decide_three (same_name a.head b.head) (decide_not (same_name a.tail b.tail)) (decide_test (e a.tail b.tail) false))

  -- from a to b with no arcs between them but those of the list
  abbrev Through : List Arc → Arc → Arc → Type 0
  Through [] a b = (a ≡ b) ⊎ (IsArc e b × ForcesDirectly e a b)
  Through (c ∷ l) a b = Through l a b ⊎ (IsArc e c × Through l a c × Through l c b)

  decide_through : (l : List Arc) (a b : Arc) → Decided (Through l a b)
  decide_through [] a b = decide_either (decide_arc a b) (decide_both (decide_is_arc b) (decide_forces a b))
  decide_through (c ∷ l) a b = decide_either (decide_through l a b) (decide_three (decide_is_arc c) (decide_through l a c) (decide_through l c b))

  through_reaches : (l : List Arc) (a b : Arc) → IsArc e a → Through l a b → Reaches e a b
  through_reaches [] a b is (inl same) = subst (Reaches e a) same (reaches_itself e a is)
  through_reaches [] a b is (inr f) = reaches_step e a a b (reaches_itself e a is) f.0 f.1
  through_reaches (c ∷ l) a b is (inl t) = through_reaches l a b is t
  through_reaches (c ∷ l) a b is (inr w) = reaches_on e a c b (through_reaches l a c is w.1) (through_reaches l c b w.0 w.2)

  through_here : (l : List Arc) (a b : Arc) → (a ≡ b) ⊎ (IsArc e b × ForcesDirectly e a b) → Through l a b
  through_here [] a b h = h
  through_here (c ∷ l) a b h = inl (through_here l a b h)

  to_first : (c : Arc) (l : List Arc) (a : Arc) → Through (c ∷ l) a c → Through l a c
  to_first c l a (inl t) = t
  to_first c l a (inr w) = w.1

  from_first : (c : Arc) (l : List Arc) (b : Arc) → Through (c ∷ l) c b → Through l c b
  from_first c l b (inl t) = t
  from_first c l b (inr w) = w.2

  through_member : (l : List Arc) (a c b : Arc) → Holds l c → IsArc e c → Through l a c → Through l c b → Through l a b
  through_member [] a c b h is s t = absurd h
  through_member (d ∷ l) a c b (inl same) is s t =
      let s_here = subst (λ x. Through (d ∷ l) a x) same s in
      let t_here = subst (λ x. Through (d ∷ l) x b) same t in
      inr (subst (IsArc e) same is, to_first d l a s_here, from_first d l b t_here)
  through_member (d ∷ l) a c b (inr h) is (inl s) (inl t) = inl (through_member l a c b h is s t)
  through_member (d ∷ l) a c b (inr h) is (inl s) (inr t) = inr (t.0, through_member l a c d h is s t.1, t.2)
  through_member (d ∷ l) a c b (inr h) is (inr s) (inl t) = inr (s.0, s.1, through_member l d c b h is s.2 t)
  through_member (d ∷ l) a c b (inr h) is (inr s) (inr t) = inr (s.0, s.1, t.2)

  leads_through : (l : List Arc) → ((c : Arc) → IsArc e c → Holds l c) → (list : List Arc) (a b : Arc) → Leads e a list b → Through l a b
  leads_through l all [] a b same = through_here l a b (inl same)
  leads_through l all (c ∷ list) a b leads =
      through_member l a c b (all c leads.0) leads.0 (through_here l a c (inr (leads.0, leads.1))) (leads_through l all list c b leads.2)

pub decide_reaches : (e : ℕ → ℕ → Bool) (n : ℕ) → IsBelow e n → (a b : Arc) → Decided (Reaches e a b)
decide_reaches e n below a b =
    let arcs = has_list (IsArc e) (decide_is_arc e) n (λ c is. below c.tail c.head is) in
    let l = arcs.0 in
    let all : (c : Arc) → IsArc e c → Holds l c = λ c. (arcs.1 c).1 in
    elim (decide_is_arc e a) [
      | inl is ↦ decide_like (through_reaches e l a b is) (λ r. leads_through e l all r.1 a b r.2) (decide_through e l a b)
      | inr not_arc ↦ inr (λ r. not_arc r.0)
    ]
