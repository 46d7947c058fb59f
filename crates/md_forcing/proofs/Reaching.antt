-- Direct forcing and reaching.
use Rattle.std.proofs.Common.{◌≡◌, ℕ, Bool, List, [], ◌∷◌, ◌++◌, refl, sym, ◌∙◌, subst, inl, inr}
use Rattle.md_forcing.specs.declared.arc.Arc.{Arc}
use Rattle.md_forcing.specs.Forcing.{reverse, IsArc, ForcesDirectly, Leads, Reaches}

abbrev pub Symmetric : (ℕ → ℕ → Bool) → Type 0
Symmetric e = (u v : ℕ) → e u v ≡ e v u

module _ (e : ℕ → ℕ → Bool) (symmetric : Symmetric e) where
  pub forces_back : (a b : Arc) → ForcesDirectly e a b → ForcesDirectly e b a
  forces_back a b (inl f) = inl (sym f.0, λ s. f.1 (sym s), symmetric b.head a.head ∙ f.2)
  forces_back a b (inr f) = inr (sym f.0, λ s. f.1 (sym s), symmetric b.tail a.tail ∙ f.2)

  -- the reverses of two arcs that force each other do too
  pub forces_turned : (a b : Arc) → ForcesDirectly e a b → ForcesDirectly e (reverse a) (reverse b)
  forces_turned a b (inl f) = inr f
  forces_turned a b (inr f) = inl f

  pub arc_turned : (a : Arc) → IsArc e a → IsArc e (reverse a)
  arc_turned a is = symmetric a.head a.tail ∙ is

module _ (e : ℕ → ℕ → Bool) where
  pub leads_push : (a : Arc) (l : List Arc) (b c : Arc) → Leads e a l b → IsArc e c → ForcesDirectly e b c → Leads e a (l ++ c ∷ []) c
  leads_push a [] b c same is f = (is, subst (λ x. ForcesDirectly e x c) (sym same) f, refl)
  leads_push a (d ∷ l) b c leads is f = (leads.0, leads.1, leads_push d l b c leads.2 is f)

  pub reaches_step : (a b c : Arc) → Reaches e a b → IsArc e c → ForcesDirectly e b c → Reaches e a c
  reaches_step a b c r is f = (r.0, r.1 ++ c ∷ [], leads_push a r.1 b c r.2 is f)

  over_leads : (P : Arc → Type 0) → ((x y : Arc) → IsArc e x → P x → IsArc e y → ForcesDirectly e x y → P y) → (a : Arc) (l : List Arc) (b : Arc) → IsArc e a → P a → Leads e a l b → P b
  over_leads P step a [] b is here same = subst P same here
  over_leads P step a (c ∷ l) b is here leads = over_leads P step c l b leads.0 (step a c is here leads.0 leads.1) leads.2

  -- what an arc has, and each arc hands on to those that it forces, all arcs have that it reaches
  pub over_reached : (P : Arc → Type 0) → ((x y : Arc) → IsArc e x → P x → IsArc e y → ForcesDirectly e x y → P y) → (a b : Arc) → P a → Reaches e a b → P b
  over_reached P step a b here r = over_leads P step a r.1 b r.0 here r.2

  pub reaches_itself : (a : Arc) → IsArc e a → Reaches e a a
  reaches_itself a is = (is, [], refl)

  pub reached_arc : (a b : Arc) → Reaches e a b → IsArc e b
  reached_arc a b r = over_reached (IsArc e) (λ x y _ _ is _. is) a b r.0 r

  pub reaches_on : (a b c : Arc) → Reaches e a b → Reaches e b c → Reaches e a c
  reaches_on a b c r s = over_reached (Reaches e a) (λ x y _ here is f. reaches_step a x y here is f) b c r s
