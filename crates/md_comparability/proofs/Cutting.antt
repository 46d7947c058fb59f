-- A list that leads from arc to arc has one without repeats.
use Rattle.std.proofs.Common.{◌≤◌, ℕ, suc, Bool, List, [], ◌∷◌, length, refl, sym, subst, inl, inr, arith}
use Rattle.md_forcing.specs.declared.arc.Arc.{Arc}
use Rattle.md_forcing.specs.Lists.{Holds, NoRepeats}
use Rattle.md_forcing.specs.Forcing.{reverse, IsArc, Leads, Reaches, IsListToReverse}
use Rattle.md_comparability.proofs.Deciding.{decide_holds}

-- a list from a to b without repeats, of so many arcs at most
record IsCut (e : ℕ → ℕ → Bool) (a b : Arc) (most : ℕ) (list : List Arc) : Type 0 where
  leads : Leads e a list b
  once : NoRepeats (a ∷ list)
  few : length list ≤ most

module _ (e : ℕ → ℕ → Bool) where
  -- what stands behind an arc of the list
  behind : (most : ℕ) (l : List Arc) (c a b : Arc) → Holds (c ∷ l) a → IsCut e c b most l → (list : List Arc) × IsCut e a b most list
  behind most l c a b (inl same) is = (l, subst (λ x. IsCut e x b most l) (sym same) is)
  behind most [] c a b (inr h) is = absurd h
  behind most (d ∷ l) c a b (inr h) is = let few = is.few in behind most l d a b h (record { leads = is.leads.2; once = is.once.1; few = omega arith })

  more : (m : ℕ) (a b : Arc) (list : List Arc) → IsCut e a b m list → IsCut e a b (suc m) list
  more m a b list is = let few = is.few in record { leads = is.leads; once = is.once; few = omega arith }

  cut : (l : List Arc) (a b : Arc) → Leads e a l b → (list : List Arc) × IsCut e a b (length l) list
  cut [] a b leads = ([], record { leads = leads; once = (λ h. h, tt); few = omega arith })
  cut (c ∷ l) a b leads =
      let rest = cut l c b leads.2 in
      elim (decide_holds (c ∷ rest.0) a) [
        | inl there ↦ let shorter = behind (length l) rest.0 c a b there rest.1 in (shorter.0, more (length l) a b shorter.0 shorter.1)
        | inr new ↦ let few = rest.1.few in (c ∷ rest.0, record { leads = (leads.0, leads.1, rest.1.leads); once = (new, rest.1.once); few = omega arith })
      ]

  -- a list that leads from an arc to its reverse has one without repeats that is no longer
  pub list_no_longer : (a : Arc) (l : List Arc) → IsArc e a → Leads e a l (reverse a) → (list : List Arc) × IsListToReverse e a list × (length list ≤ suc (length l))
  list_no_longer a l is leads =
      let c = cut l a (reverse a) leads in
      let few = c.1.few in
      (a ∷ c.0, record { rest = c.0; begins = refl; starts = is; leads = c.1.leads; no_repeats = c.1.once }, omega arith)

  -- an arc that reaches its reverse has a list to it
  pub list_to_reverse : (a : Arc) → Reaches e a (reverse a) → (list : List Arc) × IsListToReverse e a list
  list_to_reverse a r = let l = list_no_longer a r.1 r.0 r.2 in (l.0, l.1)

  pub list_reaches : (a : Arc) (list : List Arc) → IsListToReverse e a list → Reaches e a (reverse a)
  list_reaches a list is = (is.starts, is.rest, is.leads)
