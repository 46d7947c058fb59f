-- The test of a list of pairs of positions is true exactly of its elements.
use Rattle.std.proofs.Common.{◌≡◌, ℕ, zero, suc, ◌<◌, true, eqb, ◌&&◌, ◌||◌, false, List, [], ◌∷◌, length, get_or, Contains, sym, ◌∙◌, ap, inl, inr, arith}
use Rattle.std.proofs.lemmas.Bool.{cases_Bool, or_right}
use Rattle.md_tree.specs.declared.Pair.{Pair}
use Rattle.md_tree.specs.TreeGraph.{lists_pair}
use Rattle.md_tree.proofs.Graph.{of_lists, to_lists}
use Rattle.md_tree.proofs.Pairs.{pair}

listed_at : (ps : List Pair) (p : Pair) (k : ℕ) → k < length ps → get_or ps k p ≡ p → lists_pair ps p.low p.high ≡ true
listed_at [] p k l e = let b : k < 0 = l in absurd (omega arith)
listed_at (q ∷ ps) p zero l e = to_lists (q ∷ ps) p (inl (sym e))
listed_at (q ∷ ps) p (suc k) l e =
    let b : suc k < suc (length ps) = l in
    or_right (eqb q.low p.low && eqb q.high p.high) (lists_pair ps p.low p.high) (listed_at ps p k (omega arith) e)

pub to_listed : (ps : List Pair) (p : Pair) → Contains ps p → lists_pair ps p.low p.high ≡ true
to_listed ps p c = listed_at ps p c.0 c.1 c.2

pub of_listed : (ps : List Pair) (i j : ℕ) → lists_pair ps i j ≡ true → Contains ps (pair i j)
of_listed [] i j h = absurd (of_lists [] i j h)
of_listed (p ∷ ps) i j h = elim (cases_Bool (eqb p.low i && eqb p.high j)) [
  | inl a ↦ elim (of_lists (p ∷ []) i j (ap (λ w. w || false) a)) [
    | inl e ↦ (zero, (let b : 0 < suc (length ps) = omega arith in b), sym e)
    | inr none ↦ absurd none
  ]
  | inr a ↦ (
      let r : Contains ps (pair i j) = of_listed ps i j (sym (ap (λ w. w || lists_pair ps i j) a) ∙ h) in
      (suc r.0, (let b : r.0 < length ps = r.1 in let c : suc r.0 < suc (length ps) = omega arith in c), r.2))
]
