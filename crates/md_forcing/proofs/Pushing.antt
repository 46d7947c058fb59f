-- A loop that pushes an entry for each member of a set behind the entries of a trail.
use Rattle.std.proofs.Common.{◌≡◌, ℕ, List, [], ◌∷◌, ◌++◌, map, append_assoc, append-nil, sym, ◌∙◌, ap}
use Rattle.md_graph.specs.Sets.{NameSet}
use Rattle.md_graph.specs.NameSet.{ascending}
use Rattle.md_forcing.specs.declared.arc.Arc.{Arc}

-- the entries of the listed names are left to be pushed
pub record Pushing (entry : ℕ → Arc × ℕ) (names : NameSet) (start now : List (Arc × ℕ)) (left : List ℕ) : Type 0 where
  pub whole : now ++ map entry left ≡ start ++ map entry (ascending names)

module _ (entry : ℕ → Arc × ℕ) (names : NameSet) (start : List (Arc × ℕ)) where
  pub pushing_start : (left : List ℕ) → left ≡ ascending names → Pushing entry names start start left
  pushing_start left is = record { whole = ap (λ l. start ++ map entry l) is }

  pub pushing_more : (now new : List (Arc × ℕ)) (left rest : List ℕ) (x : ℕ) → Pushing entry names start now left → left ≡ x ∷ rest → new ≡ now ++ entry x ∷ [] → Pushing entry names start new rest
  pushing_more now new left rest x before is made = record {
    whole = ap (λ l. l ++ map entry rest) made ∙ append_assoc now (entry x ∷ []) (map entry rest) ∙ sym (ap (λ l. now ++ map entry l) is) ∙ before.whole;
  }

  pub pushing_end : (now : List (Arc × ℕ)) (left : List ℕ) → Pushing entry names start now left → left ≡ [] → now ≡ start ++ map entry (ascending names)
  pushing_end now left before is = sym (append-nil now) ∙ sym (ap (λ l. now ++ map entry l) is) ∙ before.whole
