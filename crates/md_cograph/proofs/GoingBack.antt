-- An item that is taken back, edit after edit, and what that costs in steps.
use Rattle.std.proofs.Common.{◌≡◌, ℕ, ◌+◌, ◌≤◌, List, [], ◌∷◌, ◌++◌, sym, ◌∙◌, ap, arith}
use Rattle.md_graph.specs.PlainGraph.{PlainGraph}
use Rattle.md_script.specs.declared.edit.Edit.{Edit}
use Rattle.md_script.specs.Edit.{after}
use Rattle.md_script.proofs.GroupLemmas.{taken_back-push, IsGoingBack, go_back}
use Rattle.md_report.specs.Cographs.{IsCograph}
use Rattle.md_cograph.specs.EditCosts.{edit_cost, back_cost}

back_cost-push : (g : PlainGraph) (edits : List Edit) (e : Edit) → back_cost g (edits ++ e ∷ []) ≡ edit_cost g e + back_cost (after g e) edits
back_cost-push g [] e = omega arith
back_cost-push g (x ∷ edits) e =
    let rest = back_cost-push g edits e in
    let last = ap (λ (k : PlainGraph). edit_cost k x) (taken_back-push g edits e) in
    omega arith

-- ---- an item that is taken back

-- an item is being taken back, and what is left of it may take the steps up to a bound
pub record IsGoingBackWithin (limit : ℕ) (before g : PlainGraph) (items others : List (List Edit)) (steps most : ℕ) : Type 0 where
  pub going : IsGoingBack limit IsCograph before g items others
  pub within : steps + back_cost g going.0 ≤ most

pub go_within : (limit : ℕ) (before g h : PlainGraph) (items new others behind : List (List Edit)) (left : List Edit) (e : Edit) (steps more most : ℕ) → IsGoingBackWithin limit before g items others steps most
    → items ≡ (left ++ e ∷ []) ∷ behind → new ≡ left ∷ behind → h ≡ after g e → more ≤ steps + edit_cost g e → IsGoingBackWithin limit before h new others more most
go_within limit before g h items new others behind left e steps more most so is made next cost =
    let went = go_back limit IsCograph before g h items new others behind left e so.going is made next in
    let a : so.going.0 ∷ others ≡ (left ++ e ∷ []) ∷ behind = sym so.going.1 ∙ is in
    let whole : so.going.0 ≡ left ++ e ∷ [] = cc in
    let b : went.0 ∷ others ≡ left ∷ behind = sym went.1 ∙ made in
    let same : went.0 ≡ left = cc in
    let sum : back_cost g so.going.0 ≡ edit_cost g e + back_cost (after g e) left = ap (back_cost g) whole ∙ back_cost-push g left e in
    let rest : back_cost h went.0 ≡ back_cost (after g e) left = ap (back_cost h) same ∙ ap (λ (k : PlainGraph). back_cost k left) next in
    let within = so.within in
    record { going = went; within = omega arith }

-- ---- the items behind an empty one

pub same_rest : (a b : List (List Edit)) → [] ∷ a ≡ [] ∷ b → a ≡ b
same_rest a b is = cc
