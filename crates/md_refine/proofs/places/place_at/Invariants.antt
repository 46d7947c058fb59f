use Rattle.std.proofs.Common.{ℕ, false, List}
use Rattle.md_refine.specs.Slots.{IsPlaceOrder}
use Rattle.md_refine.proofs.Rests.{HasRest}
use Rattle.md_refine.proofs.places.place_at.Given as goal

abbrev pub invariant-loop : goal.invariant-loop
invariant-loop l = (order : List ℕ) → IsPlaceOrder l.nexts.items l.fn.first order l.count → HasRest (λ _. false) l.nexts.items l.count l.counter l.next order
