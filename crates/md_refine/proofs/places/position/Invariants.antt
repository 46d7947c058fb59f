use Rattle.std.proofs.Common.{◌==◌, ℕ, List}
use Rattle.md_refine.specs.Slots.{IsPlaceOrder}
use Rattle.md_refine.proofs.Rests.{HasRest}
use Rattle.md_refine.proofs.places.position.Given as goal

abbrev pub invariant-loop-index : goal.invariant-loop-index
invariant-loop-index l = (order : List ℕ) → IsPlaceOrder l.nexts.items l.fn.first order l.count → HasRest (λ p. p == l.place) l.nexts.items l.count l.index l.next order
