use Rattle.std.proofs.Common.{◌≡◌, ℕ, ◌<◌, false, List, length, get_or}
use Rattle.md_refine.specs.Slots.{IsPlaceOrder}
use Rattle.md_refine.proofs.Rests.{HasRest}
use Rattle.md_refine.proofs.places.positions_of.Given as goal

abbrev pub invariant-loop-index : goal.invariant-loop-index
invariant-loop-index l = record {
  len : length l.positions.items ≡ l.count;
  rest : (order : List ℕ) → IsPlaceOrder l.nexts.items l.fn.first order l.count → HasRest (λ _. false) l.nexts.items l.count l.index l.next order;
  done : (order : List ℕ) → IsPlaceOrder l.nexts.items l.fn.first order l.count → (j : ℕ) → j < l.index → get_or l.positions.items (get_or order j 0) 0 ≡ j;
}
