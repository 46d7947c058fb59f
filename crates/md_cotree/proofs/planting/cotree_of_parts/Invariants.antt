use Rattle.md_cotree.proofs.Planted.{IsPlanting}
use Rattle.md_cotree.proofs.planting.cotree_of_parts.Given as goal

abbrev pub invariant-loop-i : goal.invariant-loop-i
invariant-loop-i g l = IsPlanting l.parts l.cotree l.i l.stack.items
