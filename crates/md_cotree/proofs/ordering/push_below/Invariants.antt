use Rattle.std.proofs.Common.{◌+◌, ◌-◌, length}
use Rattle.md_lists.specs.declared.TheConstants.{PLACES}
use Rattle.md_lists.specs.Links.{children_at}
use Rattle.md_cotree.proofs.Emitting.{IsWalk}
use Rattle.md_cotree.proofs.ordering.push_below.Given as goal

abbrev pub invariant-loop-next : goal.invariant-loop-next
invariant-loop-next g l = IsWalk (children_at l.lists l.place) l.fn.waiting.items l.waiting.items l.next

abbrev pub decreases-loop-next : goal.decreases-loop-next
decreases-loop-next g l = (PLACES + length l.fn.waiting.items) - length l.waiting.items
