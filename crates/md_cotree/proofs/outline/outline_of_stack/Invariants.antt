use Rattle.std.proofs.Common.{◌-◌, length}
use Rattle.md_cotree.specs.Entries.{table_trees, stack_outline}
use Rattle.md_cotree.proofs.EntryTrees.{IsReadOff}
use Rattle.md_cotree.proofs.outline.outline_of_stack.Given as goal

abbrev pub invariant-loop-next : goal.invariant-loop-next
invariant-loop-next l = IsReadOff (table_trees l.table) l.table (stack_outline (table_trees l.table) l.fn.stack.items) l.parts.items l.waiting.items

abbrev pub decreases-loop-next : goal.decreases-loop-next
decreases-loop-next l = length (stack_outline (table_trees l.table) l.fn.stack.items) - length l.parts.items
