use Rattle.std.proofs.Common.{◌↔◌, drop, map}
use Rattle.md_tree.specs.Trees.{row}
use Rattle.md_tree.specs.Plain.{plain}
use Rattle.md_tree.specs.WellFormed.{HaveNoPrimeNode}
use Rattle.md_tree.proofs.cotree.+look.Given as goal

abbrev pub invariant-are_cotrees-loop-child : goal.invariant-are_cotrees-loop-child
invariant-are_cotrees-loop-child l =
    HaveNoPrimeNode (row (map plain (drop l.child-index l.children.list.items)))
    ↔ HaveNoPrimeNode (row (map plain l.children.list.items))
