use Rattle.md_tree.specs.Plain.{plain}
use Rattle.md_local.specs.Walks.{IsWay, AreCopies, turns_ahead}
use Rattle.md_local.proofs.copying.copy_tree.Given as goal

abbrev pub invariant-loop-path : goal.invariant-loop-path
invariant-loop-path l = IsWay AreCopies (plain l.tree) l.path.items l.current

abbrev pub decreases-loop-path : goal.decreases-loop-path
decreases-loop-path l = turns_ahead l.path.items l.current
