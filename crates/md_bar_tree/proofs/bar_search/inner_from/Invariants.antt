use Rattle.md_tree.specs.Plain.{row_from}
use Rattle.md_bar_tree.specs.Finding.{LeavesThen}
use Rattle.md_bar_tree.proofs.bar_search.inner_from.Given as goal

abbrev pub invariant-loop-at : goal.invariant-loop-at
invariant-loop-at l = LeavesThen (row_from l.children l.from) (row_from l.children l.at)
