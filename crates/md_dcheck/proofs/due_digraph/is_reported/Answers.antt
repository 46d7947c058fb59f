use Rattle.md_dcheck.proofs.due_digraph.is_reported.Goals as goal

pub returns-in-Small : goal.returns-in-Small
returns-in-Small c = let same = rw c.in-Small.is at c.digraph.ensures.value in rw (← same) c.is_tree_line.ensures

pub returns-in-Medium : goal.returns-in-Medium
returns-in-Medium c = let same = rw c.in-Medium.is at c.digraph.ensures.value in rw (← same) c.is_tree_line-in-Medium.ensures

pub returns-in-Large : goal.returns-in-Large
returns-in-Large c = let same = rw c.in-Large.is at c.digraph.ensures.value in rw (← same) c.is_tree_line-in-Large.ensures
