use Rattle.md_top.proofs.directed.tree_of.Goals as goal

pub returns-in-Small : goal.returns-in-Small
returns-in-Small c = let same = rw c.in-Small.is at c.digraph.ensures.value in rw (← same) c.decompose_directed.ensures.tree

pub returns-in-Medium : goal.returns-in-Medium
returns-in-Medium c = let same = rw c.in-Medium.is at c.digraph.ensures.value in rw (← same) c.decompose_directed-in-Medium.ensures.tree

pub returns-in-Large : goal.returns-in-Large
returns-in-Large c = let same = rw c.in-Large.is at c.digraph.ensures.value in rw (← same) c.decompose_directed-in-Large.ensures.tree
