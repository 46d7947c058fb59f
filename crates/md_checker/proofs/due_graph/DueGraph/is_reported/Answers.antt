use Rattle.md_checker.proofs.due_graph.DueGraph.is_reported.Goals as goal

pub returns-in-Small : goal.returns-in-Small
returns-in-Small c = let same = rw c.in-Small.is at c.graph.ensures in rw (← same) c.reports.ensures

pub returns-in-Medium : goal.returns-in-Medium
returns-in-Medium c = let same = rw c.in-Medium.is at c.graph.ensures in rw (← same) c.reports-in-Medium.ensures

pub returns-in-Broad : goal.returns-in-Broad
returns-in-Broad c = let same = rw c.in-Broad.is at c.graph.ensures in rw (← same) c.reports-in-Broad.ensures

pub returns-in-Large : goal.returns-in-Large
returns-in-Large c = let same = rw c.in-Large.is at c.graph.ensures in rw (← same) c.reports-in-Large.ensures
