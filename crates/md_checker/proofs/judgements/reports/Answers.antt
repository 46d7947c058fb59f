use Rattle.md_checker.proofs.judgements.reports.Goals as goal

pub returns-in-Tree : goal.returns-in-Tree
returns-in-Tree g c = rw c.in-Tree.is c.is_tree_line.ensures

pub returns-in-Compare : goal.returns-in-Compare
returns-in-Compare g c = rw c.in-Compare.is c.is_orientation_line.ensures

pub returns-in-Permute : goal.returns-in-Permute
returns-in-Permute g c = rw c.in-Permute.is c.is_model_line.ensures

pub returns-in-Shortest : goal.returns-in-Shortest
returns-in-Shortest g c = rw c.in-Shortest.is c.is_shortest_line.ensures
