use Rattle.md_checker.proofs.judgements.closes_items.Goals as goal

pub returns-in-Quiet : goal.returns-in-Quiet
returns-in-Quiet g c = rw c.in-Quiet.is c.is_tree_line.ensures
