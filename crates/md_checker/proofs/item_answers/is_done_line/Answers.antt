use Rattle.md_checker.proofs.item_answers.is_done_line.Goals as goal

pub returns-in-Edit : goal.returns-in-Edit
returns-in-Edit g c = rw c.in-Edit.is c.is_applied_tree.ensures

pub returns-in-Cograph : goal.returns-in-Cograph
returns-in-Cograph g c = rw c.in-Cograph.is c.is_applied_tree-in-Cograph.ensures

pub returns-in-Of : goal.returns-in-Of
returns-in-Of g c = rw c.in-Of.is c.is_applied_tree-in-Of.ensures
