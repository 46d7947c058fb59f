use Rattle.md_checker.proofs.judgements.reports_state.Goals as goal

pub returns-in-Edit : goal.returns-in-Edit
returns-in-Edit g c = rw c.in-Edit.is c.is_tree_line.ensures

pub returns-in-Cograph : goal.returns-in-Cograph
returns-in-Cograph g c = rw c.in-Cograph.is c.is_opening_line.ensures

pub returns-in-Of : goal.returns-in-Of
returns-in-Of g c = rw c.in-Of.is c.is_class_opening.ensures
