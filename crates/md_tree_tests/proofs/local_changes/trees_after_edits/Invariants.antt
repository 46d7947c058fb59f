use Rattle.md_tree_tests.proofs.local_changes.trees_after_edits.Given as goal

abbrev pub ghosts-edits_of_edges : goal.ghosts-edits_of_edges
ghosts-edits_of_edges g a = record { name = a.blank.name; parts = a.blank.parts }
