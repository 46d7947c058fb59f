use Rattle.md_tree_tests.proofs.local_changes.all_edits_of_small_graphs.Given as goal

abbrev pub ghosts-all_edits : goal.ghosts-all_edits
ghosts-all_edits g a = record { name = a.blank.name; parts = a.blank.parts }
