use Rattle.md_tree_tests.proofs.edge_edits.toggle_in_text.Given as goal

abbrev pub ghosts-toggle_edge : goal.ghosts-toggle_edge
ghosts-toggle_edge g a = record { name = a.blank.name; parts = a.blank.parts }
