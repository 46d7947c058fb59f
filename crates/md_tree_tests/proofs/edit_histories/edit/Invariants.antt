use Rattle.md_tree_tests.proofs.edit_histories.edit.Given as goal

abbrev pub ghosts-insert_vertex : goal.ghosts-insert_vertex
ghosts-insert_vertex a = record { name = a.blank.name; parts = a.blank.parts }

abbrev pub ghosts-toggle_edge : goal.ghosts-toggle_edge
ghosts-toggle_edge a = record { name = a.blank.name; parts = a.blank.parts }

abbrev pub ghosts-delete_vertex : goal.ghosts-delete_vertex
ghosts-delete_vertex a = record { name = a.blank.name; parts = a.blank.parts }
