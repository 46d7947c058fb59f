use Rattle.md_tree_tests.proofs.vertex_insertions.insert_in_text.Given as goal

abbrev pub ghosts-insert_vertex : goal.ghosts-insert_vertex
ghosts-insert_vertex g a = record { name = a.blank.name; parts = a.blank.parts }
