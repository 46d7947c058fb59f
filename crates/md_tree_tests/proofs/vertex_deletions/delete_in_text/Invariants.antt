use Rattle.md_tree_tests.proofs.vertex_deletions.delete_in_text.Given as goal

abbrev pub ghosts-delete_vertex : goal.ghosts-delete_vertex
ghosts-delete_vertex g a = record { name = a.blank.name; parts = a.blank.parts }
