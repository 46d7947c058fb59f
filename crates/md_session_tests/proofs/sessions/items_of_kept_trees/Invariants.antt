use Rattle.md_session_tests.proofs.sessions.items_of_kept_trees.Given as goal

abbrev pub ghosts-undo_of_an_edge : goal.ghosts-undo_of_an_edge
ghosts-undo_of_an_edge g a = record { name = a.blank.name; parts = a.blank.parts }
