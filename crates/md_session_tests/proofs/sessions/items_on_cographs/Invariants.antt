use Rattle.md_session_tests.proofs.sessions.items_on_cographs.Given as goal

abbrev pub ghosts-undo_on_a_cograph : goal.ghosts-undo_on_a_cograph
ghosts-undo_on_a_cograph g a = record { name = a.blank.name; parts = a.blank.parts }
