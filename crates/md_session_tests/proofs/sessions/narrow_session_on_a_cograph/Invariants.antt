use Rattle.md_session_tests.proofs.sessions.narrow_session_on_a_cograph.Given as goal

abbrev pub ghosts-edit_of_a_cograph : goal.ghosts-edit_of_a_cograph
ghosts-edit_of_a_cograph g a = record { name = a.blank.name; parts = a.blank.parts }
