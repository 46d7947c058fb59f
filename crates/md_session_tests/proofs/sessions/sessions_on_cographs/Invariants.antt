use Rattle.md_session_tests.proofs.sessions.sessions_on_cographs.Given as goal

abbrev pub ghosts-answers : goal.ghosts-answers
ghosts-answers g a = record { name = a.blank.name; parts = a.blank.parts }
