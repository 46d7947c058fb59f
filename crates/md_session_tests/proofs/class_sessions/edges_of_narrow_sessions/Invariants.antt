use Rattle.md_session_tests.proofs.class_sessions.edges_of_narrow_sessions.Given as goal

abbrev pub ghosts-refused_edge : goal.ghosts-refused_edge
ghosts-refused_edge g a = record { name = a.blank.name; parts = a.blank.parts }

abbrev pub ghosts-outlined_edge : goal.ghosts-outlined_edge
ghosts-outlined_edge g a = record { name = a.blank.name; parts = a.blank.parts }
