use Rattle.md_graph_tests.proofs.step_counters.takes_no_bytes.Given as goal

abbrev pub ghosts-is_free : goal.ghosts-is_free
ghosts-is_free g a = record { name = a.blank.name; parts = a.blank.parts }
