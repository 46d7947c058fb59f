use Rattle.md_graph_tests.proofs.ordered_partitions.names_are_cut_twice.Given as goal

abbrev pub ghosts-cuts : goal.ghosts-cuts
ghosts-cuts g a = record { name = a.blank.name; parts = a.blank.parts }
