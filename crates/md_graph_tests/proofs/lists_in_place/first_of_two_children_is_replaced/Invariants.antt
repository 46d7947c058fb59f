use Rattle.md_graph_tests.proofs.lists_in_place.first_of_two_children_is_replaced.Given as goal

abbrev pub ghosts-replaces : goal.ghosts-replaces
ghosts-replaces g a = record { name = a.blank.name; parts = a.blank.parts }
