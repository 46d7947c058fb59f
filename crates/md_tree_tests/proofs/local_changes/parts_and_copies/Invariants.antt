use Rattle.md_tree_tests.proofs.local_changes.parts_and_copies.Given as goal

abbrev pub ghosts-part_is : goal.ghosts-part_is
ghosts-part_is g a = record { name = a.blank.name; parts = a.blank.parts }
