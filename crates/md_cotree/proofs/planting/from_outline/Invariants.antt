use Rattle.md_cotree.proofs.planting.from_outline.Given as goal

abbrev pub ghosts-cotree_of_parts : goal.ghosts-cotree_of_parts
ghosts-cotree_of_parts a = record { name = a.blank.name; parts = a.blank.parts }
