use Rattle.md_cotree.proofs.cotree.Cotree.to_tree.Given as goal

abbrev pub ghosts-tree_at : goal.ghosts-tree_at
ghosts-tree_at a = record { name = a.blank.name; parts = a.blank.parts }
