use Rattle.md_cotree.proofs.cotree.Cotree.outline.Given as goal

abbrev pub ghosts-outline_at : goal.ghosts-outline_at
ghosts-outline_at a = record { name = a.blank.name; parts = a.blank.parts }
