use Rattle.md_cotree.proofs.cotree.Cotree.adjacent.Given as goal

abbrev pub ghosts-meets_at_series : goal.ghosts-meets_at_series
ghosts-meets_at_series a = record { name = a.blank.name; parts = a.blank.parts }
