use Rattle.md_refine.proofs.partition.Partition.cut_uncounted.Given as goal

abbrev pub ghosts-cut_counted : goal.ghosts-cut_counted
ghosts-cut_counted a = record { name = a.blank.name; parts = a.blank.parts }
