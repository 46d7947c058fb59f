use Rattle.md_top.proofs.big.answer.Given as goal

abbrev pub ghosts-apply_counting : goal.ghosts-apply_counting
ghosts-apply_counting a = record { name = a.blank.name; parts = a.blank.parts }
