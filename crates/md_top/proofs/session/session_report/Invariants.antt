use Rattle.md_top.proofs.session.session_report.Given as goal

abbrev pub ghosts-put_counting : goal.ghosts-put_counting
ghosts-put_counting g a = record { name = a.blank.name; parts = a.blank.parts }
