use Rattle.md_dimacs.proofs.FileLemmas.{spelled_or_faulty, spelled_has_no_fault}
use Rattle.md_dimacs.proofs.laws.files_are_spelled_or_faulty.Goals as goal

pub returns-clause-either : goal.returns-clause-either
returns-clause-either c = spelled_or_faulty

pub returns-clause-spelled : goal.returns-clause-spelled
returns-clause-spelled c = spelled_has_no_fault
