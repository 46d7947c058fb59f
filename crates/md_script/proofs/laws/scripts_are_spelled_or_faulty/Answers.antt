use Rattle.md_script.proofs.FileLemmas.{script_spelled_or_faulty, script_has_no_fault, script_has_names}
use Rattle.md_script.proofs.laws.scripts_are_spelled_or_faulty.Goals as goal

pub returns-clause-either : goal.returns-clause-either
returns-clause-either c = script_spelled_or_faulty

pub returns-clause-spelled : goal.returns-clause-spelled
returns-clause-spelled c = script_has_no_fault

pub returns-clause-names : goal.returns-clause-names
returns-clause-names c = script_has_names
