use Rattle.md_dimacs.proofs.FileLemmas as files
use Rattle.md_dimacs.proofs.laws.limits_agree.Goals as goal

pub returns-clause-faults : goal.returns-clause-faults
returns-clause-faults c = files.limits_agree

pub returns-clause-graph : goal.returns-clause-graph
returns-clause-graph c = files.spelled_under_greater
