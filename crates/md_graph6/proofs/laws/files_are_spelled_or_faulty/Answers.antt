use Rattle.md_graph6.proofs.FileLemmas.{spelled_or_faulty, spelled_has_no_fault, graphs_are_graphs}
use Rattle.md_graph6.proofs.laws.files_are_spelled_or_faulty.Goals as goal

pub returns-clause-either : goal.returns-clause-either
returns-clause-either c = spelled_or_faulty

pub returns-clause-spelled : goal.returns-clause-spelled
returns-clause-spelled c = spelled_has_no_fault

pub returns-clause-graphs : goal.returns-clause-graphs
returns-clause-graphs c = graphs_are_graphs
