use Rattle.md_digraph6.proofs.ArcFiles.{spelled_or_arc_fault, spelled_are_digraphs, digraphs_are_digraphs}
use Rattle.md_digraph6.proofs.laws.directed_files_are_spelled_or_faulty.Goals as goal

pub returns-clause-either : goal.returns-clause-either
returns-clause-either c = spelled_or_arc_fault

pub returns-clause-spelled : goal.returns-clause-spelled
returns-clause-spelled c = spelled_are_digraphs

pub returns-clause-digraphs : goal.returns-clause-digraphs
returns-clause-digraphs c = digraphs_are_digraphs
