use Rattle.md_graph.proofs.BitWords.{get_or-zeros}
use Rattle.md_graph.proofs.words.no_words.Goals as goal

pub returns-clause-zeros : goal.returns-clause-zeros
returns-clause-zeros g c k = get_or-zeros g.row.W k
