use Rattle.md_script.proofs.ChangeLemmas.{after_is_graph, absent_is_least}
use Rattle.md_script.proofs.laws.edits_give_graphs.Goals as goal

pub returns-clause-graph : goal.returns-clause-graph
returns-clause-graph c = after_is_graph

pub returns-clause-least : goal.returns-clause-least
returns-clause-least c = absent_is_least
