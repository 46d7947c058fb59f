use Rattle.md_checker.specs.GraphViews.{MayStandIn}
use Rattle.md_checker.proofs.GraphTexts.{graph_seen}
use Rattle.md_checker.proofs.state_text.StateTextTextGraphKindPair.vertices.Goals as goal

pub returns-clause-view : goal.returns-clause-view
returns-clause-view g c = graph_seen (MayStandIn c.args.self.now.mode) c.vertices.ensures.graph
