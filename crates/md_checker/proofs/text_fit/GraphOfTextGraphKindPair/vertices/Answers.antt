use Rattle.std.specs.Prelude.{⊤}
use Rattle.md_checker.proofs.GraphTexts.{graph_seen}
use Rattle.md_checker.proofs.text_fit.GraphOfTextGraphKindPair.vertices.Goals as goal

pub returns-clause-view : goal.returns-clause-view
returns-clause-view g c = graph_seen (λ k cs. ⊤) c.vertices.ensures.graph
