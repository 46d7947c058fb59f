use Rattle.md_outline.proofs.NodeRows.{edges_ahead}
use Rattle.md_checker.proofs.text_fit.GraphOfTextGraphKindPair.ahead.Goals as goal

pub returns-clause-row : goal.returns-clause-row
returns-clause-row g c = edges_ahead c.vertices-vertices.ensures.graph c.args.v c.row.result.now c.row.ensures.set
