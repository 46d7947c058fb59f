use Rattle.md_graph.specs.PlainGraph.{PlainGraph}
use Rattle.md_cotree.specs.Cotrees.{Denotes}
use Rattle.md_cotree.proofs.Degrees.{IsCollected}
use Rattle.md_cotree.proofs.cotree.Cotree.degree.Given as goal

abbrev pub invariant-loop-name : goal.invariant-loop-name
invariant-loop-name l = (g : PlainGraph) → Denotes l.self g → IsCollected g l.v l.joined l.name
