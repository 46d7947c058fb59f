use Rattle.std.proofs.Common.{rules, refl}
use Rattle.md_input.proofs.inputs.inputs_of_edges.Goals as goal

pub returns-then-bound-le-BROAD-clause-graph : goal.returns-then-bound-le-BROAD-clause-graph
returns-then-bound-le-BROAD-clause-graph c = (c.is_read.new.graph, refl, search rules)
