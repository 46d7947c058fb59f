use Rattle.std.proofs.Common.{rules}
use Rattle.md_script.proofs.BoundLemmas.{below_last}
use Rattle.md_script.proofs.neighbours.Neighbours.bound.Goals as goal

pub returns-in-Some-clause-below : goal.returns-in-Some-clause-below
returns-in-Some-clause-below c = below_last c.args.self.now c.in-Some.v.now (search rules) (search rules)
