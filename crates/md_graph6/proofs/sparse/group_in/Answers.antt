use Rattle.std.proofs.Common.{arith, ◌*◌}
use Rattle.std.proofs.lemmas.Grind.{common_steps}
use Rattle.md_graph6.proofs.NumberLemmas.{byte_number, number_below}
use Rattle.md_graph6.proofs.sparse.group_in.Goals as goal

pub returns-clause-value : goal.returns-clause-value
returns-clause-value c = grind (arith, common_steps, byte_number c.args.body.now c.args.at c.requires.groups)

pub returns-clause-below : goal.returns-clause-below
returns-clause-below c =
    grind (arith, common_steps, byte_number c.args.body.now c.args.at c.requires.groups, number_below c.args.body.now (6 * c.args.at) 6)
