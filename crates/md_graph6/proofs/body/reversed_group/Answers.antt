use Rattle.md_graph6.proofs.BitLemmas.{turned_below, turned_bits}
use Rattle.md_graph6.proofs.body.reversed_group.Goals as goal

pub returns-clause-below : goal.returns-clause-below
returns-clause-below c = turned_below c.args.group c.requires

pub returns-clause-bits : goal.returns-clause-bits
returns-clause-bits c = turned_bits c.args.group c.requires
