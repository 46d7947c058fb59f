use Rattle.std.proofs.Common.{arith}
use Rattle.md_forcing.proofs.Entries.{none_at_first, none_there}
use Rattle.md_forcing.proofs.forcing_tree.ForcingTree.place_of.Goals as goal

pub loop-i-init : goal.loop-i-init
loop-i-init c = none_at_first _ c.args.by

pub returns-clause-none : goal.returns-clause-none
returns-clause-none c = none_there c.args.self.now c.args.by c.loop-i.i (omega arith) c.loop-i.invariant
