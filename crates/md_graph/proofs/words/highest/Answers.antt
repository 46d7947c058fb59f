use Rattle.md_graph.proofs.LastPlace.{highest_here, none_above}
use Rattle.md_graph.proofs.words.highest.Goals as goal

pub returns-clause-here : goal.returns-clause-here
returns-clause-here c = highest_here c.args.bits c.ranges.bits.fits c.requires

pub returns-clause-above : goal.returns-clause-above
returns-clause-above c = none_above c.args.bits c.ranges.bits.fits c.requires
