use Rattle.md_top.proofs.Runs.{no_p4}
use Rattle.md_top.proofs.big.first_session.Goals as goal

pub unreachable-requires : goal.unreachable-requires
unreachable-requires c = no_p4 _ _ _ c.in-NotCograph.is c.in_ok-graph.ensures.made c.in_ok-session.ensures
