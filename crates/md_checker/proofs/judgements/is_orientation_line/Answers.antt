use Rattle.md_checker.proofs.judgements.is_orientation_line.Goals as goal

pub returns-in-Oriented : goal.returns-in-Oriented
returns-in-Oriented g c = rw (c.in-Plain.is, c.in-Oriented.is) c.is_least_edge_orientation.ensures

pub returns-in-Forced : goal.returns-in-Forced
returns-in-Forced g c = rw (c.in-Plain.is, c.in-Forced.is) c.is_forcing_chain.ensures
