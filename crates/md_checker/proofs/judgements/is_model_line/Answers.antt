use Rattle.md_checker.proofs.judgements.is_model_line.Goals as goal

pub returns-in-Orders : goal.returns-in-Orders
returns-in-Orders g c = rw (c.in-Plain.is, c.in-Orders.is) c.realise.ensures

pub returns-in-ForcedIn : goal.returns-in-ForcedIn
returns-in-ForcedIn g c = rw (c.in-Plain.is, c.in-ForcedIn.is) c.is_forcing_chain.ensures

pub returns-in-ForcedInComplement : goal.returns-in-ForcedInComplement
returns-in-ForcedInComplement g c = rw (c.in-Plain.is, c.in-ForcedInComplement.is) c.is_forced_in_complement.ensures
