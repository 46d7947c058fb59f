use Rattle.md_forcing.proofs.exploration.close.Goals as goal

pub from_trail-requires : goal.from_trail-requires
from_trail-requires g c = c.in_ok-trail.ensures.class.once
