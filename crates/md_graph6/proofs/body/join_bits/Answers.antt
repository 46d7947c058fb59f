use Rattle.md_graph6.proofs.BitLemmas.{or_joined}
use Rattle.md_graph6.proofs.body.join_bits.Goals as goal

pub returns : goal.returns
returns c = or_joined c.args.low c.args.high c.args.n c.requires.low c.requires.high c.requires.room
