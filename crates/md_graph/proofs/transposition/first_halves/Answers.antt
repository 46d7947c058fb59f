use Rattle.md_graph.proofs.Transposing.{first_halves_at}
use Rattle.md_graph.proofs.transposition.first_halves.Goals as goal

pub returns : goal.returns
returns c = λ k h. first_halves_at c.args.words.now c.args.i c.args.width c.args.firsts k c.requires.some h c.ranges.firsts.fits (c.requires.halves k h)
