use Rattle.std.proofs.Common.{arith, length-set, ◌∙◌}
use Rattle.md_graph.proofs.Transposing.{done_pair}
use Rattle.md_graph.proofs.transposition.round.Goals as goal

pub loop-i-preserved : goal.loop-i-preserved
loop-i-preserved c = record {
  size = length-set _ _ _ ∙ length-set _ _ _ ∙ c.loop-i.invariant.size;
  done = done_pair c.args.width c.args.words.now c.loop-i.new c.loop-i.i _ _ (omega (arith, c.loop-i.invariant.size)) c.loop-i.invariant.done c.first_halves.ensures c.second_halves.ensures;
}

pub returns : goal.returns
returns c = λ r k hr hk. c.loop-i.invariant.done r k (omega arith) hk
