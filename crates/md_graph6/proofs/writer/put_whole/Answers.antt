use Rattle.std.proofs.Common.{◌∙◌, arith}
use Rattle.md_graph6.proofs.PutShort.{unput_next, put_next}
use Rattle.md_graph6.proofs.writer.put_whole.Goals as goal

pub loop-held-preserved : goal.loop-held-preserved
loop-held-preserved c = record {
  unput = unput_next (omega arith) c.loop-held.invariant.unput c.set_group.ensures;
  place = omega (arith, c.loop-held.invariant.place);
  same = λ k. put_next c.set_group.ensures k ∙ c.loop-held.invariant.same k;
}
