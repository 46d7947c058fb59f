use Rattle.std.proofs.Common.{arith}
use Rattle.md_graph6.proofs.ShortLemmas.{unread_more}
use Rattle.md_graph6.proofs.body.with_bits.Goals as goal

pub loop-held-preserved : goal.loop-held-preserved
loop-held-preserved c = record {
  unread = unread_more _ _ _ _ _ _ (omega arith) c.loop-held.invariant.unread c.group_at.ensures;
  room = omega arith;
}
