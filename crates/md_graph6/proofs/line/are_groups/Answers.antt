use Rattle.md_graph6.proofs.SizeLemmas.{join_group}
use Rattle.md_graph6.proofs.line.are_groups.Goals as goal

pub loop-byte-preserved : goal.loop-byte-preserved
loop-byte-preserved c =
    join_group c.args.line.now c.loop-byte.byte-index c.loop-byte.joined c.loop-byte-test.true (c.type_inv.line c.loop-byte.byte-index).fits c.loop-byte.invariant
