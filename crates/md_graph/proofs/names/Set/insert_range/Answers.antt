use Rattle.std.proofs.Common.{refl}
use Rattle.md_graph.proofs.Ranges.{filled_more, filled_ends, rounded_up}
use Rattle.md_graph.proofs.names.Set.insert_range.Goals as goal

pub loop-at-preserved : goal.loop-at-preserved
loop-at-preserved g c = filled_more c.args.self.now c.loop-at.self _ c.args.from _ c.loop-at.at _ c.loop-at.invariant c.bits_of_range.ensures c.insert_block.ensures.changed

pub returns : goal.returns
returns g c = record {
  changed = filled_ends c.args.self.now c.loop-at.self c.args.from c.args.count _ c.loop-at.at c.loop-at.invariant refl (rounded_up _ _ _ c.div_ceil-at-end.ensures c.loop-at-test.false);
}
