use Rattle.std.proofs.Common.{◌*◌, ◌+◌, refl, arith}
use Rattle.std.specs.FinSet as set
use Rattle.md_graph6.proofs.WriteLemmas.{low_none, written_more, seen_from}
use Rattle.md_graph6.proofs.writer.put_column.Goals as goal

pub put_bits-requires-clause-room : goal.put_bits-requires-clause-room
put_bits-requires-clause-room g c = λ k h.
    low_none c.block_from.result c.low_bits.result _ k c.low_bits.type_inv c.low_bits.ensures (omega (arith, c.column_place-place.ensures))

pub loop-w-preserved : goal.loop-w-preserved
loop-w-preserved g c = record {
  groups = c.put_bits.ensures.groups;
  bits = λ k.
      written_more c.args.body.now c.loop-w.body c.put_bits.new.body (λ i. set.contains c.args.column.now (c.args.least + i)) c.column_place-place.result c.args.j (64 * c.loop-w.w) (64 * (c.loop-w.w + 1)) c.block_from.result c.low_bits.result k
      (omega arith) (omega arith) c.low_bits.type_inv c.loop-w.invariant.bits
      (seen_from c.args.column.now c.args.least (64 * c.loop-w.w) c.args.j (c.args.least + 64 * c.loop-w.w) c.block_from.result (64 * g.row.W) refl c.requires.names c.block_from.ensures)
      c.low_bits.ensures c.put_bits.ensures.bits;
}
