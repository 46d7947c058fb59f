use Rattle.std.proofs.Common.{◌/◌, ◌%◌, arith}
use Rattle.md_graph6.proofs.PutLemmas.{placed_bits, placed_room, there_bits}
use Rattle.md_graph6.proofs.writer.put_bits.Goals as goal

pub set_end-requires-clause-room : goal.set_end-requires-clause-room
set_end-requires-clause-room c =
    let body = c.args.body.now in
    let at = c.args.place / 6 in
    let there = there_bits body at c.bits_of.result (omega arith) c.bits_of.ensures.bits in
    placed_room body c.args.place at (c.args.place % 6) c.bits_of.result c.args.bits (omega arith) (omega arith) c.bits_of.ensures.below there c.requires.blank c.requires.room (omega arith)

pub returns-then-body-at-ge12-clause-bits : goal.returns-then-body-at-ge12-clause-bits
returns-then-body-at-ge12-clause-bits c =
    let body = c.args.body.now in
    let at = c.args.place / 6 in
    let there = there_bits body at c.bits_of.result (omega arith) c.bits_of.ensures.bits in
    placed_bits body c.args.place at (c.args.place % 6) c.bits_of.result c.args.bits (omega arith) (omega arith) c.bits_of.ensures.below there c.requires.blank _ c.set_twelve.ensures c.ranges.bits.fits

pub returns-clause-bits : goal.returns-clause-bits
returns-clause-bits c =
    let body = c.args.body.now in
    let at = c.args.place / 6 in
    let there = there_bits body at c.bits_of.result (omega arith) c.bits_of.ensures.bits in
    placed_bits body c.args.place at (c.args.place % 6) c.bits_of.result c.args.bits (omega arith) (omega arith) c.bits_of.ensures.below there c.requires.blank _ c.set_end.ensures c.ranges.bits.fits
