use Rattle.std.proofs.Common.{sym, arith, ◌*◌}
use Rattle.std.proofs.lemmas.Nat.{ones-le}
use Rattle.md_graph.proofs.BitWords.{count_more, len_of_none, len-names_below-le}
use Rattle.md_graph.proofs.words.count_bits.Goals as goal

pub loop-i-init : goal.loop-i-init
loop-i-init c = sym (len_of_none c.args.words.now)

pub overflow_add-count : goal.overflow_add-count
overflow_add-count c =
    let few = len-names_below-le c.args.words.now (64 * c.loop-i.i) in
    let ones = ones-le 64 _ (c.type_inv.words c.loop-i.i).fits in
    omega arith

pub loop-i-preserved : goal.loop-i-preserved
loop-i-preserved c = count_more c.args.words.now c.loop-i.i _ c.loop-i.invariant (c.type_inv.words c.loop-i.i).fits
