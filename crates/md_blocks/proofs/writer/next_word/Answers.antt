use Rattle.std.proofs.Common.{◌+◌, ◌≤◌, rules, arith}
use Rattle.md_blocks.proofs.BlockLemmas.{past_word, past_last, next_from}
use Rattle.md_blocks.proofs.writer.next_word.Goals as goal

pub returns-then-last-from-clause-none : goal.returns-then-last-from-clause-none
returns-then-last-from-clause-none g c = past_last c.args.set.now c.args.from c.args.last c.requires.last c.if-last-from.true

pub block-bits-requires-in-loop-bits : goal.block-bits-requires-in-loop-bits
block-bits-requires-in-loop-bits g c =
    let now = c.loop-bits.invariant in
    let past : c.loop-bits.first + 64 ≤ c.args.last = past_word c.args.set.now c.loop-bits.first c.loop-bits.bits c.args.last c.loop-bits-test.true now.has c.requires.last.member now.within in
    (search rules, (omega (arith, past, c.requires.word), omega (arith, now.aligned)))

pub loop-bits-preserved : goal.loop-bits-preserved
loop-bits-preserved g c =
    let now = c.loop-bits.invariant in
    record {
      aligned = omega (arith, now.aligned);
      up = omega (arith, now.up);
      within = past_word c.args.set.now c.loop-bits.first c.loop-bits.bits c.args.last c.loop-bits-test.true now.has c.requires.last.member now.within;
      none = λ v m from. past_word c.args.set.now c.loop-bits.first c.loop-bits.bits v c.loop-bits-test.true now.has m (now.none v m from);
      has = c.block-bits-in-loop-bits.ensures.bits;
    }

pub returns-clause-members : goal.returns-clause-members
returns-clause-members g c =
    let now = c.loop-bits.invariant in
    next_from c.args.set.now c.args.from c.loop-bits.first c.loop-bits.bits now.up now.aligned (omega (arith, now.within, c.requires.name)) now.none now.has
