use Rattle.std.proofs.Common.{eqb, take, drop, arith, w8}
use Rattle.std.proofs.lemmas.Simd.{bitmask_splat, length-chunk}
use Rattle.md_text.proofs.LineLemmas.{no_feed_in_lanes, first_feed_in_lanes}
use Rattle.md_text.proofs.cut.before_feed.Goals as goal

pub returns-then-feeds-eq0 : goal.returns-then-feeds-eq0
returns-then-feeds-eq0 c =
    let lanes = take 16 (drop c.args.from c.args.text.now) in
    let long = length-chunk c.args.from 16 c.args.text.now c.requires in
    no_feed_in_lanes lanes _ long (bitmask_splat w8 eqb lanes 16 10 long (omega arith)) c.if-feeds-eq0.true

pub returns : goal.returns
returns c =
    let lanes = take 16 (drop c.args.from c.args.text.now) in
    let long = length-chunk c.args.from 16 c.args.text.now c.requires in
    first_feed_in_lanes lanes _ long (bitmask_splat w8 eqb lanes 16 10 long (omega arith)) c.if-feeds-eq0.false
