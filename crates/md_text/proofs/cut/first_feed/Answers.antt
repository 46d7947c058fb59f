use Rattle.std.proofs.Common.{◌+◌, ◌≤◌, length, arith}
use Rattle.std.proofs.lemmas.Simd.{run_in_chunk_le, run_in_chunk_stops}
use Rattle.md_text.specs.Lines.{is_feed}
use Rattle.md_text.proofs.LineLemmas.{fails_in_lanes}
use Rattle.md_text.proofs.cut.first_feed.Goals as goal

pub returns-then-before-lt-LANES-clause-before : goal.returns-then-before-lt-LANES-clause-before
returns-then-before-lt-LANES-clause-before c =
    fails_in_lanes c.args.text.now c.loop-from.from c.before_feed-before.result (omega arith) c.before_feed-before.ensures c.loop-from.invariant.before

pub returns-then-before-lt-LANES-clause-found : goal.returns-then-before-lt-LANES-clause-found
returns-then-before-lt-LANES-clause-found c _ =
    run_in_chunk_stops is_feed c.args.text.now c.loop-from.from 16 c.before_feed-before.result 0 (omega arith) c.before_feed-before.ensures c.if-before-lt-LANES.true

pub loop-from-preserved : goal.loop-from-preserved
loop-from-preserved c =
    let room : c.loop-from.from + 16 ≤ length c.args.text.now = omega arith in
    let within = run_in_chunk_le is_feed c.args.text.now c.loop-from.from 16 c.before_feed-before.result 0 room c.before_feed-before.ensures in
    record {
      within = room;
      before = λ k below. fails_in_lanes c.args.text.now c.loop-from.from c.before_feed-before.result room c.before_feed-before.ensures c.loop-from.invariant.before k (omega arith);
    }
