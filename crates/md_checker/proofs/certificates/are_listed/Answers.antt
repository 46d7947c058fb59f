use Rattle.std.proofs.Common.{sym, arith, take}
use Rattle.md_comparability.proofs.Listing.{arcs_none, arcs_more}
use Rattle.md_checker.proofs.Ordering.{refused}
use Rattle.md_checker.proofs.InStep.{row_missing}
use Rattle.md_checker.proofs.certificates.are_listed.Goals as goal

pub loop-tail-init : goal.loop-tail-init
loop-tail-init g c = record { within = omega arith; front = sym (arcs_none c.args.set.now) }

pub returns-in_default : goal.returns-in_default
returns-in_default g c =
    let size = c.size-tail-end.ensures.size in
    let below = c.loop-tail-test.true in
    refused (row_missing c.args.set.now c.args.list.now (take c.loop-tail.at c.args.list.now) c.loop-tail.tail c.heads.result.now (omega arith) c.loop-tail.invariant.front c.heads.ensures c.in_default.ensures.none)

pub loop-tail-preserved : goal.loop-tail-preserved
loop-tail-preserved g c = record {
  within = c.in-Some.ensures.within;
  front = arcs_more c.args.set.now c.loop-tail.tail _ _ _ c.loop-tail.invariant.front c.heads.ensures c.in-Some.ensures.found;
}
