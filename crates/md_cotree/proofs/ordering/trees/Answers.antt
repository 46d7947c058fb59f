use Rattle.std.proofs.Common.{◌≤◌, vec_len, arith}
use Rattle.md_cotree.proofs.Sorting.{taken_none, taken_more}
use Rattle.md_cotree.proofs.ordering.trees.Goals as goal

pub loop-stack-init : goal.loop-stack-init
loop-stack-init c =
    let long = c.args.stack.now.ok.0 in
    let low : c.args.below ≤ vec_len c.args.stack.now = (let r = c.requires in omega arith) in
    record {
      taken = taken_none c.args.stack.now.items c.in_ok-trees.trees.items c.in_ok-trees.ensures.items;
      low = low;
      room = let a = c.in_ok-trees.ensures.len in let b = c.in_ok-trees.ensures.exact in let e = c.len.ensures in omega arith;
    }

pub loop-stack-preserved : goal.loop-stack-preserved
loop-stack-preserved c =
    let pop = c.in-Some.ensures.cases in
    let more = c.loop-stack-test.true in
    let len = c.len-in-loop-stack.ensures in
    record {
      taken = taken_more c.args.stack.now.items c.loop-stack.stack.items c.pop.new.self.items c.loop-stack.trees.items c.push_reserved.new.self.items c.in-Some.child c.loop-stack.invariant.taken
          c.in-Some.ensures.items c.push_reserved.ensures.items;
      low = omega arith;
      room = let a = c.push_reserved.ensures.len in let b = c.push_reserved.ensures.capacity in let e = c.loop-stack.invariant.room in omega arith;
    }

pub returns-clause-taken : goal.returns-clause-taken
returns-clause-taken c = c.loop-stack.invariant.taken
