use Rattle.std.proofs.Common.{◌*◌, arith, rules}
use Rattle.md_script.specs.Pasts.{taken_back, AnyGraph}
use Rattle.md_script.proofs.GroupLemmas.{smaller_last, next_back, go_back}
use Rattle.md_script.proofs.groups.take_item_back.Goals as goal

pub take_back-requires : goal.take_back-requires
take_back-requires g c =
    let given = c.requires in
    let so = c.loop-past.invariant.going given.0 given.1 given.2 in
    let popped = c.in-Some.ensures.some in
    let first = next_back (64 * g.row.W) AnyGraph (taken_back c.args.graph.now given.0) c.loop-past.graph c.loop-past.history.items given.1 popped.1 popped.0 _ so popped.2 in
    (search rules, (search rules, (first.no_reason, first.names)))

pub loop-past-smaller : goal.loop-past-smaller
loop-past-smaller g c =
    let popped = c.in-Some.ensures.some in smaller_last c.loop-past.history.items c.pop.new.self.items popped.1 popped.0 _ popped.2 popped.3

pub loop-past-preserved : goal.loop-past-preserved
loop-past-preserved g c = record {
  going = λ first others is.
      let popped = c.in-Some.ensures.some in
      go_back (64 * g.row.W) AnyGraph (taken_back c.args.graph.now first) c.loop-past.graph c.take_back.new.graph c.loop-past.history.items c.pop.new.self.items others popped.1 popped.0 _
      (c.loop-past.invariant.going first others is) popped.2 popped.3 c.take_back.ensures;
  spare = (let kept = c.loop-past.invariant.spare in let more = c.pop.ensures.spare in omega arith);
}
