use Rattle.std.proofs.Common.{◌*◌, ◌-◌, [], arith, rules}
use Rattle.md_script.specs.Pasts.{taken_back, AnyGraph}
use Rattle.md_script.proofs.GroupLemmas.{through_first, through_next, again_more}
use Rattle.md_script.proofs.groups.back_through.Goals as goal

pub again-requires : goal.again-requires
again-requires g c =
    let given = c.requires.item in
    let first = through_first (64 * g.row.W) AnyGraph (taken_back c.args.graph.now given.0) c.loop-left.graph given.0 c.loop-left.left (c.loop-left.left - 1) _ (c.loop-left.invariant.through given.0 given.1 given.2) (omega arith) (c.last_edit-past.ensures given.0 given.1 given.2) in
    (search rules, (search rules, (first.no_reason, first.names)))

pub take_back-requires : goal.take_back-requires
take_back-requires g c =
    let given = c.requires.item in
    let first = through_first (64 * g.row.W) AnyGraph (taken_back c.args.graph.now given.0) c.loop-left.graph given.0 c.loop-left.left (c.loop-left.left - 1) _ (c.loop-left.invariant.through given.0 given.1 given.2) (omega arith) (c.last_edit-past.ensures given.0 given.1 given.2) in
    (search rules, (search rules, (first.no_reason, first.names)))

pub loop-left-preserved : goal.loop-left-preserved
loop-left-preserved g c =
    let so = c.loop-left.invariant.again in
    record {
      through = λ last others is.
          through_next (64 * g.row.W) AnyGraph (taken_back c.args.graph.now last) c.loop-left.graph last c.loop-left.left (c.loop-left.left - 1) _ (c.loop-left.invariant.through last others is) (omega arith)
          (c.last_edit-past.ensures last others is) c.take_back.new.graph c.take_back.ensures;
      again = (
        _,
        c.push.ensures.items so.0 [] so.1,
        again_more (64 * g.row.W) AnyGraph c.args.graph.now c.loop-left.graph c.take_back.new.graph so.0 _ _ so.2 c.again.ensures.back c.take_back.ensures tt,
      );
      room = (let room = c.loop-left.invariant.room in let spare = c.push.ensures.spare in omega arith);
    }
