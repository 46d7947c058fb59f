use Rattle.std.proofs.Common.{refl, sym, subst, arith}
use Rattle.md_script.specs.Pasts.{inverse_of}
use Rattle.md_script.proofs.GroupLemmas.{applied_more}
use Rattle.md_report.specs.Cographs.{IsCograph}
use Rattle.md_session.proofs.Answering.{was_applied, cost_more}
use Rattle.md_session.proofs.cograph_items.apply_edits.Goals as goal

pub returns-in-Refused-clause-bound : goal.returns-in-Refused-clause-bound
returns-in-Refused-clause-bound g c =
    let given = c.requires.item in
    let so = c.loop-i.invariant.done given.0 given.1 in
    cost_more c.args.graph.now c.loop-i.graph c.args.edits.now so.0 c.loop-i.i c.get.result.now c.args.steps.now c.loop-i.steps c.step.new.steps so.1 c.get.ensures.edit c.loop-i.invariant.bound c.step.ensures.bound

pub returns-in-RefusedP4-clause-bound : goal.returns-in-RefusedP4-clause-bound
returns-in-RefusedP4-clause-bound g c =
    let given = c.requires.item in
    let so = c.loop-i.invariant.done given.0 given.1 in
    cost_more c.args.graph.now c.loop-i.graph c.args.edits.now so.0 c.loop-i.i c.get.result.now c.args.steps.now c.loop-i.steps c.step.new.steps so.1 c.get.ensures.edit c.loop-i.invariant.bound c.step.ensures.bound

pub loop-i-preserved : goal.loop-i-preserved
loop-i-preserved g c =
    let given = c.requires.item in
    let first = c.loop-i.invariant.done given.0 given.1 in
    let told = was_applied c.loop-i.graph c.get.result.now c.step.new.graph c.in-Applied.ensures.answer in
    record {
      done = λ others is.
          let so = c.loop-i.invariant.done others is in (
            _,
            applied_more IsCograph c.args.graph.now c.loop-i.graph c.step.new.graph c.args.edits.now so.0 c.loop-i.i c.get.result.now (inverse_of c.loop-i.graph c.get.result.now) so.1 c.get.ensures.edit
                told.no_reason (subst IsCograph (sym told.next_is) told.cograph) told.next_is refl,
            c.in-Applied.ensures.pushed so.0 others so.2,
          );
      room = (let room = c.loop-i.invariant.room in let spare = c.step.ensures.spare in omega arith);
      cograph = subst IsCograph (sym told.next_is) told.cograph;
      denotes = c.step.ensures.denotes;
      bound =
          cost_more c.args.graph.now c.loop-i.graph c.args.edits.now first.0 c.loop-i.i c.get.result.now c.args.steps.now c.loop-i.steps c.step.new.steps first.1 c.get.ensures.edit c.loop-i.invariant.bound
          c.step.ensures.bound;
    }
