use Rattle.std.proofs.Common.{sym, ◌∙◌, arith}
use Rattle.md_script.specs.Pasts.{AnyGraph}
use Rattle.md_script.proofs.GroupLemmas.{applied_more}
use Rattle.md_script.proofs.groups.apply_all.Goals as goal

pub loop-i-preserved : goal.loop-i-preserved
loop-i-preserved g c = record {
  done = λ others is.
      let so = c.loop-i.invariant.done others is in (
        _,
        applied_more AnyGraph c.args.graph.now c.loop-i.graph c.apply.new.graph c.args.edits.now so.0 c.loop-i.i c.get-edit.result.now _ so.1 c.get-edit.ensures.edit
            (sym c.reason.ensures ∙ c.in_default.is) tt c.apply.ensures c.inverse.ensures.inverse,
        c.push.ensures.items so.0 others so.2,
      );
  room = (let room = c.loop-i.invariant.room in let spare = c.push.ensures.spare in omega arith);
}
