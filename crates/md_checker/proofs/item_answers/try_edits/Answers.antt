use Rattle.std.proofs.Common.{◌*◌, sym, ◌∙◌, rules, arith}
use Rattle.md_graph.proofs.SetLemmas.{clash}
use Rattle.md_script.specs.Edit.{HasNamesBelow}
use Rattle.md_script.proofs.BackLemmas.{led}
use Rattle.md_script.proofs.ChangeLemmas.{holds_at}
use Rattle.md_script.proofs.GroupLemmas.{applied_more}
use Rattle.md_report.specs.ItemLines.{IsAllowed}
use Rattle.md_checker.proofs.item_answers.try_edits.Goals as goal

pub is_barred-requires : goal.is_barred-requires
is_barred-requires g c =
    let names = holds_at (HasNamesBelow (64 * g.row.W)) c.args.edits.now c.loop-i.i c.get-edit.result.now c.get-edit.ensures.edit c.requires.names in
    (search rules, (c.loop-i.graph, led c.loop-i.graph _ _ c.inverse-past.ensures.graph names (sym c.reason.ensures ∙ c.in_default.is) c.apply.ensures, c.loop-i.invariant.allowed))

pub loop-i-preserved : goal.loop-i-preserved
loop-i-preserved g c =
    let allowed = c.is_barred.ensures.allowed (λ t. clash t c.if-is_barred.false) in
    record {
      done = λ others is.
          let so = c.loop-i.invariant.done others is in (
            _,
            applied_more (IsAllowed c.args.mode) c.args.graph.now c.loop-i.graph c.apply.new.graph c.args.edits.now so.0 c.loop-i.i c.get-edit.result.now _ so.1 c.get-edit.ensures.edit
                (sym c.reason.ensures ∙ c.in_default.is) allowed c.apply.ensures c.inverse-past.ensures.inverse,
            c.push.ensures.items so.0 others so.2,
          );
      allowed = allowed;
      room = (let room = c.loop-i.invariant.room in let spare = c.push.ensures.spare in omega arith);
    }
