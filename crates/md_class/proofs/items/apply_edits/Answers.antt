use Rattle.std.proofs.Common.{false, Ok, refl, sym, ◌∙◌, subst, arith}
use Rattle.md_graph.specs.PlainGraph.{PlainGraph}
use Rattle.md_script.specs.Pasts.{inverse_of, HasApplied}
use Rattle.md_script.proofs.GroupLemmas.{applied_more}
use Rattle.md_report.specs.Classes.{IsAllowedIn}
use Rattle.md_class.specs.declared.items.Answer.{Answer}
use Rattle.md_class.specs.ClassAnswers.{IsClassAnswered}
use Rattle.md_class.proofs.ClassItems.{bar_ends}
use Rattle.md_class.proofs.items.apply_edits.Goals as goal

pub loop-i-preserved : goal.loop-i-preserved
loop-i-preserved g c =
    let told = subst (λ (a : Answer). IsClassAnswered c.args.class false c.loop-i.graph c.get.result.now c.loop-i.history.items (Ok a) c.step.new.graph c.step.new.history.items) c.in-Applied.is c.in_ok-reason.ensures.answer in
    record {
      done = λ others is.
          let so = c.loop-i.invariant.done others is in (
            _,
            applied_more (IsAllowedIn c.args.class) c.args.graph.now c.loop-i.graph c.step.new.graph c.args.edits.now so.0 c.loop-i.i c.get.result.now (inverse_of c.loop-i.graph c.get.result.now) so.1 c.get.ensures.edit
                told.0 told.2.0 told.1 refl,
            told.3 so.0 others so.2,
          );
      room = (let room = c.loop-i.invariant.room in let spare = c.step.ensures.spare in omega arith);
      allowed = told.2.0;
      denotes = c.step.ensures.denotes;
      near = c.step.ensures.near ∙ c.loop-i.invariant.near;
    }

pub returns-in-Barred-clause-applied : goal.returns-in-Barred-clause-applied
returns-in-Barred-clause-applied g c = λ others is.
    let told = subst (λ (a : Answer). IsClassAnswered c.args.class false c.loop-i.graph c.get.result.now c.loop-i.history.items (Ok a) c.step.new.graph c.step.new.history.items) c.in-Barred.is c.in_ok-reason.ensures.answer in
    let so = c.loop-i.invariant.done others is in (
      c.loop-i.i,
      so.0,
      subst (λ (k : PlainGraph). HasApplied (IsAllowedIn c.args.class) c.args.graph.now c.args.edits.now k so.0 c.loop-i.i) (sym told.2.0) so.1,
      told.2.1 ∙ so.2,
      (c.get.result.now, c.get.ensures.edit, bar_ends c.args.class c.loop-i.graph c.step.new.graph c.get.result.now c.loop-i.i told.2.0 c.in-Barred.bar told.0 told.1),
    )
