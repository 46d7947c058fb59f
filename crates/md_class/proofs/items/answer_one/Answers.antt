use Rattle.std.proofs.Common.{◌*◌, Ok, sym, ◌∙◌, subst}
use Rattle.md_graph.proofs.Limits.{words_few}
use Rattle.md_cograph.proofs.GoingBack.{same_rest}
use Rattle.md_report.specs.Classes.{IsAllowedIn}
use Rattle.md_class.specs.declared.items.Answer.{Answer}
use Rattle.md_class.specs.ClassAnswers.{IsClassAnswered}
use Rattle.md_class.proofs.ClassItems.{applied_one, reason_one, barred_one}
use Rattle.md_class.proofs.items.answer_one.Goals as goal

pub returns-in-Ok-Applied-clause-step : goal.returns-in-Ok-Applied-clause-step
returns-in-Ok-Applied-clause-step g c =
    let graph = c.vertices-vertices.ensures in
    let told = subst (λ (a : Answer). IsClassAnswered c.args.class c.args.whole c.args.graph.now c.args.edit.now c.open_item.new.self.items (Ok a) c.step.new.graph c.step.new.history.items) c.in-Ok-Applied.field-0-is c.in-Ok-Applied.ensures.answer in
    applied_one (64 * g.row.W) c.args.class c.args.graph.now c.args.history.now.items c.requires.fits (words_few g.row.W graph.limit) graph.graph graph.below c.requires.allowed c.args.whole c.args.edit.now
    c.step.new.graph c.in-Ok-Applied.told c.open_item.new.self.items c.step.new.history.items c.requires.names told c.open_item.ensures.items

pub returns-in-Ok-Applied-clause-allowed : goal.returns-in-Ok-Applied-clause-allowed
returns-in-Ok-Applied-clause-allowed g c =
    let told = subst (λ (a : Answer). IsClassAnswered c.args.class c.args.whole c.args.graph.now c.args.edit.now c.open_item.new.self.items (Ok a) c.step.new.graph c.step.new.history.items) c.in-Ok-Applied.field-0-is c.in-Ok-Applied.ensures.answer in
    told.2.0

pub returns-in-Ok-Refused-clause-step : goal.returns-in-Ok-Refused-clause-step
returns-in-Ok-Refused-clause-step g c =
    let told = subst (λ (a : Answer). IsClassAnswered c.args.class c.args.whole c.args.graph.now c.args.edit.now c.open_item.new.self.items (Ok a) c.step.new.graph c.step.new.history.items) c.in-Ok-Refused.field-0-is c.in-Ok-Refused.ensures.answer in
    reason_one (64 * g.row.W) c.args.class c.args.graph.now c.args.history.now.items c.requires.fits c.args.whole c.args.edit.now c.step.new.graph c.in-Ok-Refused.reason c.open_item.new.self.items c.step.new.history.items _ told
    c.open_item.ensures.items c.drop_item.ensures.items

pub returns-in-Ok-Barred-clause-step : goal.returns-in-Ok-Barred-clause-step
returns-in-Ok-Barred-clause-step g c =
    let told = subst (λ (a : Answer). IsClassAnswered c.args.class c.args.whole c.args.graph.now c.args.edit.now c.open_item.new.self.items (Ok a) c.step.new.graph c.step.new.history.items) c.in-Ok-Barred.field-0-is c.in-Ok-Barred.ensures.answer in
    barred_one (64 * g.row.W) c.args.class c.args.graph.now c.args.history.now.items c.requires.fits c.args.whole c.args.edit.now c.step.new.graph c.in-Ok-Barred.bar c.open_item.new.self.items c.step.new.history.items _ told
    c.open_item.ensures.items c.drop_item-in-Ok-Barred.ensures.items

pub returns-in-Err-clause-allowed : goal.returns-in-Err-clause-allowed
returns-in-Err-clause-allowed g c = subst (IsAllowedIn c.args.class) (sym c.in-Err.ensures.answer.0) c.requires.allowed

pub returns-in-Err-clause-kept : goal.returns-in-Err-clause-kept
returns-in-Err-clause-kept g c = λ fails. same_rest _ _ (sym c.drop_item-in-Err.ensures.items ∙ (c.in-Err.ensures.answer.1 ∙ c.open_item.ensures.items))
