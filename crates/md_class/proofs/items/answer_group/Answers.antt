use Rattle.std.proofs.Common.{◌≤◌, ◌*◌, Option, Ok, sym, ◌∙◌, subst, rules}
use Rattle.md_graph.proofs.Limits.{words_few}
use Rattle.md_bar.specs.declared.ClassLine.{ClassLine}
use Rattle.md_bar.specs.ClassLines.{plain_class_line}
use Rattle.md_report.specs.Classes.{IsAllowedIn}
use Rattle.md_class.specs.ClassAnswers.{IsGroupEnd}
use Rattle.md_class.proofs.ClassItems.{goes, may_back, whole_group, ended_group}
use Rattle.md_class.proofs.items.answer_group.Goals as goal

pub told_of-requires : goal.told_of-requires
told_of-requires g c = (c.apply_edits.new.graph, c.apply_edits.ensures.denotes)

pub returns-in-Ok-clause-step : goal.returns-in-Ok-clause-step
returns-in-Ok-clause-step g c =
    let graph = c.vertices-vertices.ensures in
    let items = c.args.history.now.items in
    let told = c.in-Ok-None.ensures.applied items c.open_item.ensures.items in
    let all = subst (λ (o : Option ClassLine). IsGroupEnd c.args.class c.args.edits.now c.apply_edits.new.graph told.0 (Ok o)) c.in-Ok-None.field-0-is told.4 in
    let so = c.in-Ok.ensures c.apply_edits.new.graph c.apply_edits.ensures.denotes in (
      so.0,
      so.1,
      so.2,
      whole_group (64 * g.row.W) c.args.class c.args.graph.now items c.requires.fits (words_few g.row.W graph.limit) graph.graph graph.below c.requires.allowed c.args.edits.now c.requires.names c.apply_edits.new.graph told.1 told.0 told.2
          all so.0 so.1 c.apply_edits.new.history.items told.3,
    )

pub take_back_item-requires : goal.take_back_item-requires
take_back_item-requires g c =
    let graph = c.vertices-vertices.ensures in
    let items = c.args.history.now.items in
    let told = c.apply_edits.ensures.applied items c.open_item.ensures.items in
    let near = subst (λ n. 64 * g.row.W ≤ n) (sym c.apply_edits.ensures.near) c.requires.near in
    let may = may_back (64 * g.row.W) c.args.class c.args.graph.now items c.requires.fits (words_few g.row.W graph.limit) graph.graph graph.below c.requires.allowed c.args.edits.now c.requires.names c.apply_edits.new.graph told.1 told.0 told.2 in
    (search rules, (search rules, (c.apply_edits.ensures.denotes, (near, (told.1, items, told.3, may)))))

pub returns-in_default-clause-allowed : goal.returns-in_default-clause-allowed
returns-in_default-clause-allowed g c =
    let graph = c.vertices-vertices.ensures in
    let items = c.args.history.now.items in
    let told = c.apply_edits.ensures.applied items c.open_item.ensures.items in
    let back = goes (64 * g.row.W) c.args.class c.args.graph.now items c.requires.fits (words_few g.row.W graph.limit) graph.graph graph.below c.requires.allowed c.args.edits.now c.requires.names c.apply_edits.new.graph told.1 told.0 told.2 in
    let home = c.take_back_item.ensures.graph told.1 items told.3 ∙ back.leads in
    subst (IsAllowedIn c.args.class) (sym home) c.requires.allowed

pub returns-in_default-clause-stays : goal.returns-in_default-clause-stays
returns-in_default-clause-stays g c = λ fails.
    let graph = c.vertices-vertices.ensures in
    let items = c.args.history.now.items in
    let told = c.apply_edits.ensures.applied items c.open_item.ensures.items in
    let back = goes (64 * g.row.W) c.args.class c.args.graph.now items c.requires.fits (words_few g.row.W graph.limit) graph.graph graph.below c.requires.allowed c.args.edits.now c.requires.names c.apply_edits.new.graph told.1 told.0 told.2 in
    let home = c.take_back_item.ensures.graph told.1 items told.3 ∙ back.leads in
    home

pub take_back_item-requires-in-Ok-Some : goal.take_back_item-requires-in-Ok-Some
take_back_item-requires-in-Ok-Some g c =
    let graph = c.vertices-vertices.ensures in
    let items = c.args.history.now.items in
    let told = c.apply_edits.ensures.applied items c.open_item.ensures.items in
    let near = subst (λ n. 64 * g.row.W ≤ n) (sym c.apply_edits.ensures.near) c.requires.near in
    let may = may_back (64 * g.row.W) c.args.class c.args.graph.now items c.requires.fits (words_few g.row.W graph.limit) graph.graph graph.below c.requires.allowed c.args.edits.now c.requires.names c.apply_edits.new.graph told.1 told.0 told.2 in
    (search rules, (search rules, (c.apply_edits.ensures.denotes, (near, (told.1, items, told.3, may)))))

pub returns-in-Ok-Some-clause-step : goal.returns-in-Ok-Some-clause-step
returns-in-Ok-Some-clause-step g c =
    let graph = c.vertices-vertices.ensures in
    let items = c.args.history.now.items in
    let told = c.in-Ok-Some.ensures.applied items c.open_item.ensures.items in
    let end = subst (λ (o : Option ClassLine). IsGroupEnd c.args.class c.args.edits.now c.apply_edits.new.graph told.0 (Ok o)) c.in-Ok-Some.field-0-is told.4 in
    let back = goes (64 * g.row.W) c.args.class c.args.graph.now items c.requires.fits (words_few g.row.W graph.limit) graph.graph graph.below c.requires.allowed c.args.edits.now c.requires.names c.apply_edits.new.graph told.1 told.0 told.2 in
    ended_group (64 * g.row.W) c.args.class c.args.graph.now items c.requires.fits (words_few g.row.W graph.limit) graph.graph graph.below c.requires.allowed c.args.edits.now c.requires.names c.apply_edits.new.graph told.1 told.0 told.2
    end.0 (plain_class_line c.in-Ok-Some.line) end.1 end.2 c.take_back_item-in-Ok-Some.new.graph c.take_back_item-in-Ok-Some.new.history.items
    (c.take_back_item-in-Ok-Some.ensures.graph told.1 items told.3 ∙ back.leads) (c.take_back_item-in-Ok-Some.ensures.items told.1 items told.3)

pub returns-in-Ok-Some-clause-allowed : goal.returns-in-Ok-Some-clause-allowed
returns-in-Ok-Some-clause-allowed g c =
    let graph = c.vertices-vertices.ensures in
    let items = c.args.history.now.items in
    let told = c.apply_edits.ensures.applied items c.open_item.ensures.items in
    let back = goes (64 * g.row.W) c.args.class c.args.graph.now items c.requires.fits (words_few g.row.W graph.limit) graph.graph graph.below c.requires.allowed c.args.edits.now c.requires.names c.apply_edits.new.graph told.1 told.0 told.2 in
    let home = c.take_back_item-in-Ok-Some.ensures.graph told.1 items told.3 ∙ back.leads in
    subst (IsAllowedIn c.args.class) (sym home) c.requires.allowed

pub take_back_item-requires-in-Err : goal.take_back_item-requires-in-Err
take_back_item-requires-in-Err g c =
    let graph = c.vertices-vertices.ensures in
    let items = c.args.history.now.items in
    let told = c.apply_edits.ensures.applied items c.open_item.ensures.items in
    let near = subst (λ n. 64 * g.row.W ≤ n) (sym c.apply_edits.ensures.near) c.requires.near in
    let may = may_back (64 * g.row.W) c.args.class c.args.graph.now items c.requires.fits (words_few g.row.W graph.limit) graph.graph graph.below c.requires.allowed c.args.edits.now c.requires.names c.apply_edits.new.graph told.1 told.0 told.2 in
    (search rules, (search rules, (c.apply_edits.ensures.denotes, (near, (told.1, items, told.3, may)))))

pub returns-in-Err-clause-allowed : goal.returns-in-Err-clause-allowed
returns-in-Err-clause-allowed g c =
    let graph = c.vertices-vertices.ensures in
    let items = c.args.history.now.items in
    let told = c.apply_edits.ensures.applied items c.open_item.ensures.items in
    let back = goes (64 * g.row.W) c.args.class c.args.graph.now items c.requires.fits (words_few g.row.W graph.limit) graph.graph graph.below c.requires.allowed c.args.edits.now c.requires.names c.apply_edits.new.graph told.1 told.0 told.2 in
    let home = c.take_back_item-in-Err.ensures.graph told.1 items told.3 ∙ back.leads in
    subst (IsAllowedIn c.args.class) (sym home) c.requires.allowed

pub returns-in-Err-clause-stays : goal.returns-in-Err-clause-stays
returns-in-Err-clause-stays g c = λ fails.
    let graph = c.vertices-vertices.ensures in
    let items = c.args.history.now.items in
    let told = c.apply_edits.ensures.applied items c.open_item.ensures.items in
    let back = goes (64 * g.row.W) c.args.class c.args.graph.now items c.requires.fits (words_few g.row.W graph.limit) graph.graph graph.below c.requires.allowed c.args.edits.now c.requires.names c.apply_edits.new.graph told.1 told.0 told.2 in
    let home = c.take_back_item-in-Err.ensures.graph told.1 items told.3 ∙ back.leads in
    home
