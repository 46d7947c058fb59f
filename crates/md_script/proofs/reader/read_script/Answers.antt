use Rattle.std.proofs.Common.{arith, sym, subst, ◌∙◌}
use Rattle.md_text.specs.Lines.{lines}
use Rattle.md_script.specs.Drafts.{IsDraft}
use Rattle.md_script.specs.File.{SpellsScript}
use Rattle.md_script.proofs.FileLemmas.{line_read, line_refused, group_left, all_lines_read, script_has_no_fault}
use Rattle.md_script.proofs.reader.read_script.Goals as goal

pub loop-rest-preserved : goal.loop-rest-preserved
loop-rest-preserved c = record {
  lines_read =
      line_read (lines c.args.bytes.now) c.loop-rest.count (lines c.loop-rest.rest.now) c.split_line.result.0.now c.without_return.result.now (lines c.split_line.result.1.now) c.loop-rest.draft c.read_line.new.draft c.loop-rest.invariant.lines_read
      c.split_line.ensures.cut c.without_return.ensures.value c.in-Ok.ensures.read c.in-Ok.ensures.faultless;
  room = let room = c.loop-rest.invariant.room in omega (arith, c.split_line.ensures.rest_shorter);
}

pub returns-in-Err-Bad-clause-fault : goal.returns-in-Err-Bad-clause-fault
returns-in-Err-Bad-clause-fault c =
    line_refused (lines c.args.bytes.now) c.loop-rest.count (lines c.loop-rest.rest.now) c.split_line.result.0.now c.without_return.result.now (lines c.split_line.result.1.now) c.loop-rest.draft c.in-Err-Bad.field-0 c.in-Err-Bad.kind _
    c.loop-rest.invariant.lines_read c.split_line.ensures.cut c.without_return.ensures.value c.in-Err-Bad.ensures.fault c.in-Err-Bad.field-0-is c.in-Err-Bad.kind-is

pub returns-then-is_open-clause-fault : goal.returns-then-is_open-clause-fault
returns-then-is_open-clause-fault c =
    group_left c.args.bytes.now c.loop-rest.rest.now c.loop-rest.count c.loop-rest.draft c.loop-rest.invariant.lines_read (sym c.is_empty.ensures ∙ c.loop-rest-test.false) (sym c.is_open.ensures ∙ c.if-is_open.true)

-- at the end all lines are read
whole : (c : goal.After-into_script) → SpellsScript c.args.bytes.now c.into_script.result
whole c =
    subst (SpellsScript c.args.bytes.now) (sym c.into_script.ensures)
    (all_lines_read c.args.bytes.now c.loop-rest.rest.now c.loop-rest.count c.loop-rest.draft c.loop-rest.invariant.lines_read (sym c.is_empty.ensures ∙ c.loop-rest-test.false) (sym c.is_open.ensures ∙ c.if-is_open.false)
    (subst IsDraft c.draft-2.view_is c.draft-2.invariant.0))

pub returns-clause-spells : goal.returns-clause-spells
returns-clause-spells c = whole c

pub returns-clause-faultless : goal.returns-clause-faultless
returns-clause-faultless c = script_has_no_fault c.args.bytes.now c.into_script.result (whole c)
