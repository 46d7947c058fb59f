use Rattle.std.proofs.Common.{◌+◌, refl, arith, sym, ◌∙◌}
use Rattle.md_text.specs.Lines.{lines}
use Rattle.md_dimacs.proofs.ReadLemmas.{one_passed, refused_before, no_problem}
use Rattle.md_dimacs.proofs.reader.find_problem.Goals as goal

pub loop-rest-preserved : goal.loop-rest-preserved
loop-rest-preserved c = record {
  before = one_passed _ c.loop-rest.count _ c.split_line.result.0.now c.without_return.result.now _ c.loop-rest.invariant.before c.split_line.ensures.cut c.without_return.ensures.value (rw c.in-Ok-None.field-0-is at c.in-Ok-None.ensures.read);
  room = omega (arith, c.split_line.ensures.rest_shorter);
}

pub returns-in-Err-clause-fault : goal.returns-in-Err-clause-fault
returns-in-Err-clause-fault c =
    refused_before c.args.limit _ c.loop-rest.count _ c.split_line.result.0.now c.without_return.result.now _ c.in-Err.kind c.loop-rest.invariant.before c.split_line.ensures.cut c.without_return.ensures.value c.in-Err.ensures.fault

pub returns-clause-fault : goal.returns-clause-fault
returns-clause-fault c =
    no_problem c.args.limit (lines c.args.bytes.now) c.loop-rest.count c.loop-rest.rest.now (c.loop-rest.count + 1) c.loop-rest.invariant.before (sym c.is_empty.ensures ∙ c.loop-rest-test.false) refl
