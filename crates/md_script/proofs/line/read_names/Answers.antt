use Rattle.md_text.specs.Fields.{fields}
use Rattle.std.proofs.lemmas.Result.{err_from_is_err_and}
use Rattle.md_script.proofs.LineLemmas.{read_more, read_refused, read_all, read_faultless}
use Rattle.md_script.proofs.line.read_names.Goals as goal

pub returns-in_err-checked_name-clause-fault : goal.returns-in_err-checked_name-clause-fault
returns-in_err-checked_name-clause-fault c =
    let p = err_from_is_err_and c.from_residual.result c.from_residual.ensures.1 in
    rw (p.1, p.2)
    (read_refused (fields c.args.text.now) c.loop-number.rest.now c.in-Some.more.now c.in-Some.number c.in_err-checked_name.field-0.0 c.loop-number.names c.loop-number.invariant c.in-Some.ensures.number c.in_err-checked_name.ensures.fault)

pub loop-number-preserved : goal.loop-number-preserved
loop-number-preserved c =
    read_more (fields c.args.text.now) c.loop-number.rest.now c.in-Some.more.now c.in-Some.number c.in_ok-checked_name.field-0 c.loop-number.names c.insert.new.self c.loop-number.invariant
    c.in-Some.ensures.number c.in_ok-checked_name.ensures.name c.in_ok-checked_name.ensures.faultless c.insert.ensures.changed

pub returns-clause-names : goal.returns-clause-names
returns-clause-names c = read_all _ (fields c.loop-number.rest.now) _ c.loop-number.invariant c.in_default.ensures.none

pub returns-clause-faultless : goal.returns-clause-faultless
returns-clause-faultless c = read_faultless _ (fields c.loop-number.rest.now) _ c.loop-number.invariant c.in_default.ensures.none
