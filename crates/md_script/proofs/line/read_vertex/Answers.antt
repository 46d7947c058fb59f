use Rattle.md_text.specs.Fields.{fields}
use Rattle.md_script.proofs.LineLemmas.{vertex_named, vertex_passed, name_refused}
use Rattle.md_script.proofs.line.read_vertex.Goals as goal

pub returns-in-Some-clause-names : goal.returns-in-Some-clause-names
returns-in-Some-clause-names c =
    vertex_named c.checked_name.result (fields c.args.rest.now) _ _ c.in-Some.ensures.field c.number.ensures.value c.checked_name.ensures.name

pub returns-in-Some-clause-faultless : goal.returns-in-Some-clause-faultless
returns-in-Some-clause-faultless c =
    vertex_passed c.checked_name.result (fields c.args.rest.now) _ _ c.in-Some.ensures.field c.number.ensures.value c.checked_name.ensures.faultless

pub returns-in-Some-clause-fault : goal.returns-in-Some-clause-fault
returns-in-Some-clause-fault c =
    name_refused c.checked_name.result (fields c.args.rest.now) _ _ c.in-Some.ensures.field c.number.ensures.value c.checked_name.ensures.fault
