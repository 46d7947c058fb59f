use Rattle.md_text.specs.Fields.{fields}
use Rattle.md_dimacs.proofs.LineLemmas.{edge_field_count, ends_read, ends_passed, ends_refused}
use Rattle.md_dimacs.proofs.line.read_ends.Goals as goal

pub returns-in-Some-clause-ends : goal.returns-in-Some-clause-ends
returns-in-Some-clause-ends c =
    ends_read c.checked_ends.result c.args.rest.now _ _ c.in-Some.ensures.numbers c.checked_ends.ensures.ends

pub returns-in-Some-clause-faultless : goal.returns-in-Some-clause-faultless
returns-in-Some-clause-faultless c =
    ends_passed c.checked_ends.result c.args.n c.args.rest.now _ _ c.in-Some.ensures.numbers c.checked_ends.ensures.faultless

pub returns-in-Some-clause-fault : goal.returns-in-Some-clause-fault
returns-in-Some-clause-fault c =
    ends_refused c.checked_ends.result c.args.n c.args.rest.now _ _ c.in-Some.ensures.numbers c.checked_ends.ensures.fault

pub returns-in-None-clause-fault : goal.returns-in-None-clause-fault
returns-in-None-clause-fault c = edge_field_count c.args.n (fields c.args.rest.now) c.in-None.ensures.other_count
