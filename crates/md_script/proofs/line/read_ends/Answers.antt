use Rattle.md_script.proofs.LineLemmas.{ends_named, ends_passed, ends_refused}
use Rattle.md_script.proofs.line.read_ends.Goals as goal

pub returns-in-Some-clause-names : goal.returns-in-Some-clause-names
returns-in-Some-clause-names c =
    ends_named c.checked_ends.result c.args.rest.now _ _ c.in-Some.ensures.numbers c.checked_ends.ensures.first c.checked_ends.ensures.second

pub returns-in-Some-clause-faultless : goal.returns-in-Some-clause-faultless
returns-in-Some-clause-faultless c =
    ends_passed c.checked_ends.result c.args.rest.now _ _ c.in-Some.ensures.numbers c.checked_ends.ensures.faultless

pub returns-in-Some-clause-fault : goal.returns-in-Some-clause-fault
returns-in-Some-clause-fault c =
    ends_refused c.checked_ends.result c.args.rest.now _ _ c.in-Some.ensures.numbers c.checked_ends.ensures.fault
