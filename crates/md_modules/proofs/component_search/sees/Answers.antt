use Rattle.md_modules.proofs.Turns.{sees_seen, sees_unseen}
use Rattle.md_modules.proofs.component_search.sees.Goals as goal

pub returns-then-value : goal.returns-then-value
returns-then-value g c =
    sees_seen c.neighbours-row.ensures.graph c.args.w c.args.value c.args.among.now c.args.apart.now c.neighbours-row.result.now c.first_in_symmetric_difference.result c.is_some.result c.if-value.true c.neighbours-row.ensures.set
    c.requires.apart c.first_in_symmetric_difference.ensures.found c.first_in_symmetric_difference.ensures.none c.is_some.ensures

pub returns : goal.returns
returns g c =
    sees_unseen c.neighbours-row.ensures.graph c.args.w c.args.value c.args.among.now c.neighbours-row.result.now c.first_in_symmetric_difference-2.result c.is_some-2.result c.if-value.false c.neighbours-row.ensures.set
    c.first_in_symmetric_difference-2.ensures.found c.first_in_symmetric_difference-2.ensures.none c.is_some-2.ensures
