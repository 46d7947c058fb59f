use Rattle.md_digraph.proofs.ArcTurns.{lacks_test, has_test}
use Rattle.md_digraph.proofs.components.differs.Goals as goal

pub returns-then-value : goal.returns-then-value
returns-then-value g c =
    lacks_test c.args.row.now c.args.among.now c.args.value c.first_in_symmetric_difference.result c.is_some.result c.if-value.true c.first_in_symmetric_difference.ensures.found c.first_in_symmetric_difference.ensures.none c.is_some.ensures

pub returns : goal.returns
returns g c =
    has_test c.args.row.now c.args.among.now c.args.apart.now c.args.value c.first_in_symmetric_difference-2.result c.is_some-2.result c.if-value.false c.requires c.first_in_symmetric_difference-2.ensures.found c.first_in_symmetric_difference-2.ensures.none c.is_some-2.ensures
