use Rattle.md_modules.proofs.Turns.{alike_test}
use Rattle.md_modules.proofs.module_search.see_alike.Goals as goal

pub returns : goal.returns
returns g c =
    alike_test c.row.ensures.graph c.args.v c.args.w c.args.others.now c.row.result.now c.row-2.result.now c.first_in_symmetric_difference.result c.is_none.result c.row.ensures.set c.row-2.ensures.set
    c.first_in_symmetric_difference.ensures.found c.first_in_symmetric_difference.ensures.none c.is_none.ensures
