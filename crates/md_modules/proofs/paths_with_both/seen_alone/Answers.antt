use Rattle.md_modules.proofs.BothPaths.{alone}
use Rattle.md_modules.proofs.paths_with_both.seen_alone.Goals as goal

pub returns : goal.returns
returns g c = alone c.row.ensures.graph c.args.u c.args.v _ _ c.row.ensures.set c.row-2.ensures.set _ _ c.minus-names.ensures.value c.remove.ensures.changed
